-- `prp::Kind::write_last`: the first i bytes are the last ones of the kind, the rest as it was.
use Rattle.std.proofs.Common.{◌≡◌, ◌++◌, take, drop}
use Rattle.prp.proofs.Kind.write_last.Given as goal

abbrev pub invariant-loop-i : goal.invariant-loop-i
invariant-loop-i l = l.dst ≡ take l.i l.last ++ drop l.i l.fn.dst
