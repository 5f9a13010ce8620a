-- `receiver::refill`: the slots below i are entered.
use Rattle.std.proofs.Common.{◌≡◌}
use Rattle.index.specs.Index.{built}
use Rattle.receiver.proofs.refill.Given as goal

abbrev pub invariant-loop-i : goal.invariant-loop-i
invariant-loop-i l = l.index ≡ built l.t l.i
