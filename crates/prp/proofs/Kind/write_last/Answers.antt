-- `prp::Kind::write_last` meets its contract: at the loop's end all of the last bytes are written.
use Rattle.std.proofs.Common.{arith}
use Rattle.frame.proofs.Bytes.{copy-end}
use Rattle.prp.proofs.Kind.write_last.Goals as goal

pub returns : goal.returns
returns c = rw (← c.last-last.ensures) (copy-end _ _ c.loop-i.i c.loop-i.invariant (omega arith))
