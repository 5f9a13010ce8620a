-- `frame::cut_at` meets its contract: the front, and what is behind the six bytes, copied behind it.
use Rattle.std.proofs.Common.{arith, ◌+◌, take, length-take}
use Rattle.frame.specs.Frame.{cut_at}
use Rattle.frame.proofs.Bytes.{tail-copied}
use Rattle.frame.proofs.cut_at.Goals as goal

pub returns : goal.returns
unfolding cut_at
returns c =
    tail-copied c.args.at (c.args.at + 6) (take c.args.at c.args.frame.now) c.args.frame.now c.args.out.now (simp length-take (omega arith))
    c.copy.ensures c.copy-2.ensures
