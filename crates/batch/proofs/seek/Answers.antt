-- `batch::seek` meets its contract: where no length runs past the buffer, the next one stands within it.
use Rattle.std.proofs.Common.{arith}
use Rattle.batch.proofs.Lengths.{past-none}
use Rattle.batch.proofs.Bodies.{no-frame, one-frame}
use Rattle.batch.proofs.seek.Goals as goal

pub returns-then-c-eq0 : goal.returns-then-c-eq0
returns-then-c-eq0 c = no-frame _ _ _ (omega arith)

pub length_at-size-requires : goal.length_at-size-requires
length_at-size-requires c = omega (arith, (past-none _ c.args.c.at c.args.c.left (omega arith) (omega arith) c.requires.1).0)

pub returns : goal.returns
returns c = one-frame _ _ _ (λ e. omega arith) c.length_at-size.ensures.0 c.from_of-from.ensures
