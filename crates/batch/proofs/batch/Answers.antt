-- `batch::batch` meets its contract: all frames in the steps of the code are the batch.
use Rattle.batch.proofs.Comes.{mark-is, filled-is-batch}
use Rattle.batch.proofs.batch.Goals as goal

pub returns-in-Ok : goal.returns-in-Ok
returns-in-Ok c = filled-is-batch _ _ _ _ _ _ _ (rw (mark-is _ c.default-mark.ensures) at c.in-Ok.ensures)

pub returns-in-Err : goal.returns-in-Err
returns-in-Err c = rw c.into.ensures (filled-is-batch _ _ _ _ _ _ _ (rw (mark-is _ c.default-mark.ensures) at c.in-Err.ensures))
