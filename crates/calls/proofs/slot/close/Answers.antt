-- `calls::slot::close` meets its contract: at each return a law says which refusal it is.
use Rattle.calls.proofs.Steps.{close-none, close-done}
use Rattle.calls.proofs.slot.close.Goals as goal

pub returns-then-not-in_use : goal.returns-then-not-in_use
returns-then-not-in_use c = close-none _ _ _ c.in_use.ensures c.if-not-in_use.true

pub returns : goal.returns
returns c = close-done _ _ _ c.in_use.ensures c.if-not-in_use.false c.closed-stream.ensures
