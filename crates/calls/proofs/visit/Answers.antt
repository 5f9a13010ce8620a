-- `calls::visit` meets its contract.
use Rattle.calls.proofs.Visits.{visits}
use Rattle.calls.proofs.visit.Goals as goal

pub returns : goal.returns
returns c = visits _ _ _ _ _ c.tick-k.ensures c.counted-resets.ensures c.counted-damaged.ensures
