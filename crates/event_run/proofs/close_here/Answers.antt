-- `event_run::close_here` meets its contract: a close behind a rebuild of its index is the close without an index.
use Rattle.std.proofs.Common.{refl}
use Rattle.calls.specs.Calls.{closing}
use Rattle.event_run.proofs.Fresh.{fresh_meets}
use Rattle.event_run.proofs.close_here.Goals as goal

pub returns : goal.returns
returns c = fresh_meets _ c.args.table.now (closing c.args.slot) refl tt c.rebuild.ensures c.close.ensures
