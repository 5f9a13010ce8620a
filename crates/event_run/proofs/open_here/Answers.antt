-- `event_run::open_here` meets its contract: an open behind a rebuild of its index is the open without an index.
use Rattle.std.proofs.Common.{refl}
use Rattle.calls.specs.Calls.{opening}
use Rattle.event_run.proofs.Fresh.{fresh_meets}
use Rattle.event_run.proofs.open_here.Goals as goal

pub returns : goal.returns
returns c = fresh_meets _ c.args.table.now (opening c.args.dest c.args.s.vlan c.args.s.rule c.args.s.window c.args.s.time) refl tt c.rebuild.ensures c.open.ensures
