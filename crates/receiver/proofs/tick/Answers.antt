-- `receiver::tick` meets its contract: of a table that is not too long, what the sweep counts and stores is the tick.
use Rattle.std.proofs.Common.{refl, ap, ◌∙◌, Ok, Err}
use Rattle.calls.specs.Said.{said_swept}
use Rattle.calls.proofs.Slots.{many-refused, sweep-meets}
use Rattle.refusal.proofs.Checks.{passed-on}
use Rattle.receiver.proofs.Closing.{few-slots, many-slots}
use Rattle.receiver.proofs.tick.Goals as goal

pub returns-in_err-table_fits : goal.returns-in_err-table_fits
returns-in_err-table_fits c =
    let m = many-slots c.args.t.now _ c.table_fits.ensures _ c.in_err-table_fits.was in
    many-refused _ _ m.1 (ap said_swept (passed-on _ c.from_residual.ensures.1 ∙ ap Err m.0))

pub returns : goal.returns
returns c = sweep-meets _ (Ok c.sweep.result) (few-slots c.args.t.now _ c.table_fits.ensures c.in_ok-table_fits.was) c.sweep.ensures.0 c.sweep.ensures.1 refl
