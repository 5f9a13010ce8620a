-- `receiver::reset` meets its contract: of a table that is not too long, the steps are the reset.
use Rattle.std.proofs.Common.{refl, arith, ap, ◌∙◌, sym, ◌<◌, ◌≤◌, length, Err}
use Rattle.record.specs.Sizes.{slots_most}
use Rattle.calls.specs.Said.{said_done}
use Rattle.calls.proofs.Slots.{many-refused, reset-refused-so, reset-meets}
use Rattle.refusal.proofs.Checks.{passed-on}
use Rattle.receiver.proofs.Closing.{few-slots, many-slots, reset-within}
use Rattle.receiver.proofs.reset.Goals as goal

pub returns-in_err-table_fits : goal.returns-in_err-table_fits
returns-in_err-table_fits c =
    let m = many-slots c.args.t.now _ c.table_fits.ensures _ c.in_err-table_fits.was in
    many-refused _ _ m.1 (ap said_done (passed-on _ c.from_residual.ensures.1 ∙ ap Err m.0))

pub returns-in_err-s : goal.returns-in_err-s
returns-in_err-s c =
    reset-refused-so c.args.t.now _ (few-slots c.args.t.now _ c.table_fits.ensures c.in_ok-table_fits.was) c.record_at.ensures _ _ (sym c.reset.ensures ∙ c.in_err-s.was)
    (passed-on _ c.from_residual-in_err-s.ensures.1)

pub offset_bounds-t-slot : goal.offset_bounds-t-slot
offset_bounds-t-slot c =
    let t = c.args.t.now in
    let few : length t ≤ slots_most = few-slots t _ c.table_fits.ensures c.in_ok-table_fits.was in
    let here : c.args.slot < length t = reset-within (length t) c.args.slot _ (sym c.reset.ensures ∙ c.in_ok-s.was) in
    omega (arith, few, here)

pub bounds-t-slot : goal.bounds-t-slot
bounds-t-slot c = reset-within _ c.args.slot _ (sym c.reset.ensures ∙ c.in_ok-s.was)

pub returns : goal.returns
returns c =
    reset-meets c.args.t.now _ (few-slots c.args.t.now _ c.table_fits.ensures c.in_ok-table_fits.was) c.record_at.ensures _ (sym c.reset.ensures ∙ c.in_ok-s.was) refl refl
