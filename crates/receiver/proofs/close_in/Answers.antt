-- `receiver::close_in` meets its contract: of a table that is not too long, the steps are the close.
use Rattle.std.proofs.Common.{refl, arith, ap, ◌∙◌, sym, ◌<◌, ◌≤◌, ◌≡◌, length, set, Err}
use Rattle.record.specs.Sizes.{slots_most}
use Rattle.stream.specs.Record.{closed}
use Rattle.calls.specs.Said.{said_done}
use Rattle.calls.specs.Table.{at, blank}
use Rattle.std.proofs.lemmas.List.{get_or_default}
use Rattle.calls.proofs.Slots.{many-refused, close-refused-so, close-meets}
use Rattle.refusal.proofs.Checks.{passed-on}
use Rattle.receiver.proofs.Closing.{few-slots, many-slots, close-within, close-is}
use Rattle.receiver.proofs.close_in.Goals as goal

pub returns-in_err-table_fits : goal.returns-in_err-table_fits
returns-in_err-table_fits c =
    let m = many-slots c.args.t.now _ c.table_fits.ensures _ c.in_err-table_fits.was in
    many-refused _ _ m.1 (ap said_done (passed-on _ c.from_residual.ensures.1 ∙ ap Err m.0))

pub returns-in_err-close : goal.returns-in_err-close
returns-in_err-close c =
    close-refused-so c.args.t.now _ (few-slots c.args.t.now _ c.table_fits.ensures c.in_ok-table_fits.was) c.record_at.ensures _ _ (sym c.close.ensures ∙ c.in_err-close.was)
    (passed-on _ c.from_residual-in_err-close.ensures.1)

pub slice_copy_out-closed : goal.slice_copy_out-closed
slice_copy_out-closed c = close-within _ c.args.slot _ (sym c.close.ensures ∙ c.in_ok-close.was)

pub offset_bounds-t-slot : goal.offset_bounds-t-slot
offset_bounds-t-slot c =
    let t = c.args.t.now in
    let few : length t ≤ slots_most = few-slots t _ c.table_fits.ensures c.in_ok-table_fits.was in
    let here : c.args.slot < length t = close-within (length t) c.args.slot _ (sym c.close.ensures ∙ c.in_ok-close.was) in
    omega (arith, few, here)

pub bounds-t-slot : goal.bounds-t-slot
bounds-t-slot c = close-within _ c.args.slot _ (sym c.close.ensures ∙ c.in_ok-close.was)

pub returns : goal.returns
returns c =
    let t = c.args.t.now in
    let few = few-slots t _ c.table_fits.ensures c.in_ok-table_fits.was in
    let next = close-is (length t) c.args.slot c.record_at.result (sym c.close.ensures ∙ c.in_ok-close.was) in
    let here = close-within (length t) c.args.slot _ (sym c.close.ensures ∙ c.in_ok-close.was) in
    let again : c.closed.result ≡ closed (at t c.args.slot) = c.closed.ensures ∙ ap closed (get_or_default t c.args.slot _ blank here) in
    let stored : c.closed.result ≡ c.in_ok-close.field-0 = again ∙ ap closed (sym c.record_at.ensures) ∙ sym next in
    close-meets t _ few c.record_at.ensures _ (sym c.close.ensures ∙ c.in_ok-close.was) (ap (set t c.args.slot) stored) refl
