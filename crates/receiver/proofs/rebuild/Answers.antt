-- `receiver::rebuild` meets its contract.
use Rattle.refusal.proofs.Checks.{passed-on}
use Rattle.receiver.proofs.Closing.{few-slots, many-unfit, other-unfit}
use Rattle.receiver.proofs.Opening.{rebuild-refused, rebuild-done}
use Rattle.receiver.proofs.rebuild.Goals as goal

pub returns-in_err-table_fits : goal.returns-in_err-table_fits
returns-in_err-table_fits c =
    let ix = c.args.index.now in
    let t = c.args.t.now in
    rw (passed-on _ c.from_residual.ensures.1) (rebuild-refused ix t _ (many-unfit ix t _ c.table_fits.ensures _ c.in_err-table_fits.was))

pub returns-in_default : goal.returns-in_default
returns-in_default c =
    let ix = c.args.index.now in
    let t = c.args.t.now in
    rebuild-refused ix t _ (other-unfit ix t _ c.table_fits.ensures c.in_ok-table_fits.was c.in_default.ensures.cases)

pub returns : goal.returns
returns c =
    let t = c.args.t.now in
    rebuild-done c.args.index.now t (few-slots t _ c.table_fits.ensures c.in_ok-table_fits.was, c.in-Some.ensures.cases.long) _ c.refill.ensures
