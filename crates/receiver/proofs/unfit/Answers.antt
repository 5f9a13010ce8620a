-- `receiver::unfit` meets its contract.
use Rattle.std.proofs.Common.{ap, ◌∙◌}
use Rattle.index.specs.Indexed.{told_unfit}
use Rattle.refusal.proofs.Checks.{passed-on}
use Rattle.receiver.proofs.Closing.{many-unfit, other-unfit, sizes-refuse, told-differs}
use Rattle.receiver.proofs.unfit.Goals as goal

pub returns-in_err-table_fits : goal.returns-in_err-table_fits
returns-in_err-table_fits c =
    let ix = c.args.index.now in
    let t = c.args.t.now in
    ap told_unfit (passed-on _ c.from_residual.ensures.1) ∙ sizes-refuse ix t _ (many-unfit ix t _ c.table_fits.ensures _ c.in_err-table_fits.was)

pub returns-in_default : goal.returns-in_default
returns-in_default c =
    let ix = c.args.index.now in
    let t = c.args.t.now in
    sizes-refuse ix t _ (other-unfit ix t _ c.table_fits.ensures c.in_ok-table_fits.was c.in_default.ensures.cases)

pub returns : goal.returns
returns c =
    told-differs c.args.index.now _ c.args.t.now _ c.table_fits.ensures c.in_ok-table_fits.was c.in-Some.ensures.cases _ c.agreed.ensures _ c.differs.ensures
