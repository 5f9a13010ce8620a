-- `receiver::close` meets its contract.
use Rattle.std.proofs.Common.{ap, arith}
use Rattle.calls.specs.Said.{said_done}
use Rattle.calls.specs.Calls.{closing}
use Rattle.refusal.proofs.Checks.{passed-on}
use Rattle.receiver.proofs.Closing.{unfit-refused, unfit-none, good-size, close-refused, close-stored}
use Rattle.receiver.proofs.close.Goals as goal

pub returns-in_err-unfit : goal.returns-in_err-unfit
returns-in_err-unfit c =
    let ix = c.args.index.now in
    let t = c.args.t.now in
    unfit-refused ix t _ c.unfit.ensures (closing c.args.slot) _ c.in_err-unfit.was (ap said_done (passed-on _ c.from_residual.ensures.1))

pub returns-in_default : goal.returns-in_default
returns-in_default c =
    let ix = c.args.index.now in
    let t = c.args.t.now in
    absurd (c.in_default.ensures.cases (good-size ix t (unfit-none ix t _ c.unfit.ensures c.in_ok-unfit.was).1))

pub returns-in_err-close_in : goal.returns-in_err-close_in
returns-in_err-close_in c =
    let ix = c.args.index.now in
    let t = c.args.t.now in
    let f = unfit-none ix t _ c.unfit.ensures c.in_ok-unfit.was in
    let w = c.in-Some.ensures.cases in
    rw w.same (close-refused ix t c.args.slot f.1 _ _ c.close_in.ensures _ c.in_err-close_in.was _ (passed-on _ c.from_residual-in_err-close_in.ensures.1))

pub refill-requires : goal.refill-requires
refill-requires c = let f = unfit-none c.args.index.now c.args.t.now _ c.unfit.ensures c.in_ok-unfit.was in omega (arith, f.0)

pub returns : goal.returns
returns c =
    let ix = c.args.index.now in
    let t = c.args.t.now in
    let f = unfit-none ix t _ c.unfit.ensures c.in_ok-unfit.was in
    close-stored ix t c.args.slot f.1 _ _ c.close_in.ensures c.in_ok-close_in.was _ c.refill.ensures
