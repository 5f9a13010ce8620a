-- `receiver::open` meets its contract.
use Rattle.std.proofs.Common.{ap, arith}
use Rattle.calls.specs.Said.{said_opened}
use Rattle.calls.specs.Calls.{opening}
use Rattle.refusal.proofs.Checks.{passed-on}
use Rattle.receiver.proofs.Closing.{unfit-refused, unfit-none, good-size}
use Rattle.receiver.proofs.Opening.{open-refused, open-stored}
use Rattle.receiver.proofs.open.Goals as goal

pub returns-in_err-unfit : goal.returns-in_err-unfit
returns-in_err-unfit c =
    let a = c.args in
    let ix = a.index.now in
    let t = a.t.now in
    unfit-refused ix t _ c.unfit.ensures (opening a.dest a.vlan a.rule a.window a.time) _ c.in_err-unfit.was (ap said_opened (passed-on _ c.from_residual.ensures.1))

pub returns-in_default : goal.returns-in_default
returns-in_default c =
    let ix = c.args.index.now in
    let t = c.args.t.now in
    absurd (c.in_default.ensures.cases (good-size ix t (unfit-none ix t _ c.unfit.ensures c.in_ok-unfit.was).1))

pub open_in-requires : goal.open_in-requires
open_in-requires c =
    let f = unfit-none c.args.index.now c.args.t.now _ c.unfit.ensures c.in_ok-unfit.was in
    let w = c.in-Some.ensures.cases in
    (f.0, rw w.same f.1)

pub returns-in_err-slot : goal.returns-in_err-slot
returns-in_err-slot c =
    let a = c.args in
    let ix = a.index.now in
    let t = a.t.now in
    let f = unfit-none ix t _ c.unfit.ensures c.in_ok-unfit.was in
    let w = c.in-Some.ensures.cases in
    rw w.same (open-refused ix t a.dest a.vlan a.rule a.window a.time f.1 _ _ c.open_in.ensures _ c.in_err-slot.was _ (passed-on _ c.from_residual-in_err-slot.ensures.1))

pub refill-requires : goal.refill-requires
refill-requires c = let f = unfit-none c.args.index.now c.args.t.now _ c.unfit.ensures c.in_ok-unfit.was in omega (arith, f.0)

pub returns : goal.returns
returns c =
    let a = c.args in
    let ix = a.index.now in
    let t = a.t.now in
    let f = unfit-none ix t _ c.unfit.ensures c.in_ok-unfit.was in
    open-stored ix t a.dest a.vlan a.rule a.window a.time f.1 _ _ c.open_in.ensures c.in_ok-slot.was _ c.refill.ensures
