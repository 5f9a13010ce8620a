-- `event_run::drain` meets its contract: each turn answers one record more, and the last finds none.
use Rattle.std.proofs.Common.{◌≤◌, length, arith, rules, sym, ap, ◌∙◌}
use Rattle.event_run.specs.Run.{Work, drained_of}
use Rattle.event_run.proofs.Nexts.{found}
use Rattle.event_run.proofs.Draining.{drained-none, drained-one, one_more}
use Rattle.event_run.proofs.drain.Goals as goal

pub slice_bounds-handle-count : goal.slice_bounds-handle-count
slice_bounds-handle-count c = let f = (found _ c.args.input.now _ _ (sym c.in-Some.ensures)).whole in omega (arith, f.end)

pub slice_bounds-handle-start : goal.slice_bounds-handle-start
slice_bounds-handle-start c =
    let f = (found _ c.args.input.now _ _ (sym c.in-Some.ensures)).whole in
    let within : c.in-Some.body.start ≤ c.in-Some.body.end = omega (arith, f.end) in search rules

pub slice_bounds-handle-end : goal.slice_bounds-handle-end
slice_bounds-handle-end c =
    let f = (found _ c.args.input.now _ _ (sym c.in-Some.ensures)).whole in
    let within : c.in-Some.body.end ≤ length c.args.input.now = f.room in search rules

pub loop-body-smaller : goal.loop-body-smaller
loop-body-smaller c =
    let f = (found _ c.args.input.now _ _ (sym c.in-Some.ensures)).whole in
    omega (arith, c.note-p.ensures.place, f.start, f.end, f.room)

pub loop-body-preserved : goal.loop-body-preserved
loop-body-preserved c =
    let e = sym c.in-Some.ensures in
    ap (drained_of c.args.input.now)
    (one_more c.loop-body.table _ c.loop-body.p _ c.args.input.now c.loop-body.lines _ c.loop-body.out _ _ _ _ (found _ _ _ _ e) c.handle-told.ensures c.note-p.ensures)
    ∙ (drained-one c.args.input.now
    (record { table = c.loop-body.table; place = c.loop-body.p; lines = c.loop-body.lines; out = c.loop-body.out }) _ e ∙ c.loop-body.invariant)

pub returns : goal.returns
returns c =
    let w : Work = record { table = c.loop-body.table; place = c.loop-body.p; lines = c.loop-body.lines; out = c.loop-body.out } in
    record { same = sym (drained-none c.args.input.now w (sym c.in_default.ensures)) ∙ c.loop-body.invariant }
