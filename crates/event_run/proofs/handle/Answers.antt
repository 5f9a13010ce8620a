-- `event_run::handle` meets its contract: the call that the body asks for is made, and a law says that its answer is the record's.
use Rattle.std.proofs.Common.{refl, rules, ◌≤◌, length}
use Rattle.std.proofs.lemmas.List.{take_rest}
use Rattle.event_run.proofs.Handles.{arrival-long, handled-bad, handled-open, handled-close, handled-reset, handled-arrival, handled-tick}
use Rattle.event_run.proofs.handle.Goals as goal

pub returns-in_err-event : goal.returns-in_err-event
returns-in_err-event c = rw c.from_residual.ensures (handled-bad _ _ _ refl (rw c.in_err-event.was at c.decode.ensures))

pub returns-in-Open : goal.returns-in-Open
returns-in-Open c = handled-open _ _ _ c.in-Open.s (rw c.in-Open.is at c.in_ok-event.ensures) c.destination.ensures c.open_here.ensures refl

pub returns-in-Close : goal.returns-in-Close
returns-in-Close c = handled-close _ _ _ c.in-Close.slot (rw c.in-Close.is at c.in_ok-event.ensures) c.close_here.ensures refl

pub returns-in-Reset : goal.returns-in-Reset
returns-in-Reset c = handled-reset _ _ _ c.in-Reset.slot (rw c.in-Reset.is at c.in_ok-event.ensures) c.reset.ensures refl

pub slice_bounds-arrival-count : goal.slice_bounds-arrival-count
slice_bounds-arrival-count c = arrival-long _ (rw c.in-Arrival.is at c.in_ok-event.ensures)

pub slice_bounds-arrival-start : goal.slice_bounds-arrival-start
slice_bounds-arrival-start c =
    let long : 2 ≤ length c.args.body.now = arrival-long _ (rw c.in-Arrival.is at c.in_ok-event.ensures) in search rules

pub returns-in-Arrival : goal.returns-in-Arrival
returns-in-Arrival c = handled-arrival _ _ _ c.in-Arrival.network (rw c.in-Arrival.is at c.in_ok-event.ensures) (take_rest c.args.body.now 2) c.arrival.ensures refl

pub returns-in-Tick : goal.returns-in-Tick
returns-in-Tick c = handled-tick _ _ _ (rw c.in-Tick.is at c.in_ok-event.ensures) c.tick.ensures refl
