-- `event_run::drain`: what is left to answer leaves what all leaves.
use Rattle.std.proofs.Common.{◌≡◌, ◌-◌, length}
use Rattle.event_run.specs.Run.{Work, drained_of}
use Rattle.event_run.proofs.drain.Given as goal

abbrev pub invariant-loop-body : goal.invariant-loop-body
invariant-loop-body l =
    ◌≡◌ {A = Work} (drained_of l.input (record { table = l.table; place = l.p; lines = l.lines; out = l.out }))
    (drained_of l.input (record { table = l.fn.table; place = l.fn.p; lines = l.fn.lines; out = l.fn.out }))

abbrev pub decreases-loop-body : goal.decreases-loop-body
decreases-loop-body l = length l.input - l.p.at
