-- The decisions that are left, made on the record as it is now, end where all of them end that are made on the first one.
use Rattle.std.proofs.Common.{◌≡◌, ◌-◌}
use Rattle.timing_row.specs.Row.{in_row}
use Rattle.timing_row.proofs.timing_row.Given as goal

abbrev pub invariant-loop : goal.invariant-loop
invariant-loop l = in_row (l.times - l.counter) l.t l.n l.step l.network ≡ in_row l.times l.initial.t l.initial.n l.step l.network
