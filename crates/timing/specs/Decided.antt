-- Document 01, "Decisions": one decision, as the benchmark has it made. Assumes nothing.
use Rattle.std.specs.Prelude.{ℕ, Option, Some, None}
use Rattle.record.specs.declared.Stream.{Stream}
use Rattle.stream.specs.declared.Weighed.{Weighed}
use Rattle.stream.specs.declared.Weighed.TheVariants.{HandedUp, Duplicate, Rogue}
use Rattle.stream.specs.Steps.{weighed, record_after}
use Rattle.timing.specs.declared.Decided.{Decided}

-- What an arrival was to the record, as a number.
abbrev pub tell : Option Weighed → ℕ
tell None = 0
tell (Some (HandedUp m)) = 1
tell (Some Duplicate) = 2
tell (Some Rogue) = 3

-- The record after an arrival, and what the arrival was to it.
abbrev pub decided_of : Stream → (number network : ℕ) → Decided
decided_of s number network = record { stream = record_after s network (weighed s number); verdict = tell (weighed s number) }
