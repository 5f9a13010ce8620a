-- Document 01, "Event file and the program `events`": what holds of the records of a buffer. Assumes nothing.
use Rattle.std.specs.Prelude.{◌≡◌, ℕ, ◌≤◌, List, length}
use Rattle.calls.specs.Table.{Table}
use Rattle.event_run.specs.declared.Place.{Place}
use Rattle.event_run.specs.Run.{Work, drained_in, drained_of, Drains, Drained}

-- There are no more records than bytes: more steps answer the same.
abbrev pub EnoughRecords : Type 0
EnoughRecords = (most : ℕ) (input : List ℕ) (w : Work) → length input ≤ most → drained_in most input w ≡ drained_of input w

-- Two outcomes coincide: table, place, lines and output.
abbrev pub DrainsCoincide : Type 0
DrainsCoincide =
    (t : Table) (p : Place) (input old out : List ℕ) (u v : Table) (r s : Place) (new lines left output : List ℕ)
    → Drains t p input old out u r new left → Drains t p input old out v s lines output
    → (u ≡ v) × (r ≡ s) × (new ≡ lines) × (left ≡ output)

-- What is due stays due, and no record is left that could be answered. (A buffer that is lent keeps its length; so every
-- line had room.)
abbrev pub DrainsKeep : Type 0
DrainsKeep =
    (t : Table) (p : Place) (input old out : List ℕ) (u : Table) (r : Place) (new left : List ℕ) → length new ≡ length old
    → Drains t p input old out u r new left → Drained t p input old out u r new
