-- Document 01, "Event file and the program `events`": what holds of the definitions. Assumes nothing.
use Rattle.std.specs.Prelude.{ℕ, ◌≤◌, ◌≡◌, List, ◌++◌, length}
use Rattle.record.specs.Sizes.{frame_most}
use Rattle.calls.specs.Table.{Table}
use Rattle.event_file.specs.Records.{records_in, records_of, asked}
use Rattle.event_file.specs.Files.{output, entry_for, table_after, out_after}
use Rattle.event_file.specs.Buffers.{Writes}
use Rattle.event_file.specs.Pieces.{pieces_of, all_of}

-- There are no more records than bytes: more steps find the same.
abbrev pub EnoughSteps : Type 0
EnoughSteps = (most : ℕ) (s : List ℕ) → length s ≤ most → records_in most s ≡ records_of s

-- Nothing depends on how the input is cut into reads: a reader that holds what is left of a record, and takes the whole
-- records of it and the next piece, finds the records of all the pieces joined.
abbrev pub AnyPieces : Type 0
AnyPieces = (held : List ℕ) (pieces : List (List ℕ)) → pieces_of held pieces ≡ records_of (held ++ all_of pieces)

-- Neither what is told of a record nor the table after it depends on what the output buffer holds.
abbrev pub AnyOutput : Type 0
AnyOutput =
    (t : Table) (b out : List ℕ) → length out ≡ frame_most
    → (entry_for t (asked out b) ≡ entry_for t (asked output b)) × (table_after t (asked out b) ≡ table_after t (asked output b))

-- No record changes how many bytes the output buffer has.
abbrev pub OutputLength : Type 0
OutputLength = (t : Table) (b out : List ℕ) → length (out_after t out (asked out b)) ≡ length out

-- Two outcomes of a line writer coincide.
abbrev pub WritesCoincide : Type 0
WritesCoincide =
    (most : ℕ) (new : List ℕ) (at : ℕ) (old now other : List ℕ) (next behind : ℕ)
    → Writes most new at old now next → Writes most new at old other behind → (now ≡ other) × (next ≡ behind)
