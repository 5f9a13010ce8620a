-- Document 01, "Event file and the program `events`": what a whole event file prints. Assumes nothing.
use Rattle.std.specs.Prelude.{ℕ, ◌+◌, List, [], ◌∷◌, ◌++◌, replicate, eqb}
use Prim.Native.Char.{code}
use Rattle.std.specs.Prelude.{if◌then◌else◌}
use Rattle.record.specs.Sizes.{frame_most}
use Rattle.calls.specs.Table.{Table, blank}
use Rattle.calls.specs.Calls.{Call, arriving, linking, opening, closing, resetting, ticking, act, after, answer, output as output_after}
use Rattle.event_file.specs.Text.{text}
use Rattle.event_file.specs.Records.{File, ended, cut, body, records_of, Asked, nothing, asks, asked}
use Rattle.event_file.specs.Lines.{Entry, bad, told, line_of}

-- the letter of a record that asks for a call: O C R A T
abbrev pub letter_for : Call → ℕ
letter_for (opening dest vlan rule window time) = code "O"
letter_for (closing slot) = code "C"
letter_for (resetting slot) = code "R"
letter_for (arriving network frame out) = code "A"
letter_for (linking network frame out) = code "A"  -- (no kind asks for it)
letter_for ticking = code "T"

-- What is told of a record, the table after it, and what the output buffer holds after it. A bad record leaves both.
unfoldable pub entry_for : Table → Asked → Entry
entry_for t nothing = bad
entry_for t (asks c) = told (letter_for c) (answer t (act t c))

unfoldable pub table_after : Table → Asked → Table
table_after t nothing = t
table_after t (asks c) = after t (act t c)

unfoldable pub out_after : Table → (out : List ℕ) → Asked → List ℕ
out_after t out nothing = out
out_after t out (asks c) = output_after t out (act t c)

-- The table has 8 slots, free at first;
abbrev pub free_table : Table
free_table = replicate 8 blank

-- the output buffer has 2000 bytes. What it holds is in no line.
abbrev pub output : List ℕ
output = replicate frame_most 0

-- What is printed of the records from one on that has this number, and of the end: the last line is `end`, or `cut` alone.
unfoldable pub lines_from : Table → (number : ℕ) → File → List ℕ
lines_from t number ended = text "end\n"
lines_from t number cut = text "cut\n"
lines_from t number (body b f) =
    line_of number (entry_for t (asked output b)) ++ lines_from (table_after t (asked output b)) (number + 1) f

-- Standard input: one version byte, 1, then records, numbered from 1. An absent or different version byte prints `version`
-- and nothing more.
unfoldable pub lines_of : List ℕ → List ℕ
lines_of [] = text "version\n"
lines_of (version ∷ s) = if eqb version 1 then lines_from free_table 1 (records_of s) else text "version\n"
