-- Document 01, "Event file and the program `events`": the records in a buffer are answered, whatever the input brings after
-- it. The lines that wait and those still to come stay the lines of the file. Assumes nothing.
use Rattle.std.specs.Prelude.{◌≡◌, ℕ, zero, suc, ◌+◌, ◌-◌, ◌%◌, ◌^◌, ◌≤◌, ◌&&◌, List, ◌++◌, length, take, drop, nat_le, nat_lt, Option, Some, None}
use Rattle.std.specs.Prelude.{if◌then◌else◌}
use Rattle.record.specs.Sizes.{frame_most}
use Rattle.calls.specs.Table.{Table}
use Rattle.event_file.specs.Records.{records_of, read_at, Asked, asked}
use Rattle.event_file.specs.Lines.{line_of, said_told}
use Rattle.event_file.specs.Buffers.{written, Writes, line_most}
use Rattle.event_file.specs.Files.{entry_for, table_after, out_after, lines_from}
use Rattle.event_file.specs.declared.reader.Body.{Body}
use Rattle.event_file.specs.declared.line.Reply.{Reply}
use Rattle.event_run.specs.declared.Place.{Place}

-- The largest number that a record can have.
abbrev pub last_number : ℕ
last_number = 2 ^ 64 - 1

-- The next record that can be answered: it is whole, there is room for its line, and there is a number for the one after
-- it. (Nobody meets the last of these: a file of 2^64 records takes centuries.)
unfoldable pub next_of : Place → (input : List ℕ) (room : ℕ) → Option Body
next_of p input room =
    if nat_le (p.used + line_most) room && nat_lt p.number last_number then read_at input p.at
    else None

-- What the answer of a record leaves: the table and the output buffer after it, and what is told of it.
pub record Handled (t : Table) (b out : List ℕ) (after : Table) (told : Option Reply) (left : List ℕ) : Type 0 where
  pub table : after ≡ table_after t (asked out b)
  pub entry : said_told told ≡ entry_for t (asked out b)
  pub output : left ≡ out_after t out (asked out b)

-- What is noted of a record: its line behind those that wait, and the next record's number and place.
pub record Noted (p : Place) (end : ℕ) (told : Option Reply) (old new : List ℕ) (r : Place) : Type 0 where
  pub line : Writes line_most (line_of p.number (said_told told)) p.used old new r.used
  pub number : r.number ≡ (p.number + 1) % 2 ^ 64
  pub place : r.at ≡ end

-- ---- the records of a buffer, one after the other

-- What a run works on: the table, where it is, the line buffer and the output buffer.
pub record Work : Type 0 where
  pub table : Table
  pub place : Place
  pub lines : List ℕ
  pub out : List ℕ

-- The line of a record that asks for this, and what there is after it: what it asks for is done, its line stands behind
-- those that wait, and the next record is at `end`.
abbrev pub line_for : Work → Asked → List ℕ
line_for w a = line_of w.place.number (entry_for w.table a)

unfoldable pub work_after : Work → Asked → (end : ℕ) → Work
work_after w a end =
    record {
      table = table_after w.table a;
      place = record { number = w.place.number + 1; at = end; used = w.place.used + length (line_for w a) };
      lines = written w.place.used (line_for w a) w.lines;
      out = out_after w.table w.out a;
    }

-- If a record was read it is answered, and then the rest is; if not, all stays.
unfoldable pub goes_on : (input : List ℕ) (rest : Work → Work) → Work → Option Body → Work
goes_on input rest w None = w
goes_on input rest w (Some b) = rest (work_after w (asked w.out (take (b.end - b.start) (drop b.start input))) b.end)

-- The first `most` records that can be answered. A record takes two bytes or more, so there are no more records than bytes.
unfoldable pub drained_in : (most : ℕ) (input : List ℕ) → Work → Work
drained_in zero input w = w
drained_in (suc most) input w = goes_on input (drained_in most input) w (next_of w.place input (length w.lines))

unfoldable pub drained_of : (input : List ℕ) → Work → Work
drained_of input w = drained_in (length input) input w

-- All records that can be answered are: the table, the place and every byte of both buffers, whatever lengths these have.
pub record Drains (t : Table) (p : Place) (input old out : List ℕ) (u : Table) (r : Place) (new left : List ℕ) : Type 0 where
  pub same :
      ◌≡◌ {A = Work} (record { table = u; place = r; lines = new; out = left })
      (drained_of input (record { table = t; place = p; lines = old; out = out }))

-- ---- what a run needs of it, whose input comes in pieces

-- The lines that wait, and then all that is printed of the rest of the input, from this table and place on.
unfoldable pub due : Table → Place → (lines rest : List ℕ) → List ℕ
due t p lines rest = take p.used lines ++ lines_from t p.number (records_of rest)

-- Whatever comes after the input, what is due stays as it was; and the places stay within the buffers.
pub record Kept (t : Table) (p : Place) (input old : List ℕ) (u : Table) (r : Place) (new : List ℕ) : Type 0 where
  pub same : (rest : List ℕ) → due u r new (drop r.at input ++ rest) ≡ due t p old (drop p.at input ++ rest)
  pub within : p.at ≤ length input → r.at ≤ length input
  pub room : p.used ≤ length old → r.used ≤ length new

-- All records that can be answered are: with an output buffer of 2000 bytes what is due stays, and no such record is left.
pub record Drained (t : Table) (p : Place) (input old out : List ℕ) (u : Table) (r : Place) (new : List ℕ) : Type 0 where
  pub kept : length out ≡ frame_most → Kept t p input old u r new
  pub none : next_of r input (length new) ≡ None
