-- The same batch in the steps that the code takes, frame by frame. `proofs/` shows that they come to what `Batch` says.
-- Assumes nothing.
use Rattle.std.specs.Prelude.{ℕ, zero, suc, ◌+◌, ◌-◌, ◌/◌, ◌%◌, ◌≡◌, Bool, not, ◌||◌, Option, Some, None, Result as Answered, List, ◌++◌, eqb, ltb, leb, length, take, drop, set}
use Rattle.refusal.specs.Checks.{Said, said}
use Rattle.refusal.specs.Checks.Said.{refused, answers}
use Rattle.refusal.specs.Numbers.{NETWORK, ROOM, BATCH}
use Rattle.refusal.specs.declared.Refusal.{Refusal}
use Rattle.std.specs.Prelude.{if◌then◌else◌}
use Rattle.frame.specs.Bytes.{word}
use Rattle.calls.specs.Table.{Table}
use Rattle.calls.specs.Calls.{arriving, Result, result_of}
use Rattle.calls.specs.Told.{tell_arrival}
use Rattle.calls.specs.Said.{said_arrival}
use Rattle.calls.specs.declared.ArrivalAnswer.{ArrivalAnswer}
use Rattle.calls.specs.declared.Arrived.{Arrived}
use Rattle.index.specs.Index.{Index}
use Rattle.index.specs.Indexed.{unfit_of}
use Rattle.batch.specs.Batch.{Batch, frames_most, runs_past}
use Rattle.batch.specs.declared.Cursor.{Cursor}
use Rattle.batch.specs.declared.Next.{Next}

-- ---- where a batch is

-- At the start: 1 or 18 (`unfit_of` of `index`, 0 for neither), 2 and 15, or `left` frames to come.
abbrev pub starts_with : (left : ℕ) → Cursor
starts_with left = record { at = 0; used = 0; left = left; frames = 0 }

unfoldable pub begun : (unfit network count : ℕ) (frames : List ℕ) → Said Cursor
begun unfit network count s =
    if not (eqb unfit 0) then refused unfit
    else if ltb 1 network then refused NETWORK
    else if ltb frames_most count || runs_past count s then refused BATCH
    else answers (starts_with count)

-- where the output begins that a frame is given: behind its two length bytes, or at the end
abbrev pub from_of : (used room : ℕ) → ℕ
from_of used room = if leb (used + 2) room then used + 2 else room

-- the next frame, and none behind the last
abbrev pub frame_at : (start end from : ℕ) → Option Next
frame_at start end from = Some (record { start = start; end = end; from = from })

unfoldable pub next_frame : Cursor → (frames : List ℕ) (room : ℕ) → Option Next
next_frame c s room =
    if eqb c.left 0 then None
    else frame_at (c.at + 2) (c.at + 2 + word s c.at) (from_of c.used room)

-- ---- behind a frame, by its answer

-- the answer in plain fields, as it is noted
abbrev pub told : Answered Arrived Refusal → ArrivalAnswer
told answer = tell_arrival (said_arrival answer)

abbrev pub handed : ArrivalAnswer → Bool
handed e = eqb e.verdict 1

abbrev pub added : ArrivalAnswer → ℕ
added e = if handed e then 2 + e.length else 0

-- its two length bytes, in front of it
unfoldable pub length_put : (used : ℕ) → ArrivalAnswer → List ℕ → List ℕ
length_put used e out = if handed e then set (set out used (e.length / 256 % 256)) (used + 1) (e.length % 256) else out

abbrev pub stops : ArrivalAnswer → Bool
stops e = eqb e.refusal ROOM

unfoldable pub cursor_after : Cursor → (end : ℕ) → ArrivalAnswer → Cursor
cursor_after c end e = record {
  at = end;
  used = c.used + added e;
  left = if stops e then 0 else c.left - 1;
  frames = if stops e then c.frames else c.frames + 1;
}

-- ---- all frames

-- What a batch works on.
pub record Work : Type 0 where
  pub table : Table
  pub cursor : Cursor
  pub out : List ℕ
  pub answers : List ArrivalAnswer

-- The single arrival of a frame: it is given the output from a place on.
abbrev pub result_at : (network : ℕ) → Work → (frame : List ℕ) (from : ℕ) → Result
result_at network w f from = result_of w.table (arriving network f (drop from w.out))

unfoldable pub work_after : Work → Result → (end from : ℕ) → Work
work_after w r end from = record {
  table = r.table;
  cursor = cursor_after w.cursor end (tell_arrival r.said);
  out = length_put w.cursor.used (tell_arrival r.said) (take from w.out ++ r.output);
  answers = set w.answers w.cursor.frames (tell_arrival r.said);
}

unfoldable pub goes_on : (network : ℕ) (frames : List ℕ) (rest : Work → Work) → Work → Option Next → Work
goes_on network s rest w None = w
goes_on network s rest w (Some next) = rest (work_after w (result_at network w (take (next.end - next.start) (drop next.start s)) next.from) next.end next.from)

unfoldable pub filled_in : (most network : ℕ) (frames : List ℕ) → Work → Work
filled_in zero network s w = w
filled_in (suc most) network s w = goes_on network s (filled_in most network s) w (next_frame w.cursor s (length w.out))

-- as many turns as frames are left
unfoldable pub filled_of : (network : ℕ) (frames : List ℕ) → Work → Work
filled_of network s w = filled_in w.cursor.left network s w

-- What all frames leave behind: how many came before one that was answered 8, else all, or the refusal; the table, every output
-- byte and every answer. A refused batch leaves all as it was.
pub record Filled : Type 0 where
  pub said : Said ℕ
  pub table : Table
  pub out : List ℕ
  pub answers : List ArrivalAnswer

abbrev pub left_by : Work → Filled
left_by w = record { said = answers w.cursor.frames; table = w.table; out = w.out; answers = w.answers }

unfoldable pub filled_from : Table → Batch → (old : List ArrivalAnswer) → Said Cursor → Filled
filled_from t b old (refused n) = record { said = refused n; table = t; out = b.out; answers = old }
filled_from t b old (answers c) = left_by (filled_of b.network b.frames (record { table = t; cursor = c; out = b.out; answers = old }))

pub record Fills (ix : Index) (t : Table) (b : Batch) (old : List ArrivalAnswer) (u : Table) (r : Answered ℕ Refusal) (out : List ℕ) (new : List ArrivalAnswer) : Type 0 where
  pub same :
      ◌≡◌ {A = Filled} (record { said = said r; table = u; out = out; answers = new })
      (filled_from t b old (begun (unfit_of ix t) b.network b.count b.frames))
