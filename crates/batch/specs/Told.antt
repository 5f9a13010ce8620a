-- A batch in the code's types: how what it leaves behind is told, and its contract. Assumes nothing.
use Rattle.std.specs.Prelude.{ℕ, ◌≡◌, List, map}
use Rattle.std.proofs.Math.Option.{Option, none, some}
use Rattle.refusal.specs.Checks.{Said}
use Rattle.refusal.specs.Checks.Said.{refused, answers}
use Rattle.calls.specs.Table.{Table}
use Rattle.calls.specs.Calls.{Answer}
use Rattle.calls.specs.Told.{no_arrival, tell_arrival}
use Rattle.calls.specs.declared.ArrivalAnswer.{ArrivalAnswer}
use Rattle.batch.specs.Batch.{Batch, Bundle, batch_of}
use Rattle.batch.specs.declared.Batched.{Batched}

-- Each answer is told as the single arrival's is. The mark is all zeros: no arrival has verdict 0 and refusal 0.
abbrev pub mark : ArrivalAnswer
mark = no_arrival 0

abbrev pub tell_each : Option (Said Answer) → ArrivalAnswer
tell_each none = mark
tell_each (some s) = tell_arrival s

-- A refusal tells its number, and 0 frames.
abbrev pub frames_told : Said ℕ → ℕ
frames_told (refused n) = 0
frames_told (answers k) = k

abbrev pub refusal_told : Said ℕ → ℕ
refusal_told (refused n) = n
refusal_told (answers k) = 0

abbrev pub tell_batch : Bundle → Batched
tell_batch b = record { answers = map tell_each b.answers; frames = frames_told b.said; refusal = refusal_told b.said }

-- The contract: what is told, every record of the table and every byte of the output are those of `batch_of`.
pub record MeetsBatch (t : Table) (b : Batch) (told : Batched) (rows : Table) (bytes : List ℕ) : Type 0 where
  pub said : told ≡ tell_batch (batch_of t b)
  pub table : rows ≡ (batch_of t b).table
  pub output : bytes ≡ (batch_of t b).output
