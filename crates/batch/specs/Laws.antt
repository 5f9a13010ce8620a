-- Document 02, order 3: what holds of a batch. Assumes nothing.
use Rattle.std.specs.Prelude.{ℕ, zero, suc, ◌+◌, ◌-◌, ◌/◌, ◌%◌, ◌≤◌, ◌<◌, ◌≡◌, ◌⊎◌, false, List, ◌∷◌, ◌++◌, length, take, drop, get_or, replicate}
use Rattle.std.proofs.Math.Option.{Option, none, some}
use Rattle.refusal.specs.Checks.{Said}
use Rattle.refusal.specs.Checks.Said.{refused, answers}
use Rattle.refusal.specs.Numbers.{TABLE, NETWORK, ROOM}
use Rattle.std.specs.Prelude.{if◌then◌else◌}
use Rattle.record.specs.Sizes.{slots_most}
use Rattle.frame.specs.Bytes.{word, overlay}
use Rattle.calls.specs.Table.{Table}
use Rattle.calls.specs.Calls.{arriving, Answer, Result, result_of}
use Rattle.batch.specs.Batch.{Batch, frames_most, adds, ends, turns_of, comes_to, packed, Bundle, batch_of}
use Rattle.batch.specs.Told.{tell_batch, MeetsBatch}
use Rattle.batch.specs.declared.Batched.{Batched}

-- What is told, the tables and the output bytes of two batches that meet one contract coincide.
abbrev pub Coincide : Type 0
Coincide =
    (t : Table) (b : Batch) (r s : Batched) (u v : Table) (x y : List ℕ) → MeetsBatch t b r u x → MeetsBatch t b s v y
    → (r ≡ s) × (u ≡ v) × (x ≡ y)

-- A refused batch changes no record and no output byte, and reaches no frame.
abbrev pub RefusedChangesNothing : Type 0
RefusedChangesNothing =
    (t : Table) (b : Batch) (n : ℕ) → (batch_of t b).said ≡ refused n
    → ((batch_of t b).table ≡ t) × ((batch_of t b).output ≡ b.out) × ((batch_of t b).answers ≡ replicate frames_most none)

-- "the 32 answers"
abbrev pub ThirtyTwo : Type 0
ThirtyTwo = (t : Table) (b : Batch) → length (batch_of t b).answers ≡ frames_most

-- 1 and 2 are the call's: no frame is answered with them.
abbrev pub NeverOneOrTwo : Type 0
NeverOneOrTwo =
    (t : Table) (b : Batch) (i : ℕ)
    → (get_or (batch_of t b).answers i none ≡ some (refused TABLE) → ⊥)
    × (get_or (batch_of t b).answers i none ≡ some (refused NETWORK) → ⊥)

-- Nothing is lost: batches that are told alike said the same and have the same answers. So the mark is no frame's answer.
abbrev pub EachTold : Type 0
EachTold =
    (t : Table) (b : Batch) (u : Table) (c : Batch) → tell_batch (batch_of t b) ≡ tell_batch (batch_of u c)
    → ((batch_of t b).said ≡ (batch_of u c).said) × ((batch_of t b).answers ≡ (batch_of u c).answers)

-- ---- 8

-- an answer with which the call goes on: neither the mark nor 8
pub record Passes (a : Option (Said Answer)) : Type 0 where
  pub said : Said Answer
  pub answered : a ≡ some said
  pub not_eight : ends said ≡ false

-- "those not reached .. as one fixed mark": every place from k on
abbrev pub MarksFrom : (k : ℕ) → List (Option (Said Answer)) → Type 0
MarksFrom k given = (i : ℕ) → k ≤ i → get_or given i none ≡ none

-- "8, answered there too, ends the call": all frames came before, or the one in place k is answered 8
abbrev pub EndsAt : (k count : ℕ) → List (Option (Said Answer)) → Type 0
EndsAt k count given =
    ((k ≡ count) × MarksFrom k given)
    ⊎ ((k < count) × (get_or given k none ≡ some (refused ROOM)) × MarksFrom (suc k) given)

-- "The call tells how many frames came before that, else the count"
abbrev pub EightEnds : Type 0
EightEnds =
    (t : Table) (b : Batch) (k : ℕ) → (batch_of t b).said ≡ answers k
    → (k ≤ b.count)
    × ((i : ℕ) → i < k → Passes (get_or (batch_of t b).answers i none))
    × EndsAt k b.count (batch_of t b).answers

-- ---- one frame

-- a frame "preceded by a two-byte length, big-endian"
abbrev pub preceded : (frame : List ℕ) → List ℕ
preceded f = length f / 256 % 256 ∷ length f % 256 ∷ f

abbrev pub bundle_of_one : (out : List ℕ) → Result → Bundle
bundle_of_one out r = record {
  said = answers (if ends r.said then 0 else 1);
  answers = some r.said ∷ replicate 31 none;
  table = r.table;
  output = overlay (adds r) out;
}

-- A batch of one frame is the single arrival that is lent the output behind two bytes. Input behind the frame is ignored.
abbrev pub BatchOfOne : Type 0
BatchOfOne =
    (t : Table) (network : ℕ) (f rest out : List ℕ) → length t ≤ slots_most → network ≤ 1 → length f < 65536
    → batch_of t (record { network = network; count = 1; frames = preceded f ++ rest; out = out })
    ≡ bundle_of_one out (result_of t (arriving network f (drop 2 out)))

-- ---- a batch in two parts

-- the input behind the first frames
unfoldable pub input_behind : (count : ℕ) → List ℕ → List ℕ
input_behind zero s = s
input_behind (suc n) s = input_behind n (drop (2 + word s 0) s)

-- what a batch packs
abbrev pub packed_by : Table → Batch → List ℕ
packed_by t b = packed (turns_of (comes_to t b))

-- the first m frames of a batch of m + n, and the others on the table and the output that these leave
abbrev pub first_part : (m : ℕ) → Batch → Batch
first_part m b = record { network = b.network; count = m; frames = b.frames; out = b.out }

abbrev pub second_part : (m n : ℕ) → Table → Batch → Batch
second_part m n t b = record {
  network = b.network;
  count = n;
  frames = input_behind m b.frames;
  out = drop (length (packed_by t (first_part m b))) b.out;
}

-- What a batch says, answers, leaves in the table and writes, by its two parts: p is what the first packs.
pub record InTwo (m : ℕ) (p : List ℕ) (whole first second : Bundle) : Type 0 where
  pub later : ℕ
  pub second-said : second.said ≡ answers later
  pub said : whole.said ≡ answers (m + later)
  pub answers : whole.answers ≡ take m first.answers ++ take (frames_most - m) second.answers
  pub table : whole.table ≡ second.table
  pub packs : take (length p) first.output ≡ p
  pub output : whole.output ≡ p ++ second.output

-- A batch that is not refused, and of which no frame of the first part is answered 8 (so all m came before), is its two parts in
-- turn.
abbrev pub Splitting : Type 0
Splitting =
    (t : Table) (b : Batch) (m n k : ℕ) → b.count ≡ m + n → (batch_of t b).said ≡ answers k → (batch_of t (first_part m b)).said ≡ answers m
    → InTwo m (packed_by t (first_part m b)) (batch_of t b) (batch_of t (first_part m b)) (batch_of (batch_of t (first_part m b)).table (second_part m n t b))
