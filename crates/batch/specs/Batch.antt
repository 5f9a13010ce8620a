-- Document 02, order 3: up to 32 frames in one call. Assumes nothing.
use Rattle.std.specs.Prelude.{ℕ, zero, suc, ◌+◌, ◌-◌, ◌/◌, ◌%◌, Bool, false, ◌||◌, List, [], ◌∷◌, ◌++◌, map, eqb, ltb, length, take, drop, replicate}
use Rattle.std.proofs.Math.Option.{Option, none, some}
use Rattle.refusal.specs.Checks.{Said}
use Rattle.refusal.specs.Checks.Said.{refused, answers}
use Rattle.refusal.specs.Numbers.{TABLE, NETWORK, ROOM, BATCH}
use Rattle.std.specs.Prelude.{if◌then◌else◌}
use Rattle.record.specs.Sizes.{slots_most}
use Rattle.frame.specs.Bytes.{word, overlay}
use Rattle.calls.specs.Table.{Table}
use Rattle.calls.specs.Calls.{Call, arriving, Answer, arrived, placed, done, swept, handed_up, duplicate, rogue, Result, result_of}

-- "a network, a count, and the frames in one buffer", and the output buffer
pub record Batch : Type 0 where
  pub network : ℕ
  pub count : ℕ
  pub frames : List ℕ
  pub out : List ℕ

abbrev pub frames_most : ℕ
frames_most = 32

-- ---- "the frames in one buffer, each preceded by a two-byte length, big-endian"

-- "lengths that run past the buffer"
unfoldable pub runs_past : (count : ℕ) → List ℕ → Bool
runs_past zero s = false
runs_past (suc n) s = ltb (length s) (2 + word s 0) || runs_past n (drop (2 + word s 0) s)

-- "Input behind the last frame is ignored."
unfoldable pub frames_in : (count : ℕ) → List ℕ → List (List ℕ)
frames_in zero s = []
frames_in (suc n) s = take (word s 0) (drop 2 s) ∷ frames_in n (drop (2 + word s 0) s)

-- ---- "single arrivals made in turn"

-- "Handed-up frames are packed into the output in the same form": what a result adds to it.
unfoldable pub adds_for : Said Answer → (bytes : List ℕ) → List ℕ
adds_for (refused n) bytes = []
adds_for (answers (arrived i number p (handed_up l))) bytes = l / 256 % 256 ∷ l % 256 ∷ take l bytes
adds_for (answers (arrived i number p duplicate)) bytes = []
adds_for (answers (arrived i number p rogue)) bytes = []
adds_for (answers (placed i)) bytes = []
adds_for (answers done) bytes = []
adds_for (answers (swept streams records)) bytes = []

abbrev pub adds : Result → List ℕ
adds r = adds_for r.said r.output

-- "8 .. ends the call"
unfoldable pub ends : Said Answer → Bool
ends (refused n) = eqb n ROOM
ends (answers a) = false

-- A frame that is reached: the single arrival that it is, and what that comes to.
pub record Turn : Type 0 where
  pub call : Call
  pub result : Result

abbrev pub turn_of : Table → Call → Turn
turn_of t c = record { call = c; result = result_of t c }

-- "each with the output room then left after its two length bytes, or none if fewer than two are left"
abbrev pub single : (network : ℕ) (frame left : List ℕ) → Call
single network f left = arriving network f (drop 2 left)

-- "A refused frame is answered in its place and the rest go on, but 8, answered there too, ends the call." `left` is the
-- output behind what is packed.
unfoldable pub turns_in : (network : ℕ) → Table → (left : List ℕ) → List (List ℕ) → List Turn
turns_in network t left [] = []
turns_in network t left (f ∷ fs) =
    turn_of t (single network f left)
    ∷ (if ends (result_of t (single network f left)).said then []
    else turns_in network (result_of t (single network f left)).table (drop (length (adds (result_of t (single network f left)))) left) fs)

-- ---- the call

-- "Refusals: 15, count above 32 or lengths that run past the buffer, before any frame is looked at and after 1 and 2."
unfoldable pub comes_to : Table → Batch → Said (List Turn)
comes_to t b =
    if ltb slots_most (length t) then refused TABLE
    else if ltb 1 b.network then refused NETWORK
    else if ltb frames_most b.count || runs_past b.count b.frames then refused BATCH
    else answers (turns_in b.network t b.out (frames_in b.count b.frames))

-- "each frame that a batch reaches as a call, and a frame not reached as none"
abbrev pub turns_of : Said (List Turn) → List Turn
turns_of (refused n) = []
turns_of (answers ts) = ts

unfoldable pub reached : Table → Batch → List Call
reached t b = map (λ (u : Turn). u.call) (turns_of (comes_to t b))

-- the table after the turns
unfoldable pub table_after : Table → List Turn → Table
table_after t [] = t
table_after t (u ∷ us) = table_after u.result.table us

-- the frames that they hand up, packed
unfoldable pub packed : List Turn → List ℕ
packed [] = []
packed (u ∷ us) = adds u.result ++ packed us

-- "how many frames came before that, else the count"
unfoldable pub before : List Turn → ℕ
before [] = 0
before (u ∷ us) = if ends u.result.said then 0 else suc (before us)

-- "the 32 answers .., those not reached (all, if the call is refused) as one fixed mark", which is `none`
unfoldable pub answers_of : List Turn → List (Option (Said Answer))
answers_of us = map (λ (u : Turn). some u.result.said) us ++ replicate (frames_most - length us) none

-- What the call leaves behind: what it says, the 32 answers, the table, and the output bytes.
pub record Bundle : Type 0 where
  pub said : Said ℕ
  pub answers : List (Option (Said Answer))
  pub table : Table
  pub output : List ℕ

unfoldable pub bundle : Table → (out : List ℕ) → Said (List Turn) → Bundle
bundle t out (refused n) = record { said = refused n; answers = answers_of []; table = t; output = out }
bundle t out (answers us) = record {
  said = answers (before us);
  answers = answers_of us;
  table = table_after t us;
  output = overlay (packed us) out;
}

unfoldable pub batch_of : Table → Batch → Bundle
batch_of t b = bundle t b.out (comes_to t b)
