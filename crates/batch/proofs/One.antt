-- A batch of one frame is the single arrival that is lent the output behind two bytes. Assumes nothing.
use Prim.Native.Nat.{ℕ, ◌+◌, ◌*◌, ◌/◌, ◌%◌, ◌≤◌, ◌<◌}
use mathlib.Core.Path.{◌≡◌, refl, ap, ◌∙◌}
use mathlib.Core.Bool.{Bool, true, false, cond}
use mathlib.Core.List.{List, [], ◌∷◌, ◌++◌, append-nil}
use native.Mathlib.Omega.{arith}
use lib.ListN.{length, drop, length-append}
use lib.Seq.{take-append_seam}
use borrow.Author.Tests.{le-ltb}
use Rattle.refusal.specs.Checks.Said.{answers}
use Rattle.record.specs.Sizes.{slots_most}
use Rattle.frame.specs.Bytes.{word}
use Rattle.calls.specs.Table.{Table}
use Rattle.calls.specs.Calls.{arriving, result_of}
use Rattle.batch.specs.Batch.{Batch, runs_past, frames_in, ends, Turn, turn_of, single, turns_in, comes_to, table_after, packed, before, answers_of, bundle, batch_of}
use Rattle.batch.specs.Laws.{preceded, bundle_of_one, BatchOfOne}
use Rattle.batch.proofs.Refusing.{good-comes}

-- the length that is read is the frame's
length-read : (n : ℕ) → n < 65536 → n / 256 % 256 * 256 + n % 256 ≡ n
length-read n h = omega arith

module _ (t : Table) (network : ℕ) (f rest out : List ℕ) (slots : length t ≤ slots_most) (net : network ≤ 1) (short : length f < 65536) where
  abbrev alone : Batch
  alone = record { network = network; count = 1; frames = preceded f ++ rest; out = out }

  read : word (preceded f ++ rest) 0 ≡ length f
  read = length-read (length f) short

  inside : runs_past 1 (preceded f ++ rest) ≡ false
  unfolding runs_past
  inside = rw (read, le-ltb (length (preceded f ++ rest)) (2 + length f) (omega (arith, length-append f rest)))

  its-frame : frames_in 1 (preceded f ++ rest) ≡ f ∷ []
  unfolding frames_in
  its-frame = rw read (ap (λ (l : List ℕ). l ∷ []) (take-append_seam f rest))

  -- its turn
  u : Turn
  u = turn_of t (single network f out)

  comes : comes_to t alone ≡ answers (u ∷ [])
  unfolding u turns_in
  comes =
      good-comes t alone (record { slots = slots; network = net; few = omega arith; within = inside })
      ∙ ap (λ (fs : List (List ℕ)). answers (turns_in network t out fs)) its-frame ∙ ap (λ (us : List Turn). answers (u ∷ us)) (go (ends _))
    where
      go : (b : Bool) → ◌≡◌ {A = List Turn} (cond b [] []) []
      go true = refl
      go false = refl

  leaves : bundle t out (answers (u ∷ [])) ≡ bundle_of_one out (result_of t (arriving network f (drop 2 out)))
  unfolding u bundle before answers_of table_after packed
  leaves = rw append-nil

pub batch-of-one : BatchOfOne
unfolding batch_of
batch-of-one t network f rest out h k l = ap (bundle t out) (comes t network f rest out h k l) ∙ leaves t network f rest out h k l
