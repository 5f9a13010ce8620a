-- What holds of every turn of a batch: how many there are, and that each is a single arrival on a table as long as the first.
-- Assumes nothing.
use Prim.Native.Nat.{ℕ, zero, suc, ◌≤◌}
use mathlib.Core.Path.{◌≡◌, refl, sym, ap, ◌∙◌}
use mathlib.Core.Bool.{Bool, true, false, cond}
use mathlib.Core.List.{List, [], ◌∷◌}
use native.Mathlib.Omega.{arith}
use lib.ListN.{length, drop, length-append, length-map, length-replicate}
use Rattle.refusal.specs.Checks.{Said}
use Rattle.refusal.specs.Checks.Said.{refused, answers}
use Rattle.refusal.proofs.Checks.{same-value}
use Rattle.record.specs.Sizes.{slots_most}
use Rattle.calls.specs.Table.{Table}
use Rattle.calls.specs.Calls.{Answer, arriving, act, answer, Result, result_of}
use Rattle.calls.proofs.Kept.{length-kept}
use Rattle.batch.specs.Batch.{Batch, frames_most, frames_in, adds, ends, Turn, single, turns_in, comes_to, turns_of, answers_of, bundle, batch_of}
use Rattle.batch.specs.Laws.{ThirtyTwo}
use Rattle.batch.proofs.Refusing.{turns, Good, good-comes, answers-good}

-- ---- how many

pub as_many : (n : ℕ) (s : List ℕ) → length (frames_in n s) ≡ n
unfolding frames_in
as_many zero s = refl
as_many (suc n) s = ap suc (as_many n _)

pub none_more : (network : ℕ) (t : Table) (left : List ℕ) (fs : List (List ℕ)) → length (turns_in network t left fs) ≤ length fs
unfolding turns_in
none_more network t left [] = omega arith
none_more network t left (f ∷ fs) = go (ends r.said) (none_more network r.table (drop (length (adds r)) left) fs)
  where
    r : Result
    r = result_of t (single network f left)

    us : List Turn
    us = turns_in network r.table (drop (length (adds r)) left) fs

    go : (b : Bool) → length us ≤ length fs → suc (length (cond b [] us)) ≤ suc (length fs)
    go true h = omega arith
    go false h = omega arith

-- the turns of a batch
abbrev pub turns_by : Table → Batch → List Turn
turns_by t b = turns_of (comes_to t b)

pub answers-are : (t : Table) (b : Batch) → (batch_of t b).answers ≡ answers_of (turns_by t b)
unfolding batch_of bundle
answers-are t b = go (comes_to t b)
  where
    go : (x : Said (List Turn)) → (bundle t b.out x).answers ≡ answers_of (turns_of x)
    go (refused n) = refl
    go (answers us) = refl

-- a refused batch has none, and a good one those of its frames
pub by-turns : (P : List Turn → Type 0) (t : Table) (b : Batch) → P [] → (Good t b → P (turns t b)) → P (turns_by t b)
by-turns P t b p q = go (comes_to t b) refl
  where
    go : (x : Said (List Turn)) → comes_to t b ≡ x → P (turns_of x)
    go (refused n) e = p
    go (answers us) e =
        let g = answers-good t b e in
        let z : us ≡ turns t b = same-value (sym e ∙ good-comes t b g) in
        rw z (q g)

few : (t : Table) (b : Batch) → length (turns_by t b) ≤ frames_most
few t b = by-turns (λ (us : List Turn). length us ≤ frames_most) t b (omega arith) (λ g.
    (let h = none_more b.network t b.out (frames_in b.count b.frames) in omega (arith, as_many b.count b.frames, g.few)))

pub thirty_two : ThirtyTwo
unfolding answers_of
thirty_two t b = rw (answers-are, length-append, length-map, length-replicate) (omega (arith, few t b))

-- ---- each of them

abbrev pub Each : (P : Said Answer → Type 0) → List Turn → Type 0
Each P [] = Unit
Each P (u ∷ us) = P u.result.said × Each P us

module _ (P : Said Answer → Type 0) (holds : (t : Table) (network : ℕ) (f left : List ℕ) → length t ≤ slots_most → network ≤ 1 → P (answer t (act t (arriving network f left)))) where
  each_in : (network : ℕ) (t : Table) (left : List ℕ) (fs : List (List ℕ)) → length t ≤ slots_most → network ≤ 1 → Each P (turns_in network t left fs)
  unfolding turns_in
  each_in network t left [] h k = tt
  each_in network t left (f ∷ fs) h k =
      let r : Result = result_of t (single network f left) in
      let l = length-kept t (single network f left) in
      let us = turns_in network r.table (drop (length (adds r)) left) fs in
      (holds t network f (drop 2 left) h k, go (ends r.said) us (each_in network r.table (drop (length (adds r)) left) fs (omega arith) k))
    where
      go : (b : Bool) (us : List Turn) → Each P us → Each P (cond b [] us)
      go true us p = tt
      go false us p = p

  pub each : (t : Table) (b : Batch) → Each P (turns_by t b)
  each t b = by-turns (Each P) t b tt (λ g. each_in b.network t b.out (frames_in b.count b.frames) g.slots g.network)
