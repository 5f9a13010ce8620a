-- The turns of a batch are calls made one after the other. Assumes nothing.
use Prim.Native.Nat.{ℕ, zero, suc, ◌-◌}
use mathlib.Core.Path.{◌≡◌, refl, ap, sym}
use mathlib.Core.Bool.{Bool, true, false}
use mathlib.Core.Option.{none, some}
use mathlib.Core.List.{List, [], ◌∷◌, ◌++◌, map, map-map, flat_map}
use lib.ListN.{length, drop, replicate, length-map}
use Rattle.refusal.specs.Checks.{Said}
use Rattle.refusal.specs.Checks.Said.{refused, answers}
use Rattle.std.specs.Prelude.{if◌then◌else◌}
use Rattle.frame.specs.Bytes.{overlay}
use Rattle.calls.specs.Table.{Table}
use Rattle.calls.specs.Calls.{Call, arriving, Answer, Result, result_of}
use Rattle.batch.specs.Batch.{Batch, frames_most, frames_in, adds, ends, Turn, turn_of, single, turns_in, comes_to, turns_of, table_after, packed, answers_of, bundle, batch_of}
use Rattle.batch.proofs.Turns.{turns_by, by-turns}
use Rattle.demands.specs.Receiver.{the_receiver, run, results}
use Rattle.demands.specs.Seen.{answered, seen_of, log}
use Rattle.demands.specs.Steps.{heard_of, seen_in}

-- What holds of no turn, and of an arrival in front of turns from the table that it leaves, holds of the turns of a batch.
module _ (P : Table → List Turn → Type 0) (nil : (t : Table) → P t [])
    (cons : (t : Table) (network : ℕ) (f out : List ℕ) (us : List Turn)
    → P (result_of t (arriving network f out)).table us → P t (turn_of t (arriving network f out) ∷ us)) where
  or-none : (b : Bool) (t : Table) (us : List Turn) → P t us → P t (if b then [] else us)
  or-none true t us p = nil t
  or-none false t us p = p

  in-turn : (network : ℕ) (t : Table) (left : List ℕ) (fs : List (List ℕ)) → P t (turns_in network t left fs)
  unfolding turns_in
  in-turn network t left [] = nil t
  in-turn network t left (f ∷ fs) =
      let r : Result = result_of t (single network f left) in
      cons t network f (drop 2 left) _ (or-none (ends r.said) r.table _ (in-turn network r.table (drop (length (adds r)) left) fs))

  pub of_turns : (t : Table) (b : Batch) → P t (turns_by t b)
  of_turns t b = by-turns (P t) t b (nil t) (λ g. in-turn b.network t b.out (frames_in b.count b.frames))

abbrev pub calls_in : List Turn → List Call
calls_in us = map (λ (u : Turn). u.call) us

abbrev pub results_in : List Turn → List Result
results_in us = map (λ (u : Turn). u.result) us

-- The results are those of the calls,
pub same-results : (t : Table) (b : Batch) → results the_receiver t (calls_in (turns_by t b)) ≡ results_in (turns_by t b)
unfolding results the_receiver
same-results = of_turns (λ t us. results the_receiver t (calls_in us) ≡ results_in us)
    (λ t. refl) (λ t network f out us e. ap (λ (rs : List Result). result_of t (arriving network f out) ∷ rs) e)

-- so is the table,
pub same-table : (t : Table) (b : Batch) → table_after t (turns_by t b) ≡ run the_receiver t (calls_in (turns_by t b))
unfolding run the_receiver table_after
same-table = of_turns (λ t us. table_after t us ≡ run the_receiver t (calls_in us)) (λ t. refl) (λ t network f out us e. e)

-- and what a stream sees.
marks : (i k : ℕ) → seen_in i (replicate k none) ≡ []
unfolding seen_in
marks i zero = refl
marks i (suc k) = marks i k

heard-arrival : (i : ℕ) (t : Table) (network : ℕ) (f out : List ℕ) (r : Result) (s : Said Answer) → seen_of i t (arriving network f out) r s ≡ heard_of i s
unfolding seen_of answered
heard-arrival i t network f out r (refused n) = refl
heard-arrival i t network f out r (answers a) = refl

module _ (i : ℕ) where
  -- whatever the number of marks behind the answers
  abbrev Sees : Table → List Turn → Type 0
  Sees t us = (k : ℕ) → seen_in i (map (λ (u : Turn). some u.result.said) us ++ replicate k none) ≡ log the_receiver i t (calls_in us)

  sees-none : (t : Table) → Sees t []
  unfolding log
  sees-none t k = marks i k

  sees-one : (t : Table) (network : ℕ) (f out : List ℕ) (us : List Turn)
      → Sees (result_of t (arriving network f out)).table us → Sees t (turn_of t (arriving network f out) ∷ us)
  unfolding log seen_in the_receiver
  sees-one t network f out us e k =
      let r : Result = result_of t (arriving network f out) in
      λ j. sym (heard-arrival i t network f out r r.said) j ∷ e k j

  pub same_seen : (t : Table) (b : Batch) → seen_in i (answers_of (turns_by t b)) ≡ log the_receiver i t (calls_in (turns_by t b))
  unfolding answers_of
  same_seen t b = of_turns Sees sees-none sees-one t b (frames_most - length (turns_by t b))

-- The answers and the packed output, from the results.
pub answers-results : (us : List Turn)
    → answers_of us ≡ map (λ (r : Result). some r.said) (results_in us) ++ replicate (frames_most - length (results_in us)) none
unfolding answers_of
answers-results us = rw (length-map us (λ (u : Turn). u.result), map-map (λ (r : Result). some r.said) (λ (u : Turn). u.result) us)

pub packed-results : (us : List Turn) → packed us ≡ flat_map adds (results_in us)
unfolding packed flat_map
packed-results [] = refl
packed-results (u ∷ us) = ap (λ (bs : List ℕ). adds u.result ++ bs) (packed-results us)

-- The table and the output of a batch, refused or not, from its turns.
pub table_is : (t : Table) (b : Batch) → (batch_of t b).table ≡ table_after t (turns_by t b)
unfolding batch_of bundle table_after
table_is t b = go (comes_to t b)
  where
    go : (s : Said (List Turn)) → (bundle t b.out s).table ≡ table_after t (turns_of s)
    go (refused n) = refl
    go (answers us) = refl

pub output-is : (t : Table) (b : Batch) → (batch_of t b).output ≡ overlay (packed (turns_by t b)) b.out
unfolding batch_of bundle packed overlay
output-is t b = go (comes_to t b)
  where
    go : (s : Said (List Turn)) → (bundle t b.out s).output ≡ overlay (packed (turns_of s)) b.out
    go (refused n) = refl
    go (answers us) = refl
