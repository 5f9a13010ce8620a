-- A batch that is not refused is its two parts in turn. Assumes nothing.
use Prim.Native.Nat.{ℕ, zero, suc, ◌+◌, ◌-◌, ◌≤◌}
use mathlib.Core.Path.{◌≡◌, refl, sym, ap, ap₂, ◌∙◌}
use mathlib.Core.Bool.{false}
use mathlib.Core.Option.{Option, none, some}
use mathlib.Core.List.{List, [], ◌∷◌, ◌++◌, map, append_assoc}
use native.Mathlib.Omega.{arith}
use lib.ListN.{length, take, drop, replicate, length-append, length-map}
use lib.Seq.{drop-drop, take-append-add, take_at}
use Rattle.refusal.specs.Checks.{Said}
use Rattle.refusal.specs.Checks.Said.{refused, answers}
use Rattle.refusal.proofs.Checks.{same-value}
use Rattle.frame.specs.Bytes.{overlay}
use Rattle.frame.proofs.Bytes.{overlay-front}
use Rattle.calls.specs.Table.{Table}
use Rattle.calls.specs.Calls.{Answer}
use Rattle.batch.specs.Batch.{Batch, frames_most, runs_past, frames_in, Turn, turns_in, comes_to, table_after, packed, before, answers_of, bundle, batch_of}
use Rattle.batch.specs.Laws.{input_behind, first_part, InTwo, Splitting}
use Rattle.batch.proofs.Refusing.{turns, Good, good-comes, answers-good}
use Rattle.batch.proofs.Turns.{as_many, none_more}
use Rattle.batch.proofs.Parts.{past-second, no-later, before-append, packed-append, table-append, table-long, in_two}

-- ---- the answers, one after the other

abbrev Places : Type 0
Places = List (Option (Said Answer))

abbrev each : List Turn → Places
each us = map (λ (u : Turn). some u.result.said) us

each_append : (us vs : List Turn) → each (us ++ vs) ≡ each us ++ each vs
each_append [] vs = refl
each_append (u ∷ us) vs = ap (λ (l : Places). some u.result.said ∷ l) (each_append us vs)

fewer-marks : (k j : ℕ) → k ≤ j → ◌≡◌ {A = Places} (take k (replicate j none)) (replicate k none)
fewer-marks zero j h = refl
fewer-marks (suc k) zero h = absurd (omega arith)
fewer-marks (suc k) (suc j) h = ap (λ (l : Places). none ∷ l) (fewer-marks k j (omega arith))

module _ (us vs : List Turn) (few : length us + length vs ≤ frames_most) where
  first-answers : take (length us) (answers_of us) ≡ each us
  unfolding answers_of
  first-answers = take_at (each us) (replicate (frames_most - length us) none) (length us) (length-map us _)

  second-answers : take (frames_most - length us) (answers_of vs) ≡ each vs ++ replicate (frames_most - length (us ++ vs)) none
  unfolding answers_of
  second-answers =
      let a : frames_most - length us ≡ length (each vs) + (frames_most - length (us ++ vs)) = rw (length-append, length-map) (omega arith) in
      rw a (take-append-add (each vs) (replicate (frames_most - length vs) none) (frames_most - length (us ++ vs))
      ∙ ap (λ (l : Places). each vs ++ l) (fewer-marks (frames_most - length (us ++ vs)) (frames_most - length vs) (rw length-append (omega arith))))

  both-answers : answers_of (us ++ vs) ≡ take (length us) (answers_of us) ++ take (frames_most - length us) (answers_of vs)
  unfolding answers_of
  both-answers =
      ap (λ (l : Places). l ++ replicate (frames_most - length (us ++ vs)) none) (each_append us vs)
      ∙ append_assoc (each us) (each vs) _ ∙ sym (ap₂ (λ (a b : Places). a ++ b) first-answers second-answers)

-- ---- the bundles

packs-on : (p q out : List ℕ) → overlay (p ++ q) out ≡ p ++ overlay q (drop (length p) out)
unfolding overlay
packs-on p q out = simp (length-append, drop-drop, append_assoc)

bundles : (t : Table) (out : List ℕ) (us vs : List Turn) (m : ℕ) → before us ≡ m → length us ≡ m → m + length vs ≤ frames_most
    → InTwo m (packed us) (bundle t out (answers (us ++ vs))) (bundle t out (answers us))
    (bundle (table_after t us) (drop (length (packed us)) out) (answers vs))
unfolding bundle
bundles t out us vs m e l h = record {
  later = before vs;
  second-said = refl;
  said = ap answers (rw (← l) (before-append us vs (e ∙ sym l)));
  answers = rw (← l) (both-answers us vs (omega arith));
  table = table-append t us vs;
  packs = overlay-front (packed us) out refl;
  output = rw (packed-append us vs) (packs-on (packed us) (packed vs) out);
}

-- ---- the batches

-- a batch that answers
answers-turns : (t : Table) (b : Batch) (k : ℕ) → (batch_of t b).said ≡ answers k → Good t b × (before (turns t b) ≡ k)
unfolding batch_of bundle
answers-turns t b k e = go (comes_to t b) refl e
  where
    go : (x : Said (List Turn)) → comes_to t b ≡ x → (bundle t b.out x).said ≡ answers k → Good t b × (before (turns t b) ≡ k)
    go (refused n) p e = absurd (let z : ◌≡◌ {A = ℕ} 0 1 = cc in omega arith)
    go (answers us) p e =
        let g = answers-good t b p in
        let z : us ≡ turns t b = same-value (sym p ∙ good-comes t b g) in
        (g, rw z at (same-value e))

pub splitting : Splitting
unfolding batch_of bundle
splitting t b m n k c e f =
    let g = (answers-turns t b k e).0 in
    let h = answers-turns t (first_part m b) m f in
    let us : List Turn = turns t (first_part m b) in
    let second : Batch = record { network = b.network; count = n; frames = input_behind m b.frames; out = drop (length (packed us)) b.out } in
    let vs : List Turn = turns (table_after t us) second in
    let a = none_more b.network t b.out (frames_in m b.frames) in
    let d = none_more b.network (table_after t us) second.out (frames_in n second.frames) in
    let l : length us ≡ m = omega (arith, no-later us, as_many m b.frames, h.1) in
    let w : runs_past (m + n) b.frames ≡ false = rw c at g.within in
    let o : Good (table_after t us) second = record {
      slots = omega (arith, table-long b.network t b.out (frames_in m b.frames), g.slots);
      network = g.network;
      few = omega (arith, g.few);
      within = past-second m n b.frames w;
    } in
    let x : comes_to t b ≡ answers (us ++ vs) =
    good-comes t b g ∙ ap (λ (j : ℕ). answers (turns_in b.network t b.out (frames_in j b.frames))) c
    ∙ ap answers (in_two b.network m n t b.out b.frames h.1) in
    rw (x, good-comes t (first_part m b) h.0, good-comes (table_after t us) second o)
    (bundles t b.out us vs m h.1 l (omega (arith, as_many n second.frames, g.few)))
