-- 8 ends the call: the frames before it have another answer, and those behind it are not reached. Assumes nothing.
use Prim.Native.Nat.{ℕ, zero, suc, ◌≤◌, ◌<◌, ◌-◌}
use mathlib.Core.Path.{◌≡◌, refl, sym, ap, ◌∙◌}
use mathlib.Core.Logic.{inl, inr}
use mathlib.Core.Bool.{Bool, true, false, cond}
use mathlib.Core.Option.{Option, none, some}
use mathlib.Core.List.{List, [], ◌∷◌, ◌++◌, map}
use native.Mathlib.Omega.{arith}
use lib.ListN.{length, drop, get_or, replicate}
use borrow.Author.Tests.{eqb-true}
use Rattle.refusal.specs.Checks.{Said}
use Rattle.refusal.specs.Checks.Said.{refused, answers}
use Rattle.refusal.specs.Numbers.{ROOM}
use Rattle.refusal.proofs.Checks.{same-value}
use Rattle.calls.specs.Table.{Table}
use Rattle.calls.specs.Calls.{Answer, Result, result_of}
use Rattle.batch.specs.Batch.{frames_most, frames_in, adds, ends, Turn, single, turns_in, comes_to, before, answers_of, bundle, batch_of}
use Rattle.batch.specs.Laws.{Passes, MarksFrom, EndsAt, EightEnds}
use Rattle.batch.proofs.Refusing.{turns, good-comes, answers-good}
use Rattle.batch.proofs.Turns.{as_many}
use Rattle.batch.proofs.Reading.{no-mark}

abbrev Places : Type 0
Places = List (Option (Said Answer))

-- what the law says of k, by the count and the answers
abbrev CameBefore : (k count : ℕ) → Places → Type 0
CameBefore k count given = (k ≤ count) × ((i : ℕ) → i < k → Passes (get_or given i none)) × EndsAt k count given

-- only 8 ends the call
eight : (s : Said Answer) → ends s ≡ true → s ≡ refused ROOM
unfolding ends
eight (refused n) e = ap refused (eqb-true n ROOM e)
eight (answers a) e = absurd (let z : ◌≡◌ {A = Bool} false true = e in let y : ◌≡◌ {A = ℕ} 0 1 = cc in omega arith)

-- ---- one frame more, in front

marks-behind : (s : Said Answer) (k : ℕ) (given : Places) → MarksFrom k given → MarksFrom (suc k) (some s ∷ given)
marks-behind s k given p zero h = absurd (omega arith)
marks-behind s k given p (suc i) h = p i (omega arith)

-- which is answered 8,
at-eight : (s : Said Answer) (n m : ℕ) → ends s ≡ true → CameBefore 0 (suc n) (some s ∷ replicate m none)
at-eight s n m e = (
  omega arith,
  λ i h. absurd (omega arith),
  inr (omega arith, ap some (eight s e), marks-behind s 0 (replicate m none) (λ i h. no-mark m i)),
)

-- or with which the call goes on
goes_on : (s : Said Answer) (k n : ℕ) (given : Places) → ends s ≡ false → CameBefore k n given → CameBefore (suc k) (suc n) (some s ∷ given)
goes_on s k n given e p = (omega (arith, p.0), passed, rest p.2)
  where
    passed : (i : ℕ) → i < suc k → Passes (get_or (some s ∷ given) i none)
    passed zero h = record { said = s; answered = refl; not_eight = e }
    passed (suc i) h = p.1 i (omega arith)

    rest : EndsAt k n given → EndsAt (suc k) (suc n) (some s ∷ given)
    rest (inl x) = inl (ap suc x.0, marks-behind s k given x.1)
    rest (inr x) = inr (omega (arith, x.0), x.1, marks-behind s (suc k) given x.2)

-- ---- all frames

abbrev places : List Turn → (marks : ℕ) → Places
places us m = map (λ (u : Turn). some u.result.said) us ++ replicate m none

came-before : (network : ℕ) (t : Table) (left : List ℕ) (fs : List (List ℕ)) (m : ℕ)
    → CameBefore (before (turns_in network t left fs)) (length fs) (places (turns_in network t left fs) m)
unfolding turns_in before
came-before network t left [] m = (omega arith, λ i h. absurd (omega arith), inl (refl, λ i h. no-mark m i))
came-before network t left (f ∷ fs) m =
    go (ends r.said) refl (came-before network r.table (drop (length (adds r)) left) fs m)
  where
    r : Result
    r = result_of t (single network f left)

    us : List Turn
    us = turns_in network r.table (drop (length (adds r)) left) fs

    go : (b : Bool) → ends r.said ≡ b → CameBefore (before us) (length fs) (places us m)
        → CameBefore (cond b 0 (suc (before (cond b [] us)))) (suc (length fs)) (some r.said ∷ places (cond b [] us) m)
    go true e p = at-eight r.said (length fs) m e
    go false e p = goes_on r.said (before us) (length fs) (places us m) e p

pub eight-ends : EightEnds
unfolding batch_of bundle answers_of
eight-ends t b k e = go (comes_to t b) refl e
  where
    go : (x : Said (List Turn)) → comes_to t b ≡ x → (bundle t b.out x).said ≡ answers k → CameBefore k b.count (bundle t b.out x).answers
    go (refused n) z e = absurd (let y : ◌≡◌ {A = ℕ} 0 1 = cc in omega arith)
    go (answers us) z e =
        let y : us ≡ turns t b = same-value (sym z ∙ good-comes t b (answers-good t b z)) in
        let q : k ≡ before us = sym (same-value e) in
        let p = came-before b.network t b.out (frames_in b.count b.frames) (frames_most - length (turns t b)) in
        rw (q, y) (rw (as_many b.count b.frames) at p)
