-- The receiver that forgets, side by side with all that has arrived. Assumes nothing.
use Prim.Native.Nat.{ℕ, suc, ◌+◌, ◌-◌, ◌*◌, ◌≤◌, ◌<◌, max}
use mathlib.Core.Path.{◌≡◌, refl, ap, sym, ◌∙◌}
use mathlib.Core.Logic.{◌⊎◌, inl, inr}
use mathlib.Core.Bool.{Bool, true, false, false≢true}
use mathlib.Core.List.{List, [], ◌∷◌}
use native.Mathlib.Omega.{arith}
use native.Mathlib.Nat.{mul-zero, mul-suc, mul_comm, mul-le-mul_left}
use lib.Dec.{eqb}
use borrow.Author.Tests.{eqb-true}
use Rattle.demands.specs.Unlimited.{elem}
use Rattle.delays.specs.Line.{Known, least, most, J, Event}
use Rattle.delays.proofs.Lists.{none, either, here, there, not_there, not-here}
use Rattle.delays.proofs.Sending.{spread, Comes, Ticks}

-- hs came since it last forgot, bs in all.
pub record Holds (k : Known) (r left : ℕ) (hs bs : List ℕ) (now due since : ℕ) : Type 0 where
  pub known : (y : ℕ) → elem y hs ≡ true → elem y bs ≡ true
  pub past : (y : ℕ) → elem y bs ≡ true → k.sent y + least k ≤ now
  -- what it has forgotten comes no more, and was sent before all that it remembers
  pub old : (y : ℕ) → elem y bs ≡ true → elem y hs ≡ false → k.sent y + most k < since
  pub young : (y : ℕ) → elem y hs ≡ true → since ≤ k.sent y + most k
  pub begun : since ≤ now
  pub waited : (y : ℕ) → elem y hs ≡ true → k.sent y + least k + k.tau * (r - left) ≤ max now due

-- At the start nothing has come.
pub start-holds : (k : Known) (r now due : ℕ) → Holds k r 0 [] [] now due 0
start-holds k r now due = record {
  known = λ y i. i;
  past = λ y i. absurd (none y i);
  old = λ y i j. absurd (none y i);
  young = λ y i. absurd (none y i);
  begun = omega arith;
  waited = λ y i. absurd (none y i);
}

module _ {k : Known} {r left : ℕ} {hs bs : List ℕ} {now due since : ℕ} (o : Holds k r left hs bs now due since) where
  -- time passes
  pub on-pass : (a : ℕ) → now ≤ a → Holds k r left hs bs a due since
  on-pass a n = record {
    known = o.known;
    past = λ y i. omega (arith, o.past y i);
    old = o.old;
    young = o.young;
    begun = omega (arith, o.begun);
    waited = λ y i. omega (arith, o.waited y i);
  }

  module _ {x a : ℕ} {es : List Event} (c : Comes k now due x a es) where
    pasts : (y : ℕ) → (y ≡ x) ⊎ (elem y bs ≡ true) → k.sent y + least k ≤ a
    pasts y (inl e) = rw e c.soonest
    pasts y (inr e) = omega (arith, o.past y e)

    pub on-up : Holds k r r (x ∷ hs) (x ∷ bs) a due since
    on-up = record {
      known = λ y i. ups y (either y x hs i);
      past = λ y i. pasts y (either y x bs i);
      old = λ y i j. olds y j (either y x bs i);
      young = λ y i. youngs y (either y x hs i);
      begun = omega (arith, o.begun);
      waited = λ y i. waits y (either y x hs i);
    }
      where
        ups : (y : ℕ) → (y ≡ x) ⊎ (elem y hs ≡ true) → elem y (x ∷ bs) ≡ true
        ups y (inl e) = here y x bs e
        ups y (inr e) = there y x bs (o.known y e)

        olds : (y : ℕ) → elem y (x ∷ hs) ≡ false → (y ≡ x) ⊎ (elem y bs ≡ true) → k.sent y + most k < since
        olds y j (inl e) = absurd (not-here y x hs j e)
        olds y j (inr e) = o.old y e (not_there y x hs j)

        youngs : (y : ℕ) → (y ≡ x) ⊎ (elem y hs ≡ true) → since ≤ k.sent y + most k
        youngs y (inl e) = rw e (omega (arith, o.begun))
        youngs y (inr e) = o.young y e

        zero-times : k.tau * (r - r) ≡ 0
        zero-times = let z : r - r ≡ 0 = omega arith in rw z (mul-zero k.tau)

        waits : (y : ℕ) → (y ≡ x) ⊎ (elem y hs ≡ true) → k.sent y + least k + k.tau * (r - r) ≤ max a due
        waits y (inl e) = rw (e, zero-times) (omega arith)
        waits y (inr e) = rw zero-times (omega (arith, o.past y (o.known y e)))

    pub on-again : elem x hs ≡ true → Holds k r left hs (x ∷ bs) a due since
    on-again h = record {
      known = λ y i. there y x bs (o.known y i);
      past = λ y i. pasts y (either y x bs i);
      old = λ y i j. olds y j (either y x bs i);
      young = o.young;
      begun = omega (arith, o.begun);
      waited = λ y i. omega (arith, o.waited y i);
    }
      where
        olds : (y : ℕ) → elem y hs ≡ false → (y ≡ x) ⊎ (elem y bs ≡ true) → k.sent y + most k < since
        olds y j (inl e) = absurd (false≢true (sym j ∙ ap (λ (n : ℕ). elem n hs) e ∙ h))
        olds y j (inr e) = o.old y e j

    -- What was handed up and forgotten does not come again.
    pub remembers : elem x hs ≡ false → elem x bs ≡ false
    remembers h = go (elem x bs) refl
      where
        go : (v : Bool) → elem x bs ≡ v → elem x bs ≡ false
        go true e = absurd (omega (arith, o.old x e h, o.begun))
        go false e = e

  module _ {c : ℕ} {es : List Event} (t : Ticks k now due c es) where
    pub on-tick : Holds k r (left - 1) hs bs c (c + k.tau) since
    on-tick = record {
      known = o.known;
      past = λ y i. omega (arith, o.past y i);
      old = o.old;
      young = o.young;
      begun = omega (arith, o.begun);
      waited = λ y i.
          let e : k.tau * (r - (left - 1)) ≤ k.tau * suc (r - left) = mul-le-mul_left k.tau (omega arith) in
          omega (arith, mul-suc k.tau (r - left), o.waited y i);
    }

    pub on-reset : eqb left 1 ≡ true → J k < (r - 1) * k.tau → Holds k r 0 [] bs c (c + k.tau) c
    on-reset e j = record {
      known = λ y i. absurd (none y i);
      past = λ y i. omega (arith, o.past y i);
      old = λ y i z. go y i (elem y hs) refl;
      young = λ y i. absurd (none y i);
      begun = omega arith;
      waited = λ y i. absurd (none y i);
    }
      where
        go : (y : ℕ) → elem y bs ≡ true → (v : Bool) → elem y hs ≡ v → k.sent y + most k < c
        go y i true q =
            let w : k.sent y + least k + k.tau * (r - 1) ≤ max now due = rw (eqb-true left 1 e) at (o.waited y q) in
            omega (arith, mul_comm k.tau (r - 1), spread k)
        go y i false q = omega (arith, o.old y i q, o.begun)
