-- A stream that is fresh in the middle of traffic: what came before adds b to the losses. Assumes nothing.
use Prim.Native.Nat.{ℕ, zero, suc, ◌+◌, ◌-◌, ◌≤◌, ◌<◌}
use mathlib.Core.Path.{◌≡◌, refl, ap, sym, ◌∙◌}
use mathlib.Core.Logic.{◌⊎◌, inl, inr, ⊎_elim}
use mathlib.Core.Bool.{true}
use mathlib.Core.List.{List, [], ◌∷◌, ◌++◌}
use native.Mathlib.Omega.{arith}
use native.Mathlib.Decide.{dec_lt}
use Rattle.demands.specs.Unlimited.{elem}
use Rattle.delays.specs.Line.{Known, least, J, Sends, Event, came, ticked, indices, kept, end, Loses}
use Rattle.delays.proofs.Lists.{none, either, in-first, in-second, in_either}
use Rattle.delays.proofs.Sending.{overtaken, comes, ticks, future}
use Rattle.delays.proofs.Window.{Bridged}

-- Where `before` ends and es begins.
pub record Later (k : Known) (before es : List Event) (now : ℕ) : Type 0 where
  pub time : ℕ
  pub due : ℕ
  pub keeps : kept k time due es ≡ true
  pub ends : end now (before ++ es) ≡ end time es
  pub passed : now ≤ time
  pub past : (y : ℕ) → elem y (indices before) ≡ true → k.sent y + least k ≤ time

pub later : (k : Known) (before es : List Event) (now due : ℕ) → kept k now due (before ++ es) ≡ true → Later k before es now
unfolding end indices
later k [] es now due q = record { time = now; due = due; keeps = q; ends = refl; passed = omega arith; past = λ y i. absurd (none y i) }
later k (came x a ∷ before) es now due q =
    let c = comes q in
    let r = later k before es a due c.rest in
    record {
      time = r.time;
      due = r.due;
      keeps = r.keeps;
      ends = r.ends;
      passed = omega arith;
      past = λ y i. ⊎_elim (λ e. rw e (omega arith)) (r.past y) (either y x (indices before) i);
    }
later k (ticked c ∷ before) es now due q =
    let t = ticks q in
    let r = later k before es c (c + k.tau) t.rest in
    record { time = r.time; due = r.due; keeps = r.keeps; ends = r.ends; passed = omega arith; past = r.past }

pub indices-append : (before es : List Event) → indices (before ++ es) ≡ indices before ++ indices es
unfolding indices
indices-append [] es = refl
indices-append (came x a ∷ before) es = rw (indices-append before es)
indices-append (ticked c ∷ before) es = indices-append before es

module _ (k : Known) (still : List ℕ) (b : ℕ) (sends : Sends k (J k) b) (before es : List Event) (a : Later k before es 0)
    (loses : Loses k still (before ++ es)) where
  came-in : (y : ℕ) → elem y (indices before ++ indices es) ≡ true → elem y (indices (before ++ es)) ≡ true
  came-in y i = ap (elem y) (indices-append before es) ∙ i

  where-is : (y : ℕ) → elem y (indices (before ++ es) ++ still) ≡ true → (elem y (indices before) ≡ true) ⊎ (elem y (indices es ++ still) ≡ true)
  where-is y i = ⊎_elim side (λ e. inr (in-second y (indices es) still e)) (in_either y (indices (before ++ es)) still i)
    where
      side : elem y (indices (before ++ es)) ≡ true → (elem y (indices before) ≡ true) ⊎ (elem y (indices es ++ still) ≡ true)
      side e =
          ⊎_elim (λ j. inl j) (λ j. inr (in-first y (indices es) still j))
          (in_either y (indices before) (indices es) (sym (ap (elem y) (indices-append before es)) ∙ e))

  module _ (h x : ℕ) (i : elem h (indices es) ≡ true) (j : elem x (indices es) ≡ true) (c : h + suc (k.m + b) < x) where
    -- What came before was sent at most J after h.
    low : (y : ℕ) → elem y (indices before) ≡ true → y ≤ h + b
    low y e =
        let f = future k still es a.time a.due a.keeps (λ y j. rw a.ends at (loses.awaits y j)) h (in-first h (indices es) still i) in
        elim (dec_lt h y) [ yes z ↦ (let r = overtaken sends h y a.time (omega arith) (a.past y e) f in omega arith) | no z ↦ omega arith ]

    abbrev Found : Type 0
    Found = (y : ℕ) × (h < y) × (y ≤ h + suc (k.m + b)) × ((elem y [] ≡ true) ⊎ (elem y (indices es ++ still) ≡ true))

    -- The next behind g: it comes, or it came before, and then on from there.
    next : (g : ℕ) → elem g (indices (before ++ es)) ≡ true → h ≤ g → g ≤ h + b
        → ((y : ℕ) → g < y → y ≤ h + b → elem y (indices (before ++ es)) ≡ true → Found) → Found
    next g e u v f =
        let s = in-first x (indices (before ++ es)) still (came-in x (in-second x (indices before) (indices es) j)) in
        let r = loses.losses g x e s (omega arith) in
        go r.0 r.1 r.2 (where-is r.0 r.3)
      where
        go : (y : ℕ) → g < y → y ≤ g + suc k.m → (elem y (indices before) ≡ true) ⊎ (elem y (indices es ++ still) ≡ true) → Found
        go y p q (inl z) = f y p (low y z) (came-in y (in-first y (indices before) (indices es) z))
        go y p q (inr z) = (y, omega arith, omega arith, inr z)

    climb : (n g : ℕ) → elem g (indices (before ++ es)) ≡ true → h ≤ g → g ≤ h + b → h + b - g ≤ n → Found
    climb zero g e u v w = next g e u v (λ y p q z. absurd (omega arith))
    climb (suc n) g e u v w = next g e u v (λ y p q z. climb n y z (omega arith) q (omega arith))

  pub bridged-later : Bridged still (k.m + b) [] es
  bridged-later h x i j c =
      let e = ⊎_elim (λ e. absurd (none h e)) (λ e. e) i in
      climb h x e j c b h (came-in h (in-second h (indices before) (indices es) e)) (omega arith) (omega arith) (omega arith)
