-- More lost in a row than m: what a run breaks `Loses` by. Assumes nothing.
use Prim.Native.Nat.{ℕ, zero, suc, ◌+◌, ◌≤◌, ◌<◌}
use mathlib.Core.Path.{◌≡◌, ap, sym, ◌∙◌}
use mathlib.Core.Logic.{◌⊎◌, inl, inr}
use mathlib.Core.Bool.{true, false, false≢true}
use mathlib.Core.List.{List, ◌++◌}
use native.Mathlib.Omega.{arith}
use native.Mathlib.Decide.{dec_lt}
use Rattle.demands.specs.Unlimited.{elem}
use Rattle.delays.specs.Line.{Known, most, Event, indices, end, Loses}
use Rattle.delays.proofs.Lists.{or_l, or_r, in-first, in_either}
use Rattle.delays.proofs.Losing.{one_of}

one-of : (h n y : ℕ) (xs : List ℕ) → h < y → y ≤ h + n → elem y xs ≡ true → one_of h n xs ≡ true
unfolding one_of
one-of h zero y xs l u e = absurd (omega arith)
one-of h (suc n) y xs l u e =
    elim (dec_lt (h + n) y) [
      | yes p ↦
          let q : h + suc n ≡ y = omega arith in
          or_l (elem (h + suc n) xs) (one_of h n xs) (ap (λ (z : ℕ). elem z xs) q ∙ e)
      | no p ↦ or_r (elem (h + suc n) xs) (one_of h n xs) (one-of h n y xs l (omega arith) e)
    ]

-- h came, and x behind a hole of more than m, all of which are overdue.
pub not-losing : (k : Known) (es : List Event) (h x : ℕ) → elem h (indices es) ≡ true → elem x (indices es) ≡ true → h + suc k.m < x
    → one_of h (suc k.m) (indices es) ≡ false
    → ((y : ℕ) → y ≤ h + suc k.m → k.sent y + most k < end 0 es)
    → (still : List ℕ) → Loses k still es → ⊥
not-losing k es h x i j g n late still l =
    let r = l.losses h x i (in-first x (indices es) still j) g in
    go r (in_either r.0 (indices es) still r.3)
  where
    go : (r : (y : ℕ) × (h < y) × (y ≤ h + suc k.m) × (elem y (indices es ++ still) ≡ true))
        → (elem r.0 (indices es) ≡ true) ⊎ (elem r.0 still ≡ true) → ⊥
    go r (inl e) = false≢true (sym n ∙ one-of h (suc k.m) r.0 (indices es) r.1 r.2 e)
    go r (inr e) = let a = l.awaits r.0 e in let b = late r.0 r.2 in omega (arith, a, b)
