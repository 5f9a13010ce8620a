-- `Loses` has quantifiers. Of a run with numbers it follows from two tests, which compute. Assumes nothing.
use Prim.Native.Nat.{ℕ, zero, suc, ◌+◌, ◌≤◌, ◌<◌}
use mathlib.Core.Path.{◌≡◌, ap, ◌∙◌}
use mathlib.Core.Logic.{◌⊎◌, inl, inr}
use mathlib.Core.Bool.{Bool, true, false, ◌&&◌, ◌||◌, false≢true}
use mathlib.Core.List.{List, [], ◌∷◌, ◌++◌}
use native.Mathlib.Omega.{arith}
use lib.Dec.{leb}
use borrow.Author.Tests.{lt-leb}
use Rattle.stream.proofs.Logic.{tests}
use Rattle.demands.specs.Unlimited.{elem, highest}
use Rattle.demands.proofs.Firsts.{under}
use Rattle.delays.specs.Line.{Known, most, Event, indices, end, Loses}
use Rattle.delays.proofs.Lists.{or-true, none, either}

-- One of the n indices behind h is in the list.
unfoldable pub one_of : (h n : ℕ) → List ℕ → Bool
one_of h zero xs = false
one_of h (suc n) xs = elem (h + suc n) xs || one_of h n xs

-- Behind each of the indices one of the next m + 1 is in the list `all`, unless none that is further ahead is.
unfoldable pub bridged : (m : ℕ) (all indices : List ℕ) → Bool
bridged m all [] = true
bridged m all (h ∷ hs) = (leb (highest all) (h + suc m) || one_of h (suc m) all) && bridged m all hs

-- None of the indices is overdue.
unfoldable pub awaited : Known → (now : ℕ) (indices : List ℕ) → Bool
awaited k now [] = true
awaited k now (y ∷ ys) = leb now (k.sent y + most k) && awaited k now ys

abbrev Found : (h n : ℕ) (xs : List ℕ) → Type 0
Found h n xs = (y : ℕ) × (h < y) × (y ≤ h + n) × (elem y xs ≡ true)

found : (h n : ℕ) (xs : List ℕ) → one_of h n xs ≡ true → Found h n xs
unfolding one_of
found h zero xs e = absurd (false≢true e)
found h (suc n) xs e = go (or-true (elem (h + suc n) xs) (one_of h n xs) e) (λ q. found h n xs q)
  where
    go : (elem (h + suc n) xs ≡ true) ⊎ (one_of h n xs ≡ true) → (one_of h n xs ≡ true → Found h n xs) → Found h (suc n) xs
    go (inl q) f = (h + suc n, omega arith, omega arith, q)
    go (inr q) f = let r = f q in (r.0, r.1, omega (arith, r.2), r.3)

bridge : (m : ℕ) (all xs : List ℕ) → bridged m all xs ≡ true → (h x : ℕ) → elem h xs ≡ true → elem x all ≡ true → h + suc m < x
    → Found h (suc m) all
unfolding bridged
bridge m all [] b h x e i g = absurd (none h e)
bridge m all (y ∷ ys) b h x e i g =
    let p = simp tests at b in
    go p (either h y ys e) (λ q. bridge m all ys p.1 h x q i g)
  where
    go : (leb (highest all) (y + suc m) || one_of y (suc m) all ≡ true) × (bridged m all ys ≡ true) → (h ≡ y) ⊎ (elem h ys ≡ true)
        → (elem h ys ≡ true → Found h (suc m) all) → Found h (suc m) all
    go p (inl q) f =
        let u = under x all i in
        let z : leb (highest all) (y + suc m) ≡ false = lt-leb (highest all) (y + suc m) (omega arith) in
        let o : one_of y (suc m) all ≡ true = rw z at p.0 in
        found h (suc m) all (ap (λ (n : ℕ). one_of n (suc m) all) q ∙ o)
    go p (inr q) f = f q

awaited-in : (k : Known) (now : ℕ) (ys : List ℕ) → awaited k now ys ≡ true → (y : ℕ) → elem y ys ≡ true → now ≤ k.sent y + most k
unfolding awaited
awaited-in k now [] w y i = absurd (none y i)
awaited-in k now (z ∷ ys) w y i =
    let p = simp tests at w in
    go p.0 (either y z ys i) (λ q. awaited-in k now ys p.1 y q)
  where
    go : now ≤ k.sent z + most k → (y ≡ z) ⊎ (elem y ys ≡ true) → (elem y ys ≡ true → now ≤ k.sent y + most k) → now ≤ k.sent y + most k
    go p (inl q) f = rw q p
    go p (inr q) f = f q

pub loses-by : (k : Known) (still : List ℕ) (es : List Event) → awaited k (end 0 es) still ≡ true
    → bridged k.m (indices es ++ still) (indices es) ≡ true
    → Loses k still es
loses-by k still es w b = record {
  awaits = awaited-in k (end 0 es) still w;
  losses = bridge k.m (indices es ++ still) (indices es) b;
}
