-- What stands in a list of indices. Assumes nothing.
use Prim.Native.Nat.{ℕ, max}
use mathlib.Core.Path.{◌≡◌, refl, ap, sym, ◌∙◌}
use mathlib.Core.Logic.{◌⊎◌, inl, inr}
use mathlib.Core.Bool.{Bool, true, false, ◌||◌, false≢true}
use mathlib.Core.List.{List, [], ◌∷◌, ◌++◌}
use native.Mathlib.Omega.{arith}
use native.Mathlib.Decide.{dec_lt}
use lib.Dec.{eqb}
use borrow.Author.Tests.{eqb-true, eq-eqb}
use Rattle.demands.specs.Unlimited.{elem, highest}
use Rattle.demands.proofs.Handed.{top, more}

pub or-true : (a b : Bool) → a || b ≡ true → (a ≡ true) ⊎ (b ≡ true)
or-true true b e = inl refl
or-true false b e = inr e

pub or_r : (a b : Bool) → b ≡ true → a || b ≡ true
or_r true b e = refl
or_r false b e = e

pub or_l : (a b : Bool) → a ≡ true → a || b ≡ true
or_l true b e = refl
or_l false b e = absurd (false≢true e)

pub none : (y : ℕ) → elem y [] ≡ true → ⊥
unfolding elem
none y i = false≢true i

-- an element of x ∷ xs
pub either : (y x : ℕ) (xs : List ℕ) → elem y (x ∷ xs) ≡ true → (y ≡ x) ⊎ (elem y xs ≡ true)
either y x xs e = go (or-true (eqb y x) (elem y xs) (sym (more y x xs) ∙ e))
  where
    go : (eqb y x ≡ true) ⊎ (elem y xs ≡ true) → (y ≡ x) ⊎ (elem y xs ≡ true)
    go (inl q) = inl (eqb-true y x q)
    go (inr q) = inr q

pub here : (y x : ℕ) (xs : List ℕ) → y ≡ x → elem y (x ∷ xs) ≡ true
here y x xs e = more y x xs ∙ or_l (eqb y x) (elem y xs) (eq-eqb y x e)

pub there : (y x : ℕ) (xs : List ℕ) → elem y xs ≡ true → elem y (x ∷ xs) ≡ true
there y x xs e = more y x xs ∙ or_r (eqb y x) (elem y xs) e

pub not_there : (y x : ℕ) (xs : List ℕ) → elem y (x ∷ xs) ≡ false → elem y xs ≡ false
not_there y x xs e = go (elem y xs) refl
  where
    go : (v : Bool) → elem y xs ≡ v → elem y xs ≡ false
    go true q = absurd (false≢true (sym e ∙ there y x xs q))
    go false q = q

pub not-here : (y x : ℕ) (xs : List ℕ) → elem y (x ∷ xs) ≡ false → y ≡ x → ⊥
not-here y x xs e q = false≢true (sym e ∙ here y x xs q)

-- The highest stands in the list.
pub top_in : (x : ℕ) (xs : List ℕ) → elem (highest (x ∷ xs)) (x ∷ xs) ≡ true
unfolding highest
top_in x [] = here (max x 0) x [] (omega arith)
top_in x (y ∷ ys) =
    let r = top_in y ys in
    elim (dec_lt x (highest (y ∷ ys))) [
      | yes a ↦
          let e : max x (highest (y ∷ ys)) ≡ highest (y ∷ ys) = omega arith in
          there (highest (x ∷ y ∷ ys)) x (y ∷ ys) (ap (λ (n : ℕ). elem n (y ∷ ys)) e ∙ r)
      | no b ↦ here (highest (x ∷ y ∷ ys)) x (y ∷ ys) (omega (arith, top x (y ∷ ys)))
    ]

-- an element of one list behind another
pub in-append : (y : ℕ) (xs ys : List ℕ) → elem y (xs ++ ys) ≡ elem y xs || elem y ys
unfolding elem
in-append y [] ys = refl
in-append y (x ∷ xs) ys = rw (in-append y xs ys) (go (eqb y x))
  where
    go : (b : Bool) → b || (elem y xs || elem y ys) ≡ (b || elem y xs) || elem y ys
    go true = refl
    go false = refl

pub in-first : (y : ℕ) (xs ys : List ℕ) → elem y xs ≡ true → elem y (xs ++ ys) ≡ true
in-first y xs ys i = in-append y xs ys ∙ or_l (elem y xs) (elem y ys) i

pub in-second : (y : ℕ) (xs ys : List ℕ) → elem y ys ≡ true → elem y (xs ++ ys) ≡ true
in-second y xs ys i = in-append y xs ys ∙ or_r (elem y xs) (elem y ys) i

pub in_either : (y : ℕ) (xs ys : List ℕ) → elem y (xs ++ ys) ≡ true → (elem y xs ≡ true) ⊎ (elem y ys ≡ true)
in_either y xs ys i = or-true (elem y xs) (elem y ys) (sym (in-append y xs ys) ∙ i)
