-- "Up at the first arrival, and a duplicate at every later one" is exactly once; so also of an even sender. Assumes nothing.
use Prim.Native.Nat.{ℕ, suc, ◌≤◌}
use mathlib.Core.Path.{◌≡◌, refl, ap, sym, ◌∙◌}
use mathlib.Core.Bool.{Bool, true, false, ◌||◌, false≢true}
use mathlib.Core.List.{List, [], ◌∷◌, map}
use native.Mathlib.Omega.{arith}
use lib.Dec.{eqb}
use borrow.Author.Tests.{eqb-true}
use Rattle.std.specs.Prelude.{if◌then◌else◌}
use Rattle.stream.specs.Decisions.{Verdict, up, duplicate, is_up}
use Rattle.demands.specs.Unlimited.{elem, highest}
use Rattle.demands.specs.Corollaries.{handed_of, distinct}
use Rattle.demands.specs.Missed.{firsts}
use Rattle.demands.proofs.Once.{Single, add}
use Rattle.demands.proofs.Firsts.{under, sum_same}
use Rattle.demands.proofs.Sums.{sums}
use Rattle.demands.proofs.Absent.{or-none}
use Rattle.delays.specs.Formulas.{apart_in}
use Rattle.delays.specs.Line.{J, indices}
use Rattle.delays.specs.OnceEach.{Sees, OnceEach, OnceEachEven, UpAtFirstIsOnce}
use Rattle.delays.proofs.Sending.{spaced-sends}
use Rattle.delays.proofs.Lists.{there, top_in}

-- `up_at_first` of any list of tests, not only of `firsts []`.
abbrev pub up_where : List Bool → List Verdict
up_where firsts = map (λ (first : Bool). if first then up else duplicate) firsts

ups : (fs : List Bool) → map is_up (up_where fs) ≡ fs
ups [] = refl
ups (true ∷ fs) = ap (λ (gs : List Bool). true ∷ gs) (ups fs)
ups (false ∷ fs) = ap (λ (gs : List Bool). false ∷ gs) (ups fs)

-- What is handed up of xs, where bs arrived before.
abbrev handed : (bs xs : List ℕ) → List ℕ
handed bs xs = handed_of (up_where (firsts bs xs)) xs

single : (bs xs : List ℕ) → Single bs (handed bs xs)
unfolding firsts handed_of distinct elem
single bs [] = record { apart = refl; fresh = λ y e. refl }
single bs (x ∷ xs) = go (elem x bs) refl (single (x ∷ bs) xs)
  where
    go : (v : Bool) → elem x bs ≡ v → Single (x ∷ bs) (handed (x ∷ bs) xs) → Single bs (handed bs (x ∷ xs))
    go true e s = rw e (record { apart = s.apart; fresh = λ y i. s.fresh y (there y x bs i) })
    go false e s = rw e (add x bs (handed (x ∷ bs) xs) e s)

same : (bs xs : List ℕ) (y : ℕ) → elem y (handed bs xs) || elem y bs ≡ elem y xs || elem y bs
unfolding firsts handed_of elem
same bs [] y = refl
same bs (x ∷ xs) y = go (elem x bs) refl (eqb y x) refl (elem y bs) refl (same (x ∷ bs) xs y)
  where
    or_yes : (a : Bool) → a || true ≡ true
    or_yes true = refl
    or_yes false = refl

    go : (v : Bool) → elem x bs ≡ v → (q : Bool) → eqb y x ≡ q → (w : Bool) → elem y bs ≡ w
        → elem y (handed (x ∷ bs) xs) || (eqb y x || elem y bs) ≡ elem y xs || (eqb y x || elem y bs)
        → elem y (handed bs (x ∷ xs)) || elem y bs ≡ (eqb y x || elem y xs) || elem y bs
    go v e q i true j r = rw j (or_yes (elem y (handed bs (x ∷ xs))) ∙ sym (or_yes (eqb y x || elem y xs)))
    go true e true i false j r = absurd (false≢true (sym j ∙ ap (λ (n : ℕ). elem n bs) (eqb-true y x i) ∙ e))
    go true e false i false j r = rw (e, i) (rw i at r)
    go false e true i false j r = rw (e, i)
    go false e false i false j r = rw (e, i) (rw i at r)

under_all : (us xs : List ℕ) → ((y : ℕ) → elem y us ≡ elem y xs) → highest us ≤ highest xs
unfolding highest
under_all [] xs e = omega arith
under_all (u ∷ us) xs e = under (highest (u ∷ us)) xs (sym (e (highest (u ∷ us))) ∙ top_in u us)

pub up-at-first-is-once : UpAtFirstIsOnce
unfolding elem
up-at-first-is-once xs =
    let e : (y : ℕ) → elem y (handed [] xs) ≡ elem y xs = λ y. sym (or-none (elem y (handed [] xs))) ∙ same [] xs y ∙ or-none (elem y xs) in
    let s = single [] xs in
    record {
      at_first = ups (firsts [] xs);
      each = e;
      once = s.apart;
      sums = λ f. sums f (suc (highest xs)) (handed [] xs) (omega (arith, under_all (handed [] xs) xs e)) s.apart
          ∙ sum_same f (suc (highest xs)) (handed [] xs) xs e;
    }

-- Of an even sender.
pub even-once : {A : Type 0} {sees : Sees A} → OnceEach sees → OnceEachEven sees
even-once once k T still before es t i run f p s c o window time =
    rw (once k (apart_in (J k) T) still before es t i run f p (spaced-sends k T (J k) s) c o window time) (up-at-first-is-once (indices es))
