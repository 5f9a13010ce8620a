-- Order 9: the places that a loop has emptied. Assumes nothing.
use Prim.Native.Nat.{ℕ, zero, suc, ◌+◌, ◌≤◌, ◌<◌}
use mathlib.Core.Path.{◌≡◌, refl, ap, sym, ◌∙◌, subst}
use mathlib.Core.List.{List, ◌∷◌, ◌++◌, append-nil}
use native.Mathlib.Omega.{arith}
use lib.ListN.{length, set, drop, replicate, length-replicate, length-set}
use lib.Seq.{drop-cons, set_at}
use Rattle.receiver.proofs.Lists.{drop_past}
use Rattle.index.specs.Index.{Index, places}

abbrev pub Wiped : (ix jx : Index) → ℕ → Type 0
Wiped ix jx k = (k ≤ places) × ((length ix ≡ places) × ((length jx ≡ places) × (jx ≡ replicate k 0 ++ drop k ix)))

pub wiped-none : (ix : Index) → length ix ≡ places → Wiped ix ix 0
wiped-none ix e = (omega arith, (e, (e, refl)))

front : (k : ℕ) (l : List ℕ) → replicate k 0 ++ (0 ∷ l) ≡ replicate (suc k) 0 ++ l
front zero l = refl
front (suc k) l = ap (λ (m : List ℕ). 0 ∷ m) (front k l)

pub wiped-more : (ix jx : Index) (k : ℕ) → Wiped ix jx k → k < places → Wiped ix (set jx k 0) (k + 1)
wiped-more ix jx k w l =
    let z : suc k ≡ k + 1 = omega arith in
    subst (Wiped ix (set jx k 0)) z (
      l,
      (
        w.1.0,
        (
          length-set jx k 0 ∙ w.1.1.0,
          ap (λ (m : List ℕ). set m k 0) (w.1.1.1 ∙ ap (λ (m : List ℕ). replicate k 0 ++ m) (drop-cons ix k 0 (subst (λ (m : ℕ). k < m) (sym w.1.0) l)))
              ∙ set_at (replicate k 0) _ (drop (suc k) ix) 0 k (length-replicate {A = ℕ} k 0) ∙ front k (drop (suc k) ix),
        ),
      ),
    )

pub wiped-all : (ix jx : Index) (k : ℕ) → Wiped ix jx k → places ≤ k → jx ≡ replicate places 0
wiped-all ix jx k w h =
    let e : k ≡ places = (let a : k ≤ places = w.0 in omega (arith, a, h)) in
    let f : jx ≡ replicate places 0 ++ drop places ix = subst (λ (m : ℕ). jx ≡ replicate m 0 ++ drop m ix) e w.1.1.1 in
    f ∙ ap (λ (m : List ℕ). replicate places 0 ++ m) (drop_past ix places (let g : length ix ≡ places = w.1.0 in omega (arith, g))) ∙ append-nil (replicate places 0)
