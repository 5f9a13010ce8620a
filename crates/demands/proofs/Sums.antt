-- A sum over a list in which no index stands twice counts each of its indices once. Assumes nothing.
use Prim.Native.Nat.{ℕ, zero, suc, ◌≤◌, ◌<◌}
use mathlib.Core.Path.{◌≡◌, refl, ap, sym, ◌∙◌}
use mathlib.Core.Bool.{Bool, true, false}
use mathlib.Core.List.{List, [], ◌∷◌}
use native.Mathlib.Omega.{arith}
use lib.Dec.{eqb}
use lib.IntN.{ℤ, pos, ◌+ℤ◌, +ℤ_idl, +ℤ_assoc, +ℤ_comm}
use borrow.Author.Tests.{eqb-true, eqb-false, ne_eqb}
use Rattle.std.specs.Prelude.{if◌then◌else◌}
use Rattle.stream.proofs.Logic.{tests}
use Rattle.demands.specs.Unlimited.{elem, highest}
use Rattle.demands.specs.Corollaries.{distinct, sum_of, sum_once}
use Rattle.demands.proofs.Handed.{more, top}

swap : (a b c : ℤ) → a +ℤ (b +ℤ c) ≡ b +ℤ (a +ℤ c)
swap a b c = sym (+ℤ_assoc a b c) ∙ ap (λ (x : ℤ). x +ℤ c) (+ℤ_comm a b) ∙ +ℤ_assoc b a c

module _ (f : ℕ → ℤ) where
  none : (n : ℕ) → sum_once f n [] ≡ pos 0
  unfolding sum_once elem
  none zero = refl
  none (suc n) = +ℤ_idl (sum_once f n []) ∙ none n

  -- an index that lies above counts nothing
  beyond : (n x : ℕ) (hs : List ℕ) → n ≤ x → sum_once f n (x ∷ hs) ≡ sum_once f n hs
  unfolding sum_once
  beyond zero x hs b = refl
  beyond (suc n) x hs b = rw (more n x hs, ne_eqb n x (omega arith), beyond n x hs (omega arith))

  -- one that is new counts once
  counted : (n x : ℕ) (hs : List ℕ) → x < n → elem x hs ≡ false → sum_once f n (x ∷ hs) ≡ f x +ℤ sum_once f n hs
  unfolding sum_once
  counted zero x hs b e = absurd (omega arith)
  counted (suc n) x hs b e = go (eqb n x) refl (counted n x hs)
    where
      go : (v : Bool) → eqb n x ≡ v → (x < n → elem x hs ≡ false → sum_once f n (x ∷ hs) ≡ f x +ℤ sum_once f n hs)
          → sum_once f (suc n) (x ∷ hs) ≡ f x +ℤ sum_once f (suc n) hs
      go true q r =
          let z : n ≡ x = eqb-true n x q in
          let y : elem n hs ≡ false = ap (λ (m : ℕ). elem m hs) z ∙ e in
          rw (more n x hs, q, y, beyond n x hs (omega arith), +ℤ_idl (sum_once f n hs)) (ap (λ (m : ℕ). f m +ℤ sum_once f n hs) z)
      go false q r =
          let o : n ≡ x → ⊥ = eqb-false n x q in
          rw (more n x hs, q, r (omega arith) e) (swap (if elem n hs then f n else pos 0) (f x) (sum_once f n hs))

  pub sums : (n : ℕ) (hs : List ℕ) → highest hs < n → distinct hs ≡ true → sum_of f hs ≡ sum_once f n hs
  unfolding sum_of distinct
  sums n [] b d = sym (none n)
  sums n (x ∷ hs) b d =
      let p = simp tests at d in
      let t = top x hs in
      rw (sums n hs (omega arith) p.1) (sym (counted n x hs (omega arith) p.0))
