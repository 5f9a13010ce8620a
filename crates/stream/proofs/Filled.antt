-- An array that a closure fills word by word, where the closure keeps no state. Assumes nothing.
use Rattle.std.proofs.Common.{◌≡◌, ℕ, zero, suc, ◌+◌, ◌<◌, List, get_or, sym, refl, ◌∙◌, subst, arith}
use Rattle.std.specs.Array.{IsFromFnResult, IsFromFnResultFrom}
use Rattle.std.specs.Fn.{Called}
use Rattle.stream.proofs.Words.{tab, tab-of, tab-same}
use denote.Param.Members.{Mut}

module _ {F : Type 0} (g : Mut F (ℕ × Unit {0}) ℕ) (f : F) (word : ℕ → ℕ) (ys : List ℕ) (most : ℕ)
    (pure : (i y : ℕ) (q : F) → i < most → Called g f (i, tt) y q → (q ≡ f) × (y ≡ word i)) where
  from-each : (n i : ℕ) (p : F) → p ≡ f → i + n ≡ most → IsFromFnResultFrom g p ys i n → (k : ℕ) → k < n → get_or ys (i + k) 0 ≡ word (i + k)
  from-each zero i p s e r k l = absurd (omega arith)
  from-each (suc n) i p s e (q, y, at, call, rest) zero l =
      let told = pure i y q (omega arith) (subst (λ (x : F). Called g x (i, tt) y q) s call) in
      let here : i ≡ i + 0 = omega arith in
      subst (λ (j : ℕ). get_or ys j 0 ≡ word j) here (at.1 0 ∙ told.1)
  from-each (suc n) i p s e (q, y, at, call, rest) (suc k) l =
      let told = pure i y q (omega arith) (subst (λ (x : F). Called g x (i, tt) y q) s call) in
      let next : i + 1 + k ≡ i + suc k = omega arith in
      subst (λ (j : ℕ). get_or ys j 0 ≡ word j) next (from-each n (i + 1) q told.0 (omega arith) rest k (omega arith))

  pub filled : IsFromFnResult g f ys most → ys ≡ tab most word
  filled r =
      sym (tab-of most ys r.long)
      ∙ tab-same most (λ i. get_or ys i 0) word (λ i p.
      let same : 0 + i ≡ i = omega arith in
      subst (λ (j : ℕ). get_or ys j 0 ≡ word j) same (from-each most 0 f refl (omega arith) r.each i p))
