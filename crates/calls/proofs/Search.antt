-- Laws of the search in a table. Assumes nothing.
--     found-cons, found-snoc     a table with one record more, in front or behind
--     found_front                what is found in the front part of a table is what is found
--     found_within, found-passes, found_below, found-no-slot      a slot that is found is one of the table, its record passes and none below it does; where none is found none passes
use mathlib.Core.Path.{◌≡◌, refl, sym, ◌∙◌, ap}
use Prim.Native.Nat.{ℕ, zero, suc, ◌<◌}
use native.Mathlib.Nat.{not-suc-le-zero, le_of_suc-le-suc}
use native.Mathlib.Omega.{arith}
use mathlib.Core.Bool.{Bool, true, false, cond, ◌||◌}
use mathlib.Core.List.{[], ◌∷◌, ◌++◌}
use lib.Dec.{ltb, leb-suc-suc, leb-zero}
use lib.ListN.{length}
use Rattle.record.specs.declared.Stream.{Stream}
use Rattle.calls.specs.Table.{Table, at, search, some_slot, found, or_else, found_here}
use Rattle.std.specs.Prelude.{Option, None, Some}

-- one slot further on
abbrev pub next : Option ℕ → Option ℕ
next (Some i) = Some (suc i)
next None = None

module _ (p : Stream → Bool) where
  some-step : (b : Bool) (m n : ℕ) → ltb (cond b 0 (suc m)) (suc n) ≡ (b || ltb m n)
  some-step true m n = leb-suc-suc 0 n ∙ leb-zero n
  some-step false m n = leb-suc-suc (suc m) n

  pub some-cons : (s : Stream) (t : Table) → some_slot p (s ∷ t) ≡ (p s || some_slot p t)
  unfolding some_slot search
  some-cons s t = some-step (p s) (search p t) (length t)

  found-step : (b c : Bool) (m : ℕ) → cond (b || c) (Some (cond b 0 (suc m))) None ≡ cond b (Some 0) (next (cond c (Some m) None))
  found-step true c m = refl
  found-step false true m = refl
  found-step false false m = refl

  pub found-cons : (s : Stream) (t : Table) → found p (s ∷ t) ≡ cond (p s) (Some 0) (next (found p t))
  unfolding found search
  found-cons s t = ap (λ (b : Bool). cond b (Some (cond (p s) 0 (suc (search p t)))) None) (some-cons s t) ∙ found-step (p s) (some_slot p t) (search p t)

  pub found-nil : found p [] ≡ None
  unfolding found some_slot search
  found-nil = refl

  some-nil : some_slot p [] ≡ false
  unfolding some_slot search
  some-nil = refl

  -- ---- one record more, behind
  or_assoc : (a b c : Bool) → (a || (b || c)) ≡ ((a || b) || c)
  or_assoc true b c = refl
  or_assoc false b c = refl

  or_nil : (b : Bool) → (b || false) ≡ b
  or_nil true = refl
  or_nil false = refl

  pub some-snoc : (t : Table) (s : Stream) → some_slot p (t ++ s ∷ []) ≡ (some_slot p t || p s)
  some-snoc [] s = some-cons s [] ∙ ap (λ (b : Bool). p s || b) some-nil ∙ or_nil (p s) ∙ ap (λ (b : Bool). b || p s) (sym some-nil)
  some-snoc (x ∷ t) s = some-cons x (t ++ s ∷ []) ∙ ap (λ (b : Bool). p x || b) (some-snoc t s) ∙ or_assoc (p x) (some_slot p t) (p s) ∙ ap (λ (b : Bool). b || p s) (sym (some-cons x t))

  snoc-step : (b : Bool) (f : Option ℕ) (c : Bool) (n : ℕ) → cond b (Some 0) (next (or_else f (cond c (Some n) None))) ≡ or_else (cond b (Some 0) (next f)) (cond c (Some (suc n)) None)
  snoc-step true f c n = refl
  snoc-step false (Some i) c n = refl
  snoc-step false None true n = refl
  snoc-step false None false n = refl

  pub found-snoc : (t : Table) (s : Stream) → found p (t ++ s ∷ []) ≡ or_else (found p t) (found_here p s (length t))
  found-snoc [] s = found-cons s [] ∙ ap (λ (f : Option ℕ). cond (p s) (Some 0) (next f)) found-nil ∙ ap (λ (f : Option ℕ). or_else f (found_here p s 0)) (sym found-nil)
  found-snoc (x ∷ t) s =
      found-cons x (t ++ s ∷ []) ∙ ap (λ (f : Option ℕ). cond (p x) (Some 0) (next f)) (found-snoc t s) ∙ snoc-step (p x) (found p t) (p s) (length t)
      ∙ ap (λ (f : Option ℕ). or_else f (found_here p s (suc (length t)))) (sym (found-cons x t))

  -- ---- what stands in front decides
  front-step : (b : Bool) (f g : Option ℕ) → or_else f g ≡ g → or_else (cond b (Some 0) (next f)) (cond b (Some 0) (next g)) ≡ cond b (Some 0) (next g)
  front-step true f g e = refl
  front-step false (Some i) g e = ap next e
  front-step false None g e = refl

  pub found_front : (t u : Table) → or_else (found p t) (found p (t ++ u)) ≡ found p (t ++ u)
  found_front [] u = ap (λ (f : Option ℕ). or_else f (found p u)) found-nil
  found_front (x ∷ t) u = ap (λ (f : Option ℕ). or_else f (found p (x ∷ t ++ u))) (found-cons x t) ∙ ap (λ (f : Option ℕ). or_else (cond (p x) (Some 0) (next (found p t))) f) (found-cons x (t ++ u))
      ∙ front-step (p x) (found p t) (found p (t ++ u)) (found_front t u) ∙ sym (found-cons x (t ++ u))

  -- ---- what a slot that is found is
  no_slot : {A : Type 0} (i : ℕ) → None ≡ Some i → A
  no_slot i e = let z : ◌≡◌ {A = ℕ} 0 1 = cc in absurd (omega arith)

  pub found_within : (t : Table) (i : ℕ) → found p t ≡ Some i → i < length t
  found_within [] i e = no_slot i (sym found-nil ∙ e)
  found_within (x ∷ t) i e = step (p x) (found p t) i (sym (found-cons x t) ∙ e) (found_within t)
    where
      step : (b : Bool) (f : Option ℕ) (i : ℕ) → cond b (Some 0) (next f) ≡ Some i → ((j : ℕ) → f ≡ Some j → j < length t) → i < suc (length t)
      step true f i e h = let z : i ≡ 0 = cc in omega (arith, z)
      step false (Some j) i e h = let z : i ≡ suc j = cc in let l : j < length t = h j refl in omega (arith, z, l)
      step false None i e h = no_slot i e

  pub found-passes : (t : Table) (i : ℕ) → found p t ≡ Some i → p (at t i) ≡ true
  found-passes [] i e = no_slot i (sym found-nil ∙ e)
  found-passes (x ∷ t) i e = step (p x) (found p t) i refl (sym (found-cons x t) ∙ e) (found-passes t)
    where
      step : (b : Bool) (f : Option ℕ) (i : ℕ) → p x ≡ b → cond b (Some 0) (next f) ≡ Some i → ((j : ℕ) → f ≡ Some j → p (at t j) ≡ true) → p (at (x ∷ t) i) ≡ true
      step true f i b e h = let z : i ≡ 0 = cc in rw z b
      step false (Some j) i b e h = let z : i ≡ suc j = cc in rw z (h j refl)
      step false None i b e h = no_slot i e

  pub found_below : (t : Table) (i k : ℕ) → found p t ≡ Some i → k < i → p (at t k) ≡ false
  found_below [] i k e l = no_slot i (sym found-nil ∙ e)
  found_below (x ∷ t) i k e l = step (p x) (found p t) i k refl (sym (found-cons x t) ∙ e) l (found_below t)
    where
      step : (b : Bool) (f : Option ℕ) (i k : ℕ) → p x ≡ b → cond b (Some 0) (next f) ≡ Some i → k < i → ((j m : ℕ) → f ≡ Some j → m < j → p (at t m) ≡ false) → p (at (x ∷ t) k) ≡ false
      step true f i k b e l h = let z : i ≡ 0 = cc in absurd (omega (arith, z, l))
      step false (Some j) i zero b e l h = b
      step false (Some j) i (suc m) b e l h = let z : i ≡ suc j = cc in let lo : m < j = omega (arith, z, l) in h j m refl lo
      step false None i k b e l h = no_slot i e

  pub found-no-slot : (t : Table) (k : ℕ) → found p t ≡ None → k < length t → p (at t k) ≡ false
  found-no-slot [] k e l = absurd (not-suc-le-zero l)
  found-no-slot (x ∷ t) k e l = step (p x) (found p t) k refl (sym (found-cons x t) ∙ e) l (found-no-slot t)
    where
      step : (b : Bool) (f : Option ℕ) (k : ℕ) → p x ≡ b → cond b (Some 0) (next f) ≡ None → k < suc (length t) → ((m : ℕ) → f ≡ None → m < length t → p (at t m) ≡ false) → p (at (x ∷ t) k) ≡ false
      step true f k b e l h = no_slot 0 (sym e)
      step false (Some j) k b e l h = no_slot (suc j) (sym e)
      step false None zero b e l h = b
      step false None (suc m) b e l h = h m refl (le_of_suc-le-suc l)
