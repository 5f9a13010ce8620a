-- The receiver with unlimited memory hands no index up twice. Assumes nothing.
use Prim.Native.Nat.{ℕ}
use mathlib.Core.Path.{◌≡◌, refl, ap, sym, ◌∙◌}
use mathlib.Core.Bool.{Bool, true, false, ◌||◌, false≢true}
use mathlib.Core.List.{List, [], ◌∷◌}
use lib.Dec.{eqb, ltb}
use borrow.Author.Tests.{eqb-true, eq-eqb}
use Rattle.std.specs.Prelude.{if◌then◌else◌}
use Rattle.stream.specs.Decisions.{up, duplicate, rogue, is_up}
use Rattle.demands.specs.Unlimited.{elem, highest, apart, judged, remembered, unlimited}
use Rattle.demands.specs.Corollaries.{handed_of, distinct}
use Rattle.demands.proofs.Handed.{more}

-- What is handed up was not handed up before.
pub new : (l : ℕ) (hs : List ℕ) (x : ℕ) → is_up (judged l hs x) ≡ true → elem x hs ≡ false
unfolding judged elem
new l [] x e = refl
new l (h ∷ hs) x e = go (ltb (apart x (highest (h ∷ hs))) l) (elem x (h ∷ hs)) e
  where
    go : (a b : Bool) → is_up (if a then (if b then duplicate else up) else rogue) ≡ true → b ≡ false
    go true true q = absurd (false≢true q)
    go true false q = refl
    go false b q = absurd (false≢true q)

-- The list us has no index twice, and none of hs.
pub record Single (hs us : List ℕ) : Type 0 where
  pub apart : distinct us ≡ true
  pub fresh : (y : ℕ) → elem y hs ≡ true → elem y us ≡ false

pub add : (x : ℕ) (hs us : List ℕ) → elem x hs ≡ false → Single (x ∷ hs) us → Single hs (x ∷ us)
unfolding distinct
add x hs us n s = record {
  apart = rw (s.fresh x (more x x hs ∙ rw (eq-eqb x x refl)), s.apart);
  fresh = λ y e. more y x us ∙ go y e (eqb y x) refl;
}
  where
    go : (y : ℕ) → elem y hs ≡ true → (v : Bool) → eqb y x ≡ v → eqb y x || elem y us ≡ false
    go y e true q = absurd (false≢true (sym n ∙ sym (ap (λ (m : ℕ). elem m hs) (eqb-true y x q)) ∙ e))
    go y e false q = rw q (s.fresh y (more y x hs ∙ rw (q, e)))

pub once : (l : ℕ) (xs hs : List ℕ) → Single hs (handed_of (unlimited l hs xs) xs)
unfolding unlimited handed_of remembered distinct elem
once l [] hs = record { apart = refl; fresh = λ y e. refl }
once l (x ∷ xs) hs = go (is_up (judged l hs x)) refl (λ is. once l xs is)
  where
    go : (v : Bool) → is_up (judged l hs x) ≡ v → ((is : List ℕ) → Single is (handed_of (unlimited l is xs) xs))
        → Single hs (handed_of (unlimited l hs (x ∷ xs)) (x ∷ xs))
    go true e f = rw e (add x hs (handed_of (unlimited l (x ∷ hs) xs) xs) (new l hs x e) (f (x ∷ hs)))
    go false e f = rw e (f hs)
