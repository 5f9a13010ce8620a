-- What the receiver with unlimited memory remembers and what it handed up are the same indices, and what lies too far below
-- the highest stays out of them. Assumes nothing.
use Prim.Native.Nat.{ℕ, zero, suc, ◌+◌, ◌-◌, ◌≤◌, ◌<◌, max}
use mathlib.Core.Path.{◌≡◌, refl, ap, sym, ◌∙◌}
use mathlib.Core.Bool.{Bool, true, false, ◌||◌, false≢true}
use mathlib.Core.List.{List, [], ◌∷◌, ◌++◌}
use native.Mathlib.Omega.{arith}
use lib.Dec.{eqb, ltb}
use borrow.Author.Tests.{ltb-true, ne_eqb}
use Rattle.std.specs.Prelude.{if◌then◌else◌}
use Rattle.stream.specs.Decisions.{up, duplicate, rogue, is_up}
use Rattle.demands.specs.Unlimited.{elem, highest, apart, judged, remembered, unlimited}
use Rattle.demands.specs.Corollaries.{handed_of}
use Rattle.demands.specs.Lost.{absent, missed, handed_by, LostForGood}
use Rattle.demands.proofs.Handed.{top, more}

-- What it remembers after more arrivals.
unfoldable pub memory : (l : ℕ) (hs xs : List ℕ) → List ℕ
memory l hs [] = hs
memory l hs (x ∷ xs) = memory l (remembered l hs x) xs

pub swap : (a b c : Bool) → a || (b || c) ≡ (b || a) || c
swap true true c = refl
swap true false c = refl
swap false true c = refl
swap false false c = refl

pub or-none : (a : Bool) → a || false ≡ a
or-none true = refl
or-none false = refl

in_memory : (l : ℕ) (xs hs : List ℕ) (y : ℕ) → elem y (memory l hs xs) ≡ elem y (handed_of (unlimited l hs xs) xs) || elem y hs
unfolding memory remembered unlimited handed_of elem
in_memory l [] hs y = refl
in_memory l (x ∷ xs) hs y = go (is_up (judged l hs x)) refl (λ is. in_memory l xs is y)
  where
    go : (v : Bool) → is_up (judged l hs x) ≡ v
        → ((is : List ℕ) → elem y (memory l is xs) ≡ elem y (handed_of (unlimited l is xs) xs) || elem y is)
        → elem y (memory l hs (x ∷ xs)) ≡ elem y (handed_of (unlimited l hs (x ∷ xs)) (x ∷ xs)) || elem y hs
    go true e f = rw e (f (x ∷ hs) ∙ swap (elem y (handed_of (unlimited l (x ∷ hs) xs) xs)) (eqb y x) (elem y hs))
    go false e f = rw e (f hs)

high-memory : (l : ℕ) (xs hs : List ℕ) → highest (memory l hs xs) ≡ max (highest (handed_of (unlimited l hs xs) xs)) (highest hs)
unfolding memory remembered unlimited handed_of highest
high-memory l [] hs = omega arith
high-memory l (x ∷ xs) hs = go (is_up (judged l hs x)) refl (λ is. high-memory l xs is)
  where
    go : (v : Bool) → is_up (judged l hs x) ≡ v
        → ((is : List ℕ) → highest (memory l is xs) ≡ max (highest (handed_of (unlimited l is xs) xs)) (highest is))
        → highest (memory l hs (x ∷ xs)) ≡ max (highest (handed_of (unlimited l hs (x ∷ xs)) (x ∷ xs))) (highest hs)
    go true e f = rw e (let z = f (x ∷ hs) in omega arith)
    go false e f = rw e (f hs)

-- From the start they are the same.
pub same-elem : (l : ℕ) (xs : List ℕ) (y : ℕ) → elem y (memory l [] xs) ≡ elem y (handed_by l xs)
unfolding elem
same-elem l xs y = in_memory l xs [] y ∙ or-none (elem y (handed_by l xs))

pub same-high : (l : ℕ) (xs : List ℕ) → highest (memory l [] xs) ≡ highest (handed_by l xs)
unfolding highest
same-high l xs = high-memory l xs [] ∙ omega arith

-- ---- the count

pub absent-same : (f : ℕ) (hs is : List ℕ) → ((y : ℕ) → elem y hs ≡ elem y is) → (n : ℕ) → absent f hs n ≡ absent f is n
unfolding absent
absent-same f hs is e zero = refl
absent-same f hs is e (suc n) = rw (e (f + suc n), absent-same f hs is e n)

pub same-missed : (l f : ℕ) (xs : List ℕ) → missed l f (memory l [] xs) ≡ missed l f (handed_by l xs)
same-missed l f xs =
    rw (same-high l xs) (absent-same _ (memory l [] xs) (handed_by l xs) (same-elem l xs) _)

-- an index that lies above those counted changes nothing
pub absent-beyond : (f x n : ℕ) (hs : List ℕ) → n ≤ x - suc f → absent f (x ∷ hs) n ≡ absent f hs n
unfolding absent
absent-beyond f x zero hs b = refl
absent-beyond f x (suc n) hs b = rw (more (f + suc n) x hs, ne_eqb (f + suc n) x (omega arith), absent-beyond f x n hs (omega arith))

-- ---- for good

-- What is handed up lies within the window.
pub within : (l h : ℕ) (hs : List ℕ) (y : ℕ) → is_up (judged l (h ∷ hs) y) ≡ true → apart y (highest (h ∷ hs)) < l
unfolding judged
within l h hs y e = ltb-true (apart y (highest (h ∷ hs))) l (go (ltb (apart y (highest (h ∷ hs))) l) (elem y (h ∷ hs)) e)
  where
    go : (a b : Bool) → is_up (if a then (if b then duplicate else up) else rogue) ≡ true → a ≡ true
    go true b q = refl
    go false b q = absurd (false≢true q)

no-highest : (n : ℕ) → 0 < n → n ≤ highest [] → ⊥
unfolding highest
no-highest n a b = omega arith

stays_out : (l : ℕ) (ys hs : List ℕ) (x : ℕ) → 0 < l → x + l ≤ highest hs → elem x hs ≡ false → elem x (memory l hs ys) ≡ false
unfolding memory remembered apart
stays_out l [] hs x a b e = e
stays_out l (y ∷ ys) [] x a b e = absurd (no-highest (x + l) (omega arith) b)
stays_out l (y ∷ ys) (h ∷ hs) x a b e = go (is_up (judged l (h ∷ hs) y)) refl (λ is. stays_out l ys is x a)
  where
    go : (v : Bool) → is_up (judged l (h ∷ hs) y) ≡ v
        → ((is : List ℕ) → x + l ≤ highest is → elem x is ≡ false → elem x (memory l is ys) ≡ false)
        → elem x (memory l (h ∷ hs) (y ∷ ys)) ≡ false
    go true q f =
        let w = within l h hs y q in
        let t = top y (h ∷ hs) in
        rw q (f (y ∷ h ∷ hs) (omega arith) (more x y (h ∷ hs) ∙ rw (ne_eqb x y (omega arith), e)))
    go false q f = rw q (f (h ∷ hs) b e)

memory-append : (l : ℕ) (xs ys hs : List ℕ) → memory l hs (xs ++ ys) ≡ memory l (memory l hs xs) ys
unfolding memory
memory-append l [] ys hs = refl
memory-append l (x ∷ xs) ys hs = memory-append l xs ys (remembered l hs x)

pub lost-for-good : LostForGood
lost-for-good l before after x a b e =
    sym (same-elem l (before ++ after) x)
    ∙ ap (elem x) (memory-append l before after [])
    ∙ stays_out l after (memory l [] before) x a (rw (same-high l before) b) (same-elem l before x ∙ e)
