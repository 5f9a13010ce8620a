-- Words of a frame that is put together from parts, its source, where its type field is, and its first bytes.
-- Assumes nothing.
use mathlib.Core.Path.{◌≡◌, refl, sym, ap, ◌∙◌}
use Prim.Native.Nat.{ℕ, ◌+◌, ◌%◌, ◌≤◌, ◌<◌}
use native.Mathlib.Omega.{arith}
use native.Mathlib.Nat.{add_assoc}
use mathlib.Core.Bool.{Bool, true, false}
use mathlib.Core.List.{List, [], ◌∷◌, ◌++◌}
use lib.ListN.{length, get_or, take, drop, get_or-append, get_or-eq_default}
use lib.Seq.{get_or-append-add, get_or-take, get_or-drop, length-take-le}
use lib.Dec.{eqb}
use borrow.Author.Tests.{eqb-true, eqb-false}
use Rattle.frame.specs.Bytes.{word}
use Rattle.frame.specs.Frame.{type_at, group_source, has_vlan}
use Rattle.frame.proofs.Heads.{type-vlan, type-plain}

-- ---- a word before a seam and behind it

pub word-front : (p x : List ℕ) (i : ℕ) → i + 2 ≤ length p → word (p ++ x) i ≡ word p i
word-front p x i h = rw (get_or-append p x 0 i (omega arith), get_or-append p x 0 (i + 1) (omega arith))

pub word-behind : (p x : List ℕ) (j : ℕ) → word (p ++ x) (length p + j) ≡ word x j
word-behind p x j = rw (add_assoc (length p) j 1, get_or-append-add p x j 0, get_or-append-add p x (j + 1) 0)

pub word_at : (p x : List ℕ) (i j : ℕ) → length p + j ≡ i → word (p ++ x) i ≡ word x j
word_at p x i j e = ap (word (p ++ x)) (sym e) ∙ word-behind p x j

pub word-take : (o : ℕ) (f : List ℕ) (i : ℕ) → i + 2 ≤ o → word (take o f) i ≡ word f i
word-take o f i h = rw (get_or-take o f i 0 (omega arith), get_or-take o f (i + 1) 0 (omega arith))

pub word-drop : (k : ℕ) (f : List ℕ) (j : ℕ) → word (drop k f) j ≡ word f (k + j)
word-drop k f j = rw (get_or-drop k f j 0, get_or-drop k f (j + 1) 0, add_assoc k j 1)

-- ---- the source

pub no_source : (f : List ℕ) → length f < 7 → false ≡ group_source f
unfolding group_source
no_source f h = rw (get_or-eq_default f 0 {n = 6} (omega arith))

-- it stands before the tag: what follows does not change it
pub same_source : (o : ℕ) (f x : List ℕ) → 12 ≤ o → o ≤ length f → group_source (take o f ++ x) ≡ group_source f
unfolding group_source
same_source o f x h r =
    let b : get_or (take o f ++ x) 6 0 ≡ get_or f 6 0 = get_or-append (take o f) x 0 6 (omega (arith, length-take-le o f r)) ∙ get_or-take o f 6 0 (omega arith) in
    ap (λ (k : ℕ). eqb (k % 2) 1) b

-- ---- where the type field is

pub data Place (f : List ℕ) : Type 0 where
  plain : (word f 12 ≡ 0x8100 → ⊥) → type_at f ≡ 12 → has_vlan f ≡ false → Place f
  vlan : word f 12 ≡ 0x8100 → type_at f ≡ 16 → has_vlan f ≡ true → Place f

pub place : (f : List ℕ) → Place f
unfolding has_vlan
place f = go (eqb (word f 12) 0x8100) refl
  where
    go : (b : Bool) → eqb (word f 12) 0x8100 ≡ b → Place f
    go true e = let h = eqb-true _ _ e in vlan h (type-vlan f h) e
    go false e = let h = eqb-false _ _ e in plain h (type-plain f h) e

-- ---- the first six bytes

pub six : (l : List ℕ) → 6 ≤ length l → take 6 l ≡ get_or l 0 0 ∷ get_or l 1 0 ∷ get_or l 2 0 ∷ get_or l 3 0 ∷ get_or l 4 0 ∷ get_or l 5 0 ∷ []
six [] h = absurd (omega arith)
six (a ∷ []) h = absurd (omega arith)
six (a ∷ b ∷ []) h = absurd (omega arith)
six (a ∷ b ∷ c ∷ []) h = absurd (omega arith)
six (a ∷ b ∷ c ∷ d ∷ []) h = absurd (omega arith)
six (a ∷ b ∷ c ∷ d ∷ e ∷ []) h = absurd (omega arith)
six (a ∷ b ∷ c ∷ d ∷ e ∷ g ∷ l) h = refl
