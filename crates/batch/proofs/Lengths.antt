-- Lengths that run past the buffer, from a place of it on. Assumes nothing.
use Prim.Native.Nat.{ℕ, zero, suc, ◌+◌, ◌*◌, ◌-◌, ◌≤◌, ◌<◌}
use mathlib.Core.Path.{◌≡◌, refl, sym, ap, ◌∙◌}
use mathlib.Core.Bool.{Bool, true, false, ◌||◌}
use mathlib.Core.List.{List, [], ◌∷◌}
use native.Mathlib.Nat.{add-zero}
use native.Mathlib.Omega.{arith}
use lib.Dec.{ltb}
use lib.ListN.{length, get_or, take, drop, length-drop}
use lib.Seq.{drop-drop}
use borrow.Author.Tests.{lt-ltb, le-ltb, ltb-false}
use Rattle.frame.specs.Bytes.{word}
use Rattle.frame.proofs.Words.{word-drop}
use Rattle.batch.specs.Batch.{runs_past}

pub neither : (a b : Bool) → a || b ≡ false → (a ≡ false) × (b ≡ false)
neither false b e = (refl, e)
neither true b e = absurd (let z : ◌≡◌ {A = ℕ} 0 1 = cc in omega arith)

pub past-nought : (s : List ℕ) (n : ℕ) → n ≡ 0 → false ≡ runs_past n s
unfolding runs_past
past-nought s n e = rw e

module _ (s : List ℕ) (at : ℕ) where
  -- the length that stands at a place stands in front of what is there
  pub in-front : word (drop at s) 0 ≡ word s at
  in-front = word-drop at s 0 ∙ ap (word s) (add-zero at)

  pub behind : drop (2 + word (drop at s) 0) (drop at s) ≡ drop (at + 2 + word s at) s
  behind =
      let e : at + (2 + word (drop at s) 0) ≡ at + 2 + word s at = omega (arith, in-front) in
      drop-drop (2 + word (drop at s) 0) at s ∙ ap (λ (k : ℕ). drop k s) e

  -- one length more
  past-goes : (n : ℕ) → runs_past (suc n) (drop at s) ≡ ltb (length s - at) (2 + word s at) || runs_past n (drop (at + 2 + word s at) s)
  unfolding runs_past
  past-goes n = rw (behind, in-front, length-drop)

  pub past-here : (n : ℕ) → 0 < n → length s < at + 2 + word s at → at ≤ length s → true ≡ runs_past n (drop at s)
  past-here zero h k l = absurd (omega arith)
  past-here (suc n) h k l = let m : length s - at < 2 + word s at = omega arith in sym (past-goes n ∙ simp (lt-ltb _ _ m))

  pub past-later : (n : ℕ) → 0 < n → at + 2 + word s at ≤ length s → runs_past n (drop at s) ≡ runs_past (n - 1) (drop (at + 2 + word s at) s)
  past-later zero h k = absurd (omega arith)
  past-later (suc n) h k =
      let m : 2 + word s at ≤ length s - at = omega arith in
      let e : n ≡ suc n - 1 = omega arith in
      past-goes n ∙ simp (le-ltb _ _ m) (ap (λ (m : ℕ). runs_past m (drop (at + 2 + word s at) s)) e)

  -- where none runs past, the first frame ends within the buffer, and none of the rest runs past
  pub past-none : (n : ℕ) → at ≤ length s → 0 < n → runs_past n (drop at s) ≡ false
      → (at + 2 + word s at ≤ length s) × (runs_past (n - 1) (drop (at + 2 + word s at) s) ≡ false)
  past-none zero l h e = absurd (omega arith)
  past-none (suc n) l h e =
      let p = neither (ltb (length s - at) (2 + word s at)) (runs_past n (drop (at + 2 + word s at) s)) (sym (past-goes n) ∙ e) in
      let k : at + 2 + word s at ≤ length s = omega (arith, ltb-false (length s - at) (2 + word s at) p.0) in
      (k, sym (past-later (suc n) h k) ∙ e)

-- the rest runs past exactly if all does
pub past-rest : (s : List ℕ) (at n : ℕ) {size : ℕ} {r : Bool} → 0 < n → size ≡ word s at → at + 2 + size ≤ length s
    → runs_past n (drop at s) ≡ r → runs_past (n - 1) (drop (at + 2 + size) s) ≡ r
past-rest s at n h e k p = rw e (sym (past-later s at n h (rw e at k))) ∙ p

-- ---- the same of what is left of the buffer: its first length stands in front

module _ (s : List ℕ) where
  pub past-short : (n : ℕ) → 0 < n → length s < 2 → true ≡ runs_past n s
  unfolding runs_past
  past-short zero h l = absurd (omega arith)
  past-short (suc n) h l = let m : length s < 2 + word s 0 = omega arith in simp (lt-ltb _ _ m)

  pub past-size : (n : ℕ) → 0 < n → length s < 2 + word s 0 → true ≡ runs_past n s
  unfolding runs_past
  past-size zero h l = absurd (omega arith)
  past-size (suc n) h l = simp (lt-ltb _ _ l)

  pub past-more : (n : ℕ) → 0 < n → 2 + word s 0 ≤ length s → runs_past n s ≡ runs_past (n - 1) (drop (2 + word s 0) s)
  unfolding runs_past
  past-more zero h k = absurd (omega arith)
  past-more (suc n) h k = let e : n ≡ suc n - 1 = omega arith in simp (le-ltb _ _ k) (ap (λ (m : ℕ). runs_past m (drop (2 + word s 0) s)) e)

-- the first two bytes as a number
pub first-word : (s : List ℕ) → 2 ≤ length s → get_or (take 2 s) 0 0 * 256 + get_or (take 2 s) 1 0 ≡ word s 0
first-word [] h = absurd (omega arith)
first-word (x ∷ []) h = absurd (omega arith)
first-word (x ∷ y ∷ s) h = refl

-- the first length as the code takes it: two bytes, and what is behind them
module _ (s bytes behind : List ℕ) (n : ℕ) (front : bytes ≡ take 2 s) (rest : behind ≡ drop 2 s) (long : length behind + 2 ≡ length s)
    (size : n ≡ get_or bytes 0 0 * 256 + get_or bytes 1 0) where
  read : n ≡ word s 0
  read = size ∙ ap (λ (b : List ℕ). get_or b 0 0 * 256 + get_or b 1 0) front ∙ first-word s (omega arith)

  pub past-cut : (k : ℕ) → 0 < k → length behind < n → true ≡ runs_past k s
  past-cut k h l = past-size s k h (omega (arith, read))

  pub past-kept : (k : ℕ) → 0 < k → n ≤ length behind → (left : List ℕ) → left ≡ drop n behind → runs_past (k - 1) left ≡ runs_past k s
  past-kept k h l left e =
      let d : left ≡ drop (2 + word s 0) s = e ∙ ap (drop n) rest ∙ drop-drop n 2 s ∙ ap (λ (m : ℕ). drop (2 + m) s) read in
      ap (runs_past (k - 1)) d ∙ sym (past-more s k h (omega (arith, read)))
