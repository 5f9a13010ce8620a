-- One turn, byte by byte: the frame that it takes, the output that it is lent, what is packed behind it, and its answer's place.
-- Assumes nothing.
use Prim.Native.Nat.{ℕ, ◌+◌, ◌-◌, ◌≤◌}
use mathlib.Core.Path.{◌≡◌, refl, sym, ◌∙◌}
use mathlib.Core.Bool.{Bool, true, false, cond}
use mathlib.Core.List.{List, [], ◌∷◌, ◌++◌, append_assoc, append-nil}
use native.Mathlib.Omega.{arith}
use lib.Dec.{leb}
use lib.ListN.{length, take, drop, set, length-append, length-drop, take-append-drop, drop_of_length-le}
use lib.Seq.{drop-drop, drop-append-add, take-append-add, drop-length, set-append_seam, set_at}
use borrow.Author.Tests.{le-leb, leb-false}
use Rattle.frame.specs.Bytes.{word, overlay}
use Rattle.calls.specs.Calls.{Result}
use Rattle.calls.specs.Told.{tell_arrival}
use Rattle.batch.specs.Batch.{adds}
use Rattle.batch.specs.Steps.{from_of, added, length_put}
use Rattle.batch.proofs.Lengths.{in-front}
use Rattle.batch.proofs.Arriving.{Leaves, nothing-new, handed-up}

-- ---- the frame

pub frame-there : (s : List ℕ) (a : ℕ) → take (a + 2 + word s a - (a + 2)) (drop (a + 2) s) ≡ take (word (drop a s) 0) (drop 2 (drop a s))
frame-there s a =
    let n : a + 2 + word s a - (a + 2) ≡ word s a = omega arith in
    rw (n, in-front s a, drop-drop 2 a s)

-- ---- the output that is lent: p is what is packed, over o

abbrev pub from_in : (p o : List ℕ) → ℕ
from_in p o = from_of (length p) (length (overlay p o))

module _ (p o : List ℕ) (fits : length p ≤ length o) where
  pub overlay-length : length (overlay p o) ≡ length o
  unfolding overlay
  overlay-length = simp (length-append, length-drop) (omega arith)

  pub lent-end : drop (from_in p o) (overlay p o) ≡ drop 2 (drop (length p) o)
  unfolding overlay
  lent-end = go (leb (length p + 2) (length (overlay p o))) refl
    where
      go : (b : Bool) → leb (length p + 2) (length (overlay p o)) ≡ b → drop (cond b (length p + 2) (length (overlay p o))) (overlay p o) ≡ drop 2 (drop (length p) o)
      go true e = drop-append-add p (drop (length p) o) 2
      go false e =
          let h = leb-false (length p + 2) (length (overlay p o)) e in
          drop-length (overlay p o) ∙ sym (drop_of_length-le (drop (length p) o) {i = 2} (omega (arith, overlay-length, length-drop (length p) o)))

  -- ---- what is packed behind it

  -- two bytes in front of what is written, where both stand
  two : (bare left : List ℕ) (h l : ℕ) → drop (length p) o ≡ left → 2 ≤ length left
      → set (set (take (length p + 2) (overlay p o) ++ overlay bare (drop 2 left)) (length p) h) (length p + 1) l ≡ overlay (p ++ (h ∷ l ∷ bare)) o
  unfolding overlay
  two bare [] h l e k = absurd (omega arith)
  two bare (x ∷ []) h l e k = absurd (omega arith)
  two bare (x ∷ (y ∷ left)) h l e k =
      let a : take (length p + 2) (p ++ drop (length p) o) ≡ p ++ (x ∷ y ∷ []) = take-append-add p (drop (length p) o) 2 ∙ rw e in
      let b : set (p ++ (x ∷ y ∷ overlay bare left)) (length p) h ≡ p ++ (h ∷ y ∷ overlay bare left) = set-append_seam p x _ h in
      let n : length (p ++ (h ∷ [])) ≡ length p + 1 = length-append p (h ∷ []) in
      let c : set ((p ++ (h ∷ [])) ++ (y ∷ overlay bare left)) (length p + 1) l ≡ (p ++ (h ∷ [])) ++ (l ∷ overlay bare left) = set_at (p ++ (h ∷ [])) y _ l _ n in
      let d : drop (length (p ++ (h ∷ l ∷ bare))) o ≡ drop (length bare) left = rw length-append (sym (drop-drop (length (h ∷ l ∷ bare)) (length p) o) ∙ rw e) in
      rw (a, append_assoc, b) (simp append_assoc at c ∙ rw (d, append_assoc))

  module _ (r : Result) (v : Leaves (drop 2 (drop (length p) o)) r) where
    -- the bytes
    pub packs :
        length_put (length p) (tell_arrival r.said) (take (from_in p o) (overlay p o) ++ r.output) ≡ overlay (p ++ adds r) o
    unfolding length_put
    packs = go v
      where
        go : Leaves (drop 2 (drop (length p) o)) r → length_put (length p) (tell_arrival r.said) (take (from_in p o) (overlay p o) ++ r.output) ≡ overlay (p ++ adds r) o
        go (nothing-new h w a) = rw (a, h, w, append-nil, ← lent-end) (take-append-drop (from_in p o) (overlay p o))
        go (handed-up bare m k h l w a) =
            let n = length-drop (length p) o in
            let q = length-drop 2 (drop (length p) o) in
            let b : leb (length p + 2) (length (overlay p o)) ≡ true = le-leb (length p + 2) (length (overlay p o)) (omega (arith, overlay-length)) in
            rw (a, h, w, l, b) (two bare (drop (length p) o) _ _ refl (omega arith))

    -- how many
    pub counts : added (tell_arrival r.said) ≡ length (adds r)
    counts = go v
      where
        go : Leaves (drop 2 (drop (length p) o)) r → added (tell_arrival r.said) ≡ length (adds r)
        go (nothing-new h w a) = rw (h, a)
        go (handed-up bare m k h l w a) = rw (h, a, l) (omega arith)

    pub fits_on : length (p ++ adds r) ≤ length o
    fits_on = go v
      where
        go : Leaves (drop 2 (drop (length p) o)) r → length (p ++ adds r) ≤ length o
        go (nothing-new h w a) = rw (a, append-nil) fits
        go (handed-up bare m k h l w a) =
            let n = length-drop (length p) o in
            let q = length-drop 2 (drop (length p) o) in
            rw (a, length-append) (omega arith)
