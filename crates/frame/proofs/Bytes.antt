-- Laws of `overlay`. Assumes nothing.
use mathlib.Core.Path.{◌≡◌, ap, ◌∙◌}
use mathlib.Core.List.{List, [], ◌++◌, append_assoc, append-nil}
use Prim.Native.Nat.{ℕ, ◌-◌}
use native.Mathlib.Nat.{le_of_eq}
use lib.ListN.{length, take, drop, length-append, length-drop, drop_of_length-le}
use lib.Seq.{take_all, take-length, take-append_seam, drop-append_seam, drop-drop}
use borrow.Rule.Slice.PartMut.{mid_of, put_mid}
use Rattle.frame.specs.Bytes.{overlay}

-- at the end of a loop that copies byte by byte
pub copy-end : (src old : List ℕ) {now : List ℕ} (i : ℕ) → now ≡ take i src ++ drop i old → i ≡ length src → now ≡ overlay src old
unfolding overlay
copy-end src old i e h = e ∙ rw (h, take-length)

-- what was written first, then what the second part writes behind it
pub overlay-append : (a b d : List ℕ) → take (length a) (overlay a d) ++ overlay b (drop (length a) (overlay a d)) ≡ overlay (a ++ b) d
unfolding overlay
overlay-append a b d = simp (take-append_seam, drop-append_seam, drop-drop, length-append, append_assoc)

-- a tail that is cut by its length is the tail
pub part-tail : (k : ℕ) (f : List ℕ) → take (length f - k) (drop k f) ≡ drop k f
part-tail k f = take_all (length f - k) (drop k f) (le_of_eq (length-drop k f))

-- a tail of what was written, lent to a function that writes b over it, and put back
pub tail-over : (a : ℕ) (p b d : List ℕ) {x y : List ℕ} → length p ≡ a → x ≡ overlay p d → y ≡ overlay b (mid_of a (length x - a) x)
    → put_mid a (length x - a) x y ≡ overlay (p ++ b) d
tail-over a p b d {x} {y} n e g =
    let w : y ≡ overlay b (drop a x) = g ∙ ap (overlay b) (part-tail a x) in
    let z : drop (length x - a) (drop a x) ≡ [] = drop_of_length-le (drop a x) (le_of_eq (length-drop a x)) in
    rw (z, append-nil, w, e, ← n) (overlay-append p b d)

-- the same, where b is a tail of f, cut by its length
pub tail-copied : (a k : ℕ) (p f d : List ℕ) {x y : List ℕ} → length p ≡ a → x ≡ overlay p d → y ≡ overlay (take (length f - k) (drop k f)) (mid_of a (length x - a) x)
    → put_mid a (length x - a) x y ≡ overlay (p ++ drop k f) d
tail-copied a k p f d n e g = tail-over a p (drop k f) d n e (rw (part-tail k f) at g)

-- what was written stands at the start
pub overlay-front : (new old : List ℕ) {n : ℕ} → n ≡ length new → take n (overlay new old) ≡ new
unfolding overlay
overlay-front new old e = rw e (take-append_seam new (drop (length new) old))
