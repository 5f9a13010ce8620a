-- The signed difference of two numbers, from the indices that they stand for. Assumes nothing.
use Prim.Native.Nat.{ℕ, zero, suc, ◌+◌, ◌-◌, ◌%◌, ◌≤◌, ◌<◌}
use mathlib.Core.Path.{◌≡◌}
use native.Mathlib.Omega.{arith}
use native.Mathlib.Decide.{dec_lt}
use borrow.Author.Tests.{lt-ltb, le-ltb, ne_eqb}
use Rattle.stream.specs.History.{History}
use Rattle.stream.specs.Decisions.{far, ahead, behind, signed, difference, vector_case}

-- d places ahead of the index h
pub forward : (h d : ℕ) → 0 < d → d < 32768 → difference ((h + d) % 65536) (h % 65536) ≡ ahead d
unfolding difference signed
forward h d a b =
    let w : ((h + d) % 65536 + 65536 - h % 65536) % 65536 ≡ d = omega arith in
    rw (w, ne_eqb d 0 (omega arith), lt-ltb d 32768 b)

-- k places behind it
pub backward : (x k : ℕ) → k < 32768 → difference (x % 65536) ((x + k) % 65536) ≡ behind k
unfolding difference signed
backward x zero b =
    let w : (x % 65536 + 65536 - (x + 0) % 65536) % 65536 ≡ 0 = omega arith in
    rw w
backward x (suc k) b =
    let w : (x % 65536 + 65536 - (x + suc k) % 65536) % 65536 ≡ 65535 - k = omega arith in
    let v : 65536 - (65535 - k) ≡ suc k = omega arith in
    rw (w, ne_eqb (65535 - k) 0 (omega arith), le-ltb (65535 - k) 32768 (omega arith), v)

-- From L to 65536 - L places apart, on either side: a rogue.
outside : (l : ℕ) (h : History) (w : ℕ) → l ≤ w → w ≤ 65536 - l → 0 < l → l < 32768 → vector_case l h (signed w) ≡ far
unfolding signed vector_case
outside l h w a b c d = elim (dec_lt w 32768) [
  | yes e ↦ rw (ne_eqb w 0 (omega arith), lt-ltb w 32768 e, le-ltb w l a)
  | no e ↦ rw (ne_eqb w 0 (omega arith), le-ltb w 32768 (omega arith), le-ltb (65536 - w) l (omega arith))
]

pub far-forward : (l : ℕ) (g : History) (h d : ℕ) → l ≤ d → d ≤ 65536 - l → 0 < l → l < 32768
    → vector_case l g (difference ((h + d) % 65536) (h % 65536)) ≡ far
unfolding difference
far-forward l g h d a b c e =
    let w : ((h + d) % 65536 + 65536 - h % 65536) % 65536 ≡ d = omega arith in
    rw w (outside l g d a b c e)

pub far-backward : (l : ℕ) (g : History) (x k : ℕ) → l ≤ k → k ≤ 65536 - l → 0 < l → l < 32768
    → vector_case l g (difference (x % 65536) ((x + k) % 65536)) ≡ far
unfolding difference
far-backward l g x k a b c e =
    let w : (x % 65536 + 65536 - (x + k) % 65536) % 65536 ≡ 65536 - k = omega arith in
    rw w (outside l g (65536 - k) (omega arith) (omega arith) c e)
