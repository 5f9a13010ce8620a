-- The history's word, as the code handles it: one bit, and the bits above a window. Assumes nothing.
use Rattle.std.proofs.Common.{◌≡◌, ℕ, suc, ◌+◌, ◌-◌, ◌*◌, ◌/◌, ◌%◌, ◌^◌, ◌<◌, ◌≤◌, Bool, true, false, eqb, ltb, sym, refl, ap, ◌∙◌, ap₂, mul-le-mul_right, mod-lt, div-lt_iff_lt-mul, add-mul, one-mul, arith, lit<, pow_pos, shl_exact, le-ltb, lt-ltb, eqb-true}
use native.Mathlib.Nat.{pow-succ'}
use native.Mathlib.Decide.{dec_lt}
use lib.Bits.{bit_or, or_block, or_step, or_zero_r}
use lib.Pow.{split}
use borrow.Author.Tests.{eqb-false}
use Rattle.std.specs.Prelude.{if◌then◌else◌}
use Rattle.stream.specs.History.{bit_of}

-- `1 << k` at 64 bits is 2 ^ k
pub one_shl : (k : ℕ) → k < 64 → (1 * 2 ^ k) % 2 ^ 64 ≡ 2 ^ k
one_shl k h = shl_exact {a = 1} 1 k 64 (lit< tt) (omega arith) ∙ one-mul (2 ^ k)

-- its lowest bit set
or-one : (q : ℕ) → bit_or q 1 ≡ q + (1 - q % 2)
or-one q = or_step q 1 ∙ rw (or_zero_r) (omega arith)

or-sum : (h k : ℕ) → bit_or h (2 ^ k) ≡ h + (1 - h / 2 ^ k % 2) * 2 ^ k
or-sum h k =
    let one_block : 2 ^ k ≡ 1 * 2 ^ k + 0 = omega arith in
    ap₂ bit_or (sym (split h k)) one_block
    ∙ or_block k (h / 2 ^ k) 1 (h % 2 ^ k) 0 (mod-lt h (pow_pos k)) (pow_pos k)
    ∙ rw (or-one, or_zero_r) (omega (arith, add-mul (h / 2 ^ k) (1 - h / 2 ^ k % 2) (2 ^ k), split h k))

-- `h | 2 ^ k` is h with bit k set
pub or-bit : (h k : ℕ) → bit_or h (2 ^ k) ≡ (if bit_of k h then h else h + 2 ^ k)
unfolding bit_of
or-bit h k = or-sum h k ∙ go (eqb (h / 2 ^ k % 2) 1) refl
  where
    go : (v : Bool) → eqb (h / 2 ^ k % 2) 1 ≡ v
        → h + (1 - h / 2 ^ k % 2) * 2 ^ k ≡ (if eqb (h / 2 ^ k % 2) 1 then h else h + 2 ^ k)
    go true e =
        let b : 1 - h / 2 ^ k % 2 ≡ 0 = omega (arith, eqb-true (h / 2 ^ k % 2) 1 e) in
        rw (e, b) (omega arith)
    go false e =
        let n : h / 2 ^ k % 2 ≡ 1 → ⊥ = eqb-false (h / 2 ^ k % 2) 1 e in
        let b : 1 - h / 2 ^ k % 2 ≡ 1 = omega arith in
        rw (e, b) (omega arith)

-- no bit at w or above, as the code tests it
twice_half : (w : ℕ) → 0 < w → 2 * 2 ^ (w - 1) ≡ 2 ^ w
twice_half w p =
    let same : suc (w - 1) ≡ w = omega arith in
    sym (pow-succ' 2 (w - 1)) ∙ ap (λ (n : ℕ). 2 ^ n) same

pub top-clear : (h w : ℕ) → 0 < w → ltb (h / 2 ^ (w - 1)) 2 ≡ ltb h (2 ^ w)
top-clear h w p = elim (dec_lt (h / 2 ^ (w - 1)) 2) [
  | yes q ↦
      let below : h < 2 ^ w = rw (twice_half w p) at ((div-lt_iff_lt-mul {k = 2 ^ (w - 1)} (pow_pos (w - 1))).0 q) in
      lt-ltb (h / 2 ^ (w - 1)) 2 q ∙ sym (lt-ltb h (2 ^ w) below)
  | no q ↦
      let top : 2 ≤ h / 2 ^ (w - 1) = omega arith in
      let above : 2 ^ w ≤ h = omega (arith, mul-le-mul_right (2 ^ (w - 1)) top, split h (w - 1), twice_half w p) in
      le-ltb (h / 2 ^ (w - 1)) 2 top ∙ sym (le-ltb h (2 ^ w) above)
]
