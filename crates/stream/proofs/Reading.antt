-- The signed reading as the code computes it, and the code's tests on it as tests on the definitions. Assumes nothing.
use Rattle.std.proofs.Common.{◌≡◌, ℕ, zero, suc, ◌-◌, ◌^◌, ◌<◌, ◌≤◌, Bool, true, false, eqb, ltb, ℤ, pos, negsuc, sym, refl, ap, ◌∙◌, arith, w16, w32, SFits, to_z, of_z, le-ltb, lt-ltb, ne_eqb}
use native.Mathlib.Decide.{dec_lt}
use borrow.Author.Tests.{eqb-false}
use mir.Facts.{to_z_pos, to_z-neg}
use Rattle.std.specs.Prelude.{if◌then◌else◌}
use Rattle.stream.specs.Decisions.{Signed, ahead, behind, signed, difference, as_int}

-- 1. The reading. A number of 16 bits, in 32:
pub wide : (w : ℕ) → w < 2 ^ 16 → to_z w32 w ≡ pos w
wide w h = to_z_pos w32 (omega arith)

pub signed_low : (w : ℕ) → w < 32768 → as_int (signed w) ≡ pos w
unfolding signed
signed_low zero h = refl
signed_low (suc w) h = rw (ne_eqb (suc w) 0 (omega arith), lt-ltb (suc w) 32768 h)

pub signed_high : (w : ℕ) → 32768 ≤ w → w < 2 ^ 16 → as_int (signed w) ≡ negsuc (65535 - w)
unfolding signed
signed_high w l h =
    let n : 65536 - w ≡ suc (65535 - w) = omega arith in
    rw (ne_eqb w 0 (omega arith), le-ltb w 32768 l, n)

-- It is the signed reading at 16 bits.
pub sixteen : (w : ℕ) → w < 2 ^ 16 → to_z w16 w ≡ as_int (signed w)
sixteen w h = elim (dec_lt w 32768) [
  | yes l ↦ to_z_pos w16 l ∙ sym (signed_low w l)
  | no l ↦
      let high : w ≡ 2 ^ 16 - suc (65535 - w) = omega arith in
      ap (to_z w16) high ∙ to_z-neg w16 (65535 - w) (omega arith) ∙ sym (signed_high w (omega arith) h)
]

-- What is ahead is ahead by one or more.
abbrev pub Forward : Signed → Type 0
Forward (ahead d) = 0 < d
Forward (behind k) = Unit {0}

forward-signed : (w : ℕ) → Forward (signed w)
unfolding signed
forward-signed w = go (eqb w 0) (ltb w 32768) refl
  where
    go : (a b : Bool) → eqb w 0 ≡ a → Forward (if a then behind 0 else if b then ahead w else behind (65536 - w))
    go true b e = tt
    go false true e = let o : w ≡ 0 → ⊥ = eqb-false w 0 e in omega arith
    go false false e = tt

pub forward : (number anchor : ℕ) → Forward (difference number anchor)
unfolding difference
forward number anchor = forward-signed _

-- 2. The code's test of a signed local for a number n, on its bits.
abbrev pub isℤ : ℤ → ℕ → Bool
isℤ (pos a) n = eqb a n
isℤ (negsuc a) n = false

pub bits_are : (d : ℤ) (n : ℕ) → SFits w32 d → n < 2 ^ 31 → eqb (of_z w32 d) n ≡ isℤ d n
bits_are (pos a) n hd hn = refl
bits_are (negsuc a) n hd hn = ne_eqb (2 ^ 32 - suc a) n (λ e. let h : a < 2 ^ 31 = hd.sfits in omega arith)
