-- The difference is the integer from -32768 to 32767 that is congruent to number - anchor. Assumes nothing.
use Rattle.std.proofs.Common.{◌≡◌, ℕ, zero, suc, ◌+◌, ◌-◌, ◌*◌, ◌%◌, ◌<◌, ◌≤◌, true, ℤ, pos, negsuc, ◌+ℤ◌, ◌-ℤ◌, ◌*ℤ◌, sym, refl, ap, ◌∙◌, arith, le-ltb, lt-ltb, le-leb, leb-true}
use mathlib.Core.Bool.{and-eq-true_iff}
use native.Mathlib.Decide.{dec_lt}
use Rattle.stream.specs.Decisions.{signed, difference, as_int}
use Rattle.stream.specs.Laws.{Congruent, sixteen_bits, DifferenceInRange, DifferenceCongruent, DifferenceOnly}
use Rattle.stream.proofs.Reading.{signed_low, signed_high}

-- Both readings of a number below 65536.
reads : (w : ℕ) → w < 65536 → sixteen_bits (as_int (signed w)) ≡ true
reads w h = elim (dec_lt w 32768) [
  | yes l ↦ rw (signed_low w l) (le-leb w 32767 (omega arith))
  | no l ↦ rw (signed_high w (omega arith) h, le-leb (65535 - w) 32767 (omega arith))
]

pub difference-in-range : DifferenceInRange
unfolding difference
difference-in-range number anchor = reads ((number + 65536 - anchor) % 65536) (omega arith)

-- number - anchor, by which is the greater
minus-le : (a b : ℕ) → b ≤ a → pos a -ℤ pos b ≡ pos (a - b)
minus-le a zero h = ap pos (omega arith)
minus-le a (suc b) h = rw (le-ltb a (suc b) h)

minus-gt : (a b : ℕ) → a < b → pos a -ℤ pos b ≡ negsuc (b - suc a)
minus-gt a zero h = absurd (omega arith)
minus-gt a (suc b) h = rw (lt-ltb a (suc b) h)

-- A number below 65536 is read as itself or as 65536 less.
read-le : (w : ℕ) → w < 65536 → Congruent (as_int (signed w)) (pos w)
read-le w h = elim (dec_lt w 32768) [
  | yes l ↦ (pos 0, signed_low w l ∙ ap pos (omega arith))
  | no l ↦
      let z : 65535 - w ≡ 65536 - suc w = omega arith in
      (negsuc 0, signed_high w (omega arith) h ∙ rw (lt-ltb w 65536 h) (ap negsuc z))
]

read-gt : (b w : ℕ) → w + suc b ≡ 65536 → Congruent (as_int (signed w)) (negsuc b)
read-gt b w h = elim (dec_lt w 32768) [
  | yes l ↦
      let z : w ≡ 65536 - suc b = omega arith in
      (pos 1, signed_low w l ∙ rw (le-ltb 65536 (suc b) (omega arith)) (ap pos z))
  | no l ↦
      let z : 65535 - w ≡ suc b - 1 = omega arith in
      (pos 0, signed_high w (omega arith) (omega arith) ∙ rw (lt-ltb 0 (suc b) (omega arith)) (ap negsuc z))
]

pub difference-congruent : DifferenceCongruent
unfolding difference
difference-congruent number anchor p q = elim (dec_lt number anchor) [
  | yes l ↦
      rw (minus-gt number anchor l)
      (read-gt (anchor - suc number) ((number + 65536 - anchor) % 65536) (omega arith))
  | no l ↦
      let w : (number + 65536 - anchor) % 65536 ≡ number - anchor = omega arith in
      rw (minus-le number anchor (omega arith), w) (read-le (number - anchor) (omega arith))
]

-- What an integer leaves modulo 65536; multiples of it do not change that.
residue : ℤ → ℕ
residue (pos a) = a % 65536
residue (negsuc a) = 65535 - a % 65536

residue-minus : (a k : ℕ) → (q : ℕ) → k ≡ q * 65536 + 65535 → residue (pos a +ℤ negsuc k) ≡ a % 65536
unfolding residue
residue-minus a k q h = elim (dec_lt a (suc k)) [
  | yes l ↦ rw (lt-ltb a (suc k) l) (omega arith)
  | no l ↦ rw (le-ltb a (suc k) (omega arith)) (omega arith)
]

residue-plus : (a n : ℕ) → (q : ℕ) → n ≡ q * 65536 → residue (negsuc a +ℤ pos n) ≡ 65535 - a % 65536
unfolding residue
residue-plus a n q h = elim (dec_lt n (suc a)) [
  | yes l ↦ rw (lt-ltb n (suc a) l) (omega arith)
  | no l ↦ rw (le-ltb n (suc a) (omega arith)) (omega arith)
]

residue-shift : (x m : ℤ) → residue (x +ℤ m *ℤ pos 65536) ≡ residue x
unfolding residue
residue-shift (pos a) (pos m) = omega arith
residue-shift (negsuc a) (pos m) = residue-plus a (m * 65536) m refl
residue-shift (pos a) (negsuc m) =
    let k : suc m * 65536 ≡ suc (m * 65536 + 65535) = omega arith in
    rw k (residue-minus a (m * 65536 + 65535) m refl)
residue-shift (negsuc a) (negsuc m) =
    let k : suc m * 65536 ≡ suc (m * 65536 + 65535) = omega arith in
    rw k (omega arith)

-- It fixes an integer of the range,
settles : (z : ℤ) → sixteen_bits z ≡ true → z ≡ as_int (signed (residue z))
unfolding residue
settles (pos a) e =
    let h : a ≤ 32767 = leb-true a 32767 e in
    let w : a % 65536 ≡ a = omega arith in
    rw w (sym (signed_low a (omega arith)))
settles (negsuc a) e =
    let p = simp and-eq-true_iff at e in
    let h : a ≤ 32767 = leb-true a 32767 p.0 in
    let w : 65535 - (65535 - a % 65536) ≡ a = omega arith in
    sym (signed_high (65535 - a % 65536) (omega arith) (omega arith) ∙ ap negsuc w)

-- and it is the difference's.
residue-difference : (number anchor : ℕ) → number < 65536 → anchor < 65536
    → residue (pos number -ℤ pos anchor) ≡ (number + 65536 - anchor) % 65536
unfolding residue
residue-difference number anchor p q = elim (dec_lt number anchor) [
  | yes l ↦ rw (minus-gt number anchor l) (omega arith)
  | no l ↦ rw (minus-le number anchor (omega arith)) (omega arith)
]

pub difference-only : DifferenceOnly
unfolding difference
difference-only number anchor z p q r (m, e) =
    settles z r
    ∙ ap (λ (w : ℕ). as_int (signed w))
    (ap residue e ∙ residue-shift (pos number -ℤ pos anchor) m ∙ residue-difference number anchor p q)
