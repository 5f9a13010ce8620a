-- The places left for numbers older than the first: as the decision leaves them, they are placed. Assumes nothing.
use Rattle.std.proofs.Common.{◌≡◌, ℕ, zero, suc, ◌+◌, ◌-◌, ◌<◌, ◌≤◌, Bool, true, false, ◌||◌, eqb, refl, ap, ◌∙◌, zero-le, arith, ne_eqb, le-leb}
use native.Mathlib.Decide.{dec_lt}
use Rattle.record.specs.Sizes.{window_most}
use Rattle.stream.specs.History.{History, bit, single, set_bit, advance}
use Rattle.stream.specs.Record.{placed}
use Rattle.stream.proofs.Logic.{tests}
use Rattle.stream.proofs.Past.{single-bit, set-bit, advance-high}

or-true : (b : Bool) → b || true ≡ true
or-true true = refl
or-true false = refl

pub none-placed : (w : ℕ) (h : History) → placed w 0 h ≡ true
unfolding placed
none-placed w h = rw (le-leb 0 (w - 1) zero-le)

at_place : (w n : ℕ) (h : History) → n ≤ w - 1 → bit (w - 1 - n) h ≡ true → placed w n h ≡ true
unfolding placed
at_place w n h a b = rw (le-leb n (w - 1) a, b, or-true (eqb n 0))

record Place (w n : ℕ) (h : History) : Type 0 where
  most : n ≤ w - 1
  there : bit (w - 1 - n) h ≡ true

place : (w n : ℕ) (h : History) → 0 < n → placed w n h ≡ true → Place w n h
unfolding placed
place w n h a e =
    let none : eqb n 0 ≡ false = ne_eqb n 0 (omega arith) in
    let p = simp tests at (rw none at e) in
    record { most = p.0; there = p.1 }

pub first-placed : (w : ℕ) → placed w (w - 1) single ≡ true
first-placed w =
    let z : w - 1 - (w - 1) ≡ 0 = omega arith in
    at_place w (w - 1) single (omega arith) (ap (λ (k : ℕ). bit k single) z ∙ single-bit 0)

module _ (w : ℕ) (most : w ≤ window_most) where
  pub late-placed : (n k : ℕ) (h : History) → 0 < w → k < w → placed w n h ≡ true → placed w n (set_bit k h) ≡ true
  late-placed zero k h o a e = none-placed w (set_bit k h)
  late-placed (suc n) k h o a e =
      let p = place w (suc n) h (omega arith) e in
      at_place w (suc n) (set_bit k h) p.most
      (set-bit w most k (w - 1 - suc n) h a (omega arith) ∙ rw p.there (or-true (eqb (w - 1 - suc n) k)))

  pub next-placed : (n d : ℕ) (h : History) → 0 < w → 0 < d → placed w n h ≡ true → placed w (n - d) (advance w d h) ≡ true
  next-placed n d h o a e = elim (dec_lt d n) [
    | yes q ↦
        let p = place w n h (omega arith) e in
        let m = p.most in
        let k : w - 1 - (n - d) ≡ w - 1 - n + d = omega (arith, m) in
        at_place w (n - d) (advance w d h) (omega (arith, m))
        (ap (λ (j : ℕ). bit j (advance w d h)) k ∙ advance-high w most d h (w - 1 - n) a (omega (arith, m)) ∙ p.there)
    | no q ↦ let z : n - d ≡ 0 = omega arith in rw z (none-placed w (advance w d h))
  ]
