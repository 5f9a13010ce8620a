-- The laws of the bits of a number. Assumes nothing.
use Rattle.std.proofs.Common.{◌≡◌, ℕ, zero, suc, ◌+◌, ◌*◌, ◌/◌, ◌%◌, ◌^◌, ◌<◌, false, ◌||◌, eqb, sym, ap, ◌∙◌, div-one, arith, shr-shr, eq-eqb, ne_eqb}
use native.Mathlib.Nat.{zero-div}
use lib.Dec.{eqb-suc-suc, eqb-zero-suc, eqb-suc-zero}
use lib.Pow.{field, mod-mod-pow}
use borrow.Author.Tests.{eqb-false}
use Rattle.stream.specs.History.{bit_of}

pub bit-zero : (h : ℕ) → bit_of 0 h ≡ eqb (h % 2) 1
unfolding bit_of
bit-zero h = ap (λ (n : ℕ). eqb (n % 2) 1) (div-one h)

bit-suc : (k h : ℕ) → bit_of (suc k) h ≡ bit_of k (h / 2)
unfolding bit_of
bit-suc k h = ap (λ (n : ℕ). eqb (n % 2) 1) (ap (λ (n : ℕ). h / 2 ^ n) (omega arith) ∙ sym (shr-shr h 1 k))

-- an even number has bit 0 clear
pub even : (h : ℕ) → bit_of 0 (h * 2) ≡ false
even h = bit-zero (h * 2) ∙ ne_eqb (h * 2 % 2) 1 (λ e. omega arith)

pub double : (k h : ℕ) → bit_of (suc k) (h * 2) ≡ bit_of k h
double k h = bit-suc k (h * 2) ∙ ap (bit_of k) (omega arith)

-- the bits below L stay in what is taken modulo 2 ^ L
pub below : (k l h : ℕ) → k < l → bit_of k (h % 2 ^ l) ≡ bit_of k h
below k zero h b = absurd (omega arith)
below zero (suc l) h b =
    bit-zero (h % 2 ^ suc l)
    ∙ ap (λ (n : ℕ). eqb n 1) (ap (λ (n : ℕ). h % 2 ^ n % 2) (omega arith) ∙ mod-mod-pow h l 1)
    ∙ sym (bit-zero h)
below (suc k) (suc l) h b =
    bit-suc k (h % 2 ^ suc l)
    ∙ ap (bit_of k) (ap (λ (n : ℕ). h % 2 ^ n / 2) (omega arith) ∙ field h l 1)
    ∙ below k l (h / 2) (omega arith)
    ∙ sym (bit-suc k h)

-- a clear bit is set by adding its weight
pub added : (k j h : ℕ) → bit_of k h ≡ false → bit_of j (h + 2 ^ k) ≡ eqb j k || bit_of j h
added zero zero h e =
    let o : h % 2 ≡ 1 → ⊥ = eqb-false (h % 2) 1 (sym (bit-zero h) ∙ e) in
    bit-zero (h + 1) ∙ eq-eqb ((h + 1) % 2) 1 (omega arith)
added zero (suc j) h e =
    let o : h % 2 ≡ 1 → ⊥ = eqb-false (h % 2) 1 (sym (bit-zero h) ∙ e) in
    bit-suc j (h + 1) ∙ ap (bit_of j) (omega arith) ∙ sym (bit-suc j h) ∙ rw eqb-suc-zero
added (suc k) zero h e =
    let p : (h + 2 ^ suc k) % 2 ≡ h % 2 = omega arith in
    bit-zero (h + 2 ^ suc k) ∙ ap (λ (n : ℕ). eqb n 1) p ∙ sym (bit-zero h) ∙ rw eqb-zero-suc
added (suc k) (suc j) h e =
    bit-suc j (h + 2 ^ suc k) ∙ ap (bit_of j) (omega arith) ∙ added k j (h / 2) (sym (bit-suc k h) ∙ e)
    ∙ rw (eqb-suc-suc, bit-suc)

-- and stays below 2 ^ L
pub added-lt : (k l h : ℕ) → k < l → h < 2 ^ l → bit_of k h ≡ false → h + 2 ^ k < 2 ^ l
added-lt k zero h a b e = absurd (omega arith)
added-lt zero (suc l) h a b e =
    let o : h % 2 ≡ 1 → ⊥ = eqb-false (h % 2) 1 (sym (bit-zero h) ∙ e) in
    omega arith
added-lt (suc k) (suc l) h a b e =
    let r = added-lt k l (h / 2) (omega arith) (omega arith) (sym (bit-suc k h) ∙ e) in
    omega arith

pub none : (k : ℕ) → bit_of k 0 ≡ false
unfolding bit_of
none k = rw zero-div
