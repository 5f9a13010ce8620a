-- d places up at once: the history is shifted and cut once, and lost are the zeros among the d places that leave. It is
-- what d single places give. Assumes nothing.
use Rattle.std.proofs.Common.{◌≡◌, ℕ, zero, suc, ◌+◌, ◌-◌, ◌*◌, ◌/◌, ◌%◌, ◌^◌, ◌<◌, ◌≤◌, false, not, ◌&&◌, eqb, sym, refl, ap, ◌∙◌, ap₂, lt_of_lt_of_le, mod-lt, mod-eq_of_lt, mul_assoc, add-mul, add_comm, div-add-mod', zero-add, mul_right_comm, arith, lit<, pow_pos, pow_mono, shr-shr, ne_eqb}
use native.Mathlib.Decide.{dec_lt}
use native.Mathlib.Nat.{mod-one, add-mul-mod_self_right}
use lib.Count.{ones, ones_cat, ones-le}
use lib.Pow.{field, shl-shr, mod-mod-pow}
use lib.Arith.{mod-mul}
use Rattle.record.specs.Sizes.{window_most}
use Rattle.stream.specs.History.{History, value, holding, bit_of, bit, one, push, pushes, leaving}
use Rattle.stream.proofs.Words.{value-words}

pub mod_times : (x c m : ℕ) → (x % m * c) % m ≡ (x * c) % m
mod_times x c m =
    let parts : x * c ≡ x % m * c + x / m * c * m =
    ap (λ (y : ℕ). y * c) (sym (div-add-mod' x m)) ∙ add-mul (x / m * m) (x % m) c
    ∙ add_comm (x / m * m * c) (x % m * c) ∙ ap (λ (y : ℕ). x % m * c + y) (mul_right_comm (x / m) m c) in
    sym (ap (λ (y : ℕ). y % m) parts ∙ add-mul-mod_self_right (x % m * c) (x / m * c) m)

-- a number below 2 ^ L, held in the words
pub held : (l v : ℕ) → l ≤ window_most → v < 2 ^ l → value (holding v) ≡ v
held l v a b = value-words 8 v ∙ mod-eq_of_lt (lt_of_lt_of_le b (pow_mono a))

push-value : (l : ℕ) (h : History) → l ≤ window_most → value (push l h) ≡ value h * 2 % 2 ^ l
unfolding push
push-value l h a = held l (value h * 2 % 2 ^ l) a (mod-lt (value h * 2) (pow_pos l))

push-one : (l : ℕ) (h : History) → push l h ≡ holding (value h * 2 ^ 1 % 2 ^ l)
unfolding push
push-one l h = refl

-- the history
pub pushes-at-once : (l d : ℕ) (h : History) → l ≤ window_most → 1 ≤ d → pushes l d h ≡ holding (value h * 2 ^ d % 2 ^ l)
unfolding pushes
pushes-at-once l zero h a p = absurd (omega arith)
pushes-at-once l (suc zero) h a p = push-one l h
pushes-at-once l (suc (suc d)) h a p =
    let twice : 2 * 2 ^ suc d ≡ 2 ^ suc (suc d) = omega arith in
    pushes-at-once l (suc d) (push l h) a (omega arith)
    ∙ ap holding
    (ap (λ (y : ℕ). y * 2 ^ suc d % 2 ^ l) (push-value l h a)
    ∙ mod_times (value h * 2) (2 ^ suc d) (2 ^ l)
    ∙ ap (λ (y : ℕ). y % 2 ^ l) (mul_assoc (value h) 2 (2 ^ suc d) ∙ ap (λ (y : ℕ). value h * y) twice))

-- how many of the d places below place l are set
abbrev pub set_in : (l d h : ℕ) → ℕ
set_in l d h = ones (h / 2 ^ (l - d) % 2 ^ d)

pub set-le : (l d h : ℕ) → set_in l d h ≤ d
set-le l d h = ones-le d (h / 2 ^ (l - d) % 2 ^ d) (mod-lt (h / 2 ^ (l - d)) (pow_pos d))

-- the top one of them, and the rest, which are those of the history one place up
ones_bit : (b : ℕ) → b < 2 → ones b ≡ b
unfolding ones
ones_bit zero p = refl
ones_bit (suc zero) p = refl
ones_bit (suc (suc b)) p = absurd (omega arith)

top_apart : (l d h : ℕ) → d < l → set_in l (suc d) h ≡ h / 2 ^ (l - 1) % 2 + ones (h / 2 ^ (l - suc d) % 2 ^ d)
top_apart l d h p =
    let x : ℕ = h / 2 ^ (l - suc d) in
    let twice : 2 ^ suc d ≡ 2 * 2 ^ d = omega arith in
    let place : l - suc d + d ≡ l - 1 = omega arith in
    let top : x / 2 ^ d % 2 ≡ h / 2 ^ (l - 1) % 2 =
    ap (λ (y : ℕ). y % 2) (shr-shr h (l - suc d) d ∙ ap (λ (n : ℕ). h / 2 ^ n) place) in
    ap (λ (m : ℕ). ones (x % m)) twice
    ∙ ap ones (mod-mul x {m = 2} {c = 2 ^ d} (lit< tt) (pow_pos d))
    ∙ ones_cat d (x / 2 ^ d % 2) (x % 2 ^ d) (mod-lt x (pow_pos d))
    ∙ ap (λ (n : ℕ). n + ones (x % 2 ^ d)) (ones_bit (x / 2 ^ d % 2) (omega arith) ∙ top)

-- the m places from place a on, one place up
pushed-field : (l a m h : ℕ) → suc a + m ≤ l → h * 2 % 2 ^ l / 2 ^ suc a % 2 ^ m ≡ h / 2 ^ a % 2 ^ m
pushed-field l a m h p =
    let r : ℕ = l - suc a - m in
    let whole : l ≡ r + m + suc a = omega arith in
    let next : suc a ≡ 1 + a = omega arith in
    let half : h * 2 / 2 ≡ h = omega arith in
    ap (λ (y : ℕ). y % 2 ^ m) (ap (λ (n : ℕ). h * 2 % 2 ^ n / 2 ^ suc a) whole ∙ field (h * 2) (r + m) (suc a))
    ∙ mod-mod-pow (h * 2 / 2 ^ suc a) r m
    ∙ ap (λ (n : ℕ). h * 2 / 2 ^ n % 2 ^ m) next
    ∙ ap (λ (y : ℕ). y % 2 ^ m) (sym (shr-shr (h * 2) 1 a) ∙ ap (λ (y : ℕ). y / 2 ^ a) half)

rest-pushed : (l d n h : ℕ) → d < l → set_in (l - n) (d - n) (h * 2 % 2 ^ l) ≡ ones (h / 2 ^ (l - suc d) % 2 ^ (d - n))
rest-pushed l d n h p = elim (dec_lt d n) [
  | yes q ↦
      let z : d - n ≡ 0 = omega arith in
      ap ones (rw z (mod-one (h * 2 % 2 ^ l / 2 ^ (l - n - 0)) ∙ sym (mod-one (h / 2 ^ (l - suc d)))))
  | no q ↦
      let place : l - n - (d - n) ≡ suc (l - suc d) = omega arith in
      ap ones (ap (λ (k : ℕ). h * 2 % 2 ^ l / 2 ^ k % 2 ^ (d - n)) place ∙ pushed-field l (l - suc d) (d - n) h (omega arith))
]

one-leaves : (b d o : ℕ) → b < 2 → o ≤ d → one (not (eqb b 1)) + (d - o) ≡ suc d - (b + o)
one-leaves zero d o p q = omega arith
one-leaves (suc zero) d o p q = omega arith
one-leaves (suc (suc b)) d o p q = absurd (omega arith)

-- the place where the counted ones begin
early-place : (l d n h : ℕ) → ones (h / 2 ^ (l - suc d) % 2 ^ (d - n)) ≡ set_in (l - suc n) (d - n) h
early-place l d n h = elim (dec_lt d n) [
  | yes q ↦
      let z : d - n ≡ 0 = omega arith in
      ap ones (rw z (mod-one (h / 2 ^ (l - suc d)) ∙ sym (mod-one (h / 2 ^ (l - suc n - 0)))))
  | no q ↦
      let place : l - suc d ≡ l - suc n - (d - n) = omega arith in
      ap (λ (k : ℕ). ones (h / 2 ^ k % 2 ^ (d - n))) place
]

last-leaves : (l d h : ℕ) → d < l → one (not (bit_of (l - 1) h)) + (d - 0 - ones (h / 2 ^ (l - suc d) % 2 ^ (d - 0))) ≡ suc d - 0 - set_in (l - 0) (suc d - 0) h
unfolding bit_of
last-leaves l d h p =
    let a : d - 0 ≡ d = omega arith in
    let b : suc d - 0 ≡ suc d = omega arith in
    let c : l - 0 ≡ l = omega arith in
    rw (a, b, c) (one-leaves (h / 2 ^ (l - 1) % 2) d (ones (h / 2 ^ (l - suc d) % 2 ^ d)) (omega arith)
    (ones-le d (h / 2 ^ (l - suc d) % 2 ^ d) (mod-lt (h / 2 ^ (l - suc d)) (pow_pos d)))
    ∙ ap (λ (n : ℕ). suc d - n) (sym (top_apart l d h p)))

-- what is lost: nothing while the places for older numbers last, and then the zeros below them
pub leaving-at-once : (l d n : ℕ) (h : History) → l ≤ window_most → d ≤ l → leaving l d n h ≡ d - n - set_in (l - n) (d - n) (value h)
unfolding leaving bit
leaving-at-once l zero n h m p = omega arith
leaving-at-once l (suc d) (suc n) h m p =
    let v : ℕ = value h in
    let none : eqb (suc n) 0 ≡ false = ne_eqb (suc n) 0 (omega arith) in
    let less : suc n - 1 ≡ n = omega arith in
    let rest : suc d - suc n ≡ d - n = omega arith in
    let sum : one (eqb (suc n) 0 && not (bit_of (l - 1) v)) ≡ 0 = rw none in
    ap₂ (λ (x k : ℕ). x + leaving l d k (push l h)) sum less
    ∙ zero-add (leaving l d n (push l h))
    ∙ leaving-at-once l d n (push l h) m (omega arith)
    ∙ ap (λ (x : ℕ). d - n - x) (ap (set_in (l - n) (d - n)) (push-value l h m) ∙ rest-pushed l d n v p ∙ early-place l d n v)
    ∙ ap (λ (k : ℕ). k - set_in (l - suc n) k v) (sym rest)
leaving-at-once l (suc d) zero h m p =
    let v : ℕ = value h in
    ap (λ (x : ℕ). one (not (bit_of (l - 1) v)) + x)
    (leaving-at-once l d 0 (push l h) m (omega arith)
    ∙ ap (λ (x : ℕ). d - 0 - x) (ap (set_in (l - 0) (d - 0)) (push-value l h m) ∙ rest-pushed l d 0 v p))
    ∙ last-leaves l d v p

pub leaving-none : (l d n : ℕ) (h : History) → l ≤ window_most → d ≤ l → d ≤ n → leaving l d n h ≡ 0
leaving-none l d n h m p q =
    let z : d - n ≡ 0 = omega arith in
    leaving-at-once l d n h m p ∙ ap (λ (k : ℕ). k - set_in (l - n) k (value h)) z ∙ zero-less (set_in (l - n) 0 (value h))
  where
    zero-less : (x : ℕ) → 0 - x ≡ 0
    zero-less x = omega arith

pub leaving-one : (l : ℕ) (h : History) → leaving l 1 0 h ≡ one (not (bit (l - 1) h))
unfolding leaving
leaving-one l h = omega arith

-- the same in one word of 64 bits, the window at its top
pub top_field : (h l d : ℕ) → d ≤ l → l ≤ 64 → (h * 2 ^ (64 - l)) % 2 ^ 64 / 2 ^ (64 - d) ≡ h / 2 ^ (l - d) % 2 ^ d
top_field h l d p q =
    let x : ℕ = h * 2 ^ (64 - l) in
    let whole : 64 ≡ d + (64 - d) = omega arith in
    let parts : 64 - d ≡ 64 - l + (l - d) = omega arith in
    ap (λ (n : ℕ). x % 2 ^ n / 2 ^ (64 - d)) whole
    ∙ field x d (64 - d)
    ∙ ap (λ (n : ℕ). x / 2 ^ n % 2 ^ d) parts
    ∙ ap (λ (y : ℕ). y % 2 ^ d) (sym (shr-shr x (64 - l) (l - d)) ∙ ap (λ (y : ℕ). y / 2 ^ (l - d)) (shl-shr h (64 - l)))

pub top_shift : (h l d : ℕ) → l ≤ 64 → (h * 2 ^ d) % 2 ^ 64 * 2 ^ (64 - l) % 2 ^ 64 / 2 ^ (64 - l) ≡ h * 2 ^ d % 2 ^ l
top_shift h l d q =
    let up : ℕ = 64 - l in
    let whole : 64 ≡ l + (64 - l) = omega arith in
    ap (λ (y : ℕ). y / 2 ^ up) (mod_times (h * 2 ^ d) (2 ^ up) (2 ^ 64))
    ∙ ap (λ (n : ℕ). (h * 2 ^ d * 2 ^ up) % 2 ^ n / 2 ^ up) whole
    ∙ field (h * 2 ^ d * 2 ^ up) l up
    ∙ ap (λ (y : ℕ). y % 2 ^ l) (shl-shr (h * 2 ^ d) up)
