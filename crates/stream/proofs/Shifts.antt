-- A number's words moved up, cut and counted, over any number of words. Assumes nothing.
use Rattle.std.proofs.Common.{◌≡◌, ℕ, zero, suc, ◌+◌, ◌-◌, ◌*◌, ◌/◌, ◌%◌, ◌^◌, ◌<◌, ◌≤◌, List, length, get_or, set, replicate, sym, refl, ap, ◌∙◌, subst, ap₂, lt_of_lt_of_le, lt_of_le_of_lt, add-zero, mod-lt, mod-eq_of_lt, mul_assoc, add_comm, div-one, arith, length-set, get_or-set_other, get_or-set_same, ext_get_or, pow_pos, pow_mono, pow-add, shr-shr, shr_lt}
use native.Mathlib.Nat.{mod-one, div-eq_of_lt, mul-mod_left, add-mul-div_right}
use native.Mathlib.Decide.{ℕ_discrete, dec_lt, dec_le}
use lib.Count.{ones, ones_cat, ones-le}
use lib.Bits.{bit_or, or_shifted}
use lib.Pow.{shl-shr, field, mod-mod-pow, mod-pow-add, shr_le}
use Rattle.stream.specs.History.{value, words_of}
use Rattle.stream.proofs.Moves.{mod_times}
use Rattle.stream.proofs.Words.{Small, word_at, word_of, words-at, words-length}

-- what is moved up by b leaves the word's b highest places
pub mod-shift : (u k b : ℕ) → (u * 2 ^ b) % 2 ^ (k + b) ≡ u % 2 ^ k * 2 ^ b
mod-shift u k b =
    mod-pow-add (u * 2 ^ b) k b
    ∙ ap₂ (λ (x y : ℕ). x % 2 ^ k * 2 ^ b + y) (shl-shr u b) (mul-mod_left u (2 ^ b))
    ∙ add-zero (u % 2 ^ k * 2 ^ b)

-- the code's joined word
pub join-or : (hi lo b : ℕ) → b < 64 → lo < 2 ^ 64 → bit_or ((hi * 2 ^ b) % 2 ^ 64) (lo / 2 ^ 1 / 2 ^ (63 - b)) ≡ (hi * 2 ^ b) % 2 ^ 64 + lo / 2 ^ (64 - b)
join-or hi lo b p q =
    let whole : 64 ≡ 64 - b + b = omega arith in
    let one : 1 + (63 - b) ≡ 64 - b = omega arith in
    let other : 64 ≡ b + (64 - b) = omega arith in
    let high : (hi * 2 ^ b) % 2 ^ 64 ≡ hi % 2 ^ (64 - b) * 2 ^ b = ap (λ (n : ℕ). (hi * 2 ^ b) % 2 ^ n) whole ∙ mod-shift hi (64 - b) b in
    let small : lo / 2 ^ (64 - b) < 2 ^ b = shr_lt b (64 - b) (subst (λ (n : ℕ). lo < 2 ^ n) other q) in
    ap₂ bit_or high (shr-shr lo 1 (63 - b) ∙ ap (λ (n : ℕ). lo / 2 ^ n) one)
    ∙ or_shifted (hi % 2 ^ (64 - b)) b (lo / 2 ^ (64 - b)) small
    ∙ ap (λ (x : ℕ). x + lo / 2 ^ (64 - b)) (sym high)

pub cut-is : (x up : ℕ) → up < 64 → (x * 2 ^ up) % 2 ^ 64 / 2 ^ up ≡ x % 2 ^ (64 - up)
cut-is x up p =
    let whole : 64 ≡ 64 - up + up = omega arith in
    ap (λ (n : ℕ). (x * 2 ^ up) % 2 ^ n / 2 ^ up) whole ∙ field (x * 2 ^ up) (64 - up) up ∙ ap (λ (y : ℕ). y % 2 ^ (64 - up)) (shl-shr x up)

-- a shift up and then down by less, and by more
up-down : (x j k : ℕ) → k ≤ j → x * 2 ^ j / 2 ^ k ≡ x * 2 ^ (j - k)
up-down x j k p =
    let whole : j ≡ j - k + k = omega arith in
    ap (λ (n : ℕ). x * 2 ^ n / 2 ^ k) whole
    ∙ ap (λ (y : ℕ). y / 2 ^ k) (ap (λ (y : ℕ). x * y) (pow-add 2 (j - k) k) ∙ sym (mul_assoc x (2 ^ (j - k)) (2 ^ k)))
    ∙ shl-shr (x * 2 ^ (j - k)) k

up_more : (x j k : ℕ) → j ≤ k → x * 2 ^ j / 2 ^ k ≡ x / 2 ^ (k - j)
up_more x j k p =
    let whole : k ≡ j + (k - j) = omega arith in
    ap (λ (n : ℕ). x * 2 ^ j / 2 ^ n) whole
    ∙ sym (shr-shr (x * 2 ^ j) j (k - j))
    ∙ ap (λ (y : ℕ). y / 2 ^ (k - j)) (shl-shr x j)

-- the words of a number moved up by d places: below the place that word 0 comes to, there, and above
pub up-below : (x d i : ℕ) → i < d / 64 → word_at (x * 2 ^ d) i ≡ 0
unfolding word_at
up-below x d i p =
    let less : 64 * i ≤ d = omega arith in
    let m : ℕ = d - 64 * i - 64 in
    let whole : d - 64 * i ≡ m + 64 = omega arith in
    ap (λ (y : ℕ). y % 2 ^ 64)
    (up-down x d (64 * i) less ∙ ap (λ (n : ℕ). x * 2 ^ n) whole ∙ ap (λ (y : ℕ). x * y) (pow-add 2 m 64) ∙ sym (mul_assoc x (2 ^ m) (2 ^ 64)))
    ∙ mul-mod_left (x * 2 ^ m) (2 ^ 64)

pub up_first : (x d : ℕ) → word_at (x * 2 ^ d) (d / 64) ≡ (word_at x 0 * 2 ^ (d % 64)) % 2 ^ 64
unfolding word_at
up_first x d =
    let less : 64 * (d / 64) ≤ d = omega arith in
    let rest : d - 64 * (d / 64) ≡ d % 64 = omega arith in
    ap (λ (y : ℕ). y % 2 ^ 64) (up-down x d (64 * (d / 64)) less ∙ ap (λ (n : ℕ). x * 2 ^ n) rest)
    ∙ sym (mod_times x (2 ^ (d % 64)) (2 ^ 64))
    ∙ ap (λ (y : ℕ). (y % 2 ^ 64 * 2 ^ (d % 64)) % 2 ^ 64) (sym (div-one x))

-- 64 bits across two words
across : (y b : ℕ) → b ≤ 64 → (y / 2 ^ 64 % 2 ^ 64 * 2 ^ b) % 2 ^ 64 + y % 2 ^ 64 / 2 ^ (64 - b) ≡ y / 2 ^ (64 - b) % 2 ^ 64
across y b p =
    let z : ℕ = y / 2 ^ (64 - b) in
    let whole : 64 ≡ 64 - b + b = omega arith in
    let other : 64 ≡ b + (64 - b) = omega arith in
    ap₂ (λ (u v : ℕ). u + v)
    (mod_times (y / 2 ^ 64) (2 ^ b) (2 ^ 64)
    ∙ ap (λ (n : ℕ). (y / 2 ^ 64 * 2 ^ b) % 2 ^ n) whole
    ∙ mod-shift (y / 2 ^ 64) (64 - b) b
    ∙ ap (λ (u : ℕ). u % 2 ^ (64 - b) * 2 ^ b) (ap (λ (n : ℕ). y / 2 ^ n) whole ∙ sym (shr-shr y (64 - b) b)))
    (ap (λ (n : ℕ). y % 2 ^ n / 2 ^ (64 - b)) other ∙ field y b (64 - b))
    ∙ sym (mod-pow-add z (64 - b) b)
    ∙ ap (λ (n : ℕ). z % 2 ^ n) (sym whole)

pub up_next : (x d i : ℕ) → d / 64 < i → word_at (x * 2 ^ d) i ≡ (word_at x (i - d / 64) * 2 ^ (d % 64)) % 2 ^ 64 + word_at x (i - d / 64 - 1) / 2 ^ (64 - d % 64)
unfolding word_at
up_next x d i p =
    let b : ℕ = d % 64 in
    let j : ℕ = i - d / 64 - 1 in
    let y : ℕ = x / 2 ^ (64 * j) in
    let less : d ≤ 64 * i = omega arith in
    let back : 64 * i - d ≡ 64 * j + (64 - b) = omega arith in
    let next : 64 * (i - d / 64) ≡ 64 * j + 64 = omega arith in
    let small : b ≤ 64 = omega arith in
    ap (λ (u : ℕ). u % 2 ^ 64) (up_more x d (64 * i) less ∙ ap (λ (n : ℕ). x / 2 ^ n) back ∙ sym (shr-shr x (64 * j) (64 - b)))
    ∙ sym (across y b small)
    ∙ ap (λ (u : ℕ). (u % 2 ^ 64 * 2 ^ b) % 2 ^ 64 + y % 2 ^ 64 / 2 ^ (64 - b)) (shr-shr x (64 * j) 64 ∙ ap (λ (n : ℕ). x / 2 ^ n) (sym next))

-- a word cut at what is left of w: the code's first two cases
pub kept_whole : (x w i : ℕ) → x < 2 ^ 64 → 64 * i + 64 ≤ w → x % 2 ^ (w - 64 * i) ≡ x
kept_whole x w i p q =
    let more : 64 ≤ w - 64 * i = omega arith in
    mod-eq_of_lt (lt_of_lt_of_le p (pow_mono more))

pub kept-none : (x w i : ℕ) → w ≤ 64 * i → x % 2 ^ (w - 64 * i) ≡ 0
kept-none x w i q =
    let none : w - 64 * i ≡ 0 = omega arith in
    ap (λ (n : ℕ). x % 2 ^ n) none ∙ mod-one x

word_lt : (n i : ℕ) → word_at n i < 2 ^ 64
unfolding word_at
word_lt n i = mod-lt (n / 2 ^ (64 * i)) (pow_pos 64)

-- the words of a number cut at place w: below, at the cut, and above
pub cut_below : (n w i : ℕ) → 64 * i + 64 ≤ w → word_at (n % 2 ^ w) i ≡ word_at n i
unfolding word_at
cut_below n w i p =
    let m : ℕ = w - 64 * i - 64 in
    let whole : w ≡ m + 64 + 64 * i = omega arith in
    ap (λ (k : ℕ). n % 2 ^ k / 2 ^ (64 * i) % 2 ^ 64) whole
    ∙ ap (λ (u : ℕ). u % 2 ^ 64) (field n (m + 64) (64 * i))
    ∙ mod-mod-pow (n / 2 ^ (64 * i)) m 64

pub cut_at : (n w i : ℕ) → 64 * i ≤ w → w ≤ 64 * i + 64 → word_at (n % 2 ^ w) i ≡ word_at n i % 2 ^ (w - 64 * i)
unfolding word_at
cut_at n w i p q =
    let y : ℕ = n / 2 ^ (64 * i) in
    let m : ℕ = w - 64 * i in
    let whole : w ≡ m + 64 * i = omega arith in
    let word : 64 ≡ 64 - m + m = omega arith in
    let small : m ≤ 64 = omega arith in
    ap (λ (k : ℕ). n % 2 ^ k / 2 ^ (64 * i) % 2 ^ 64) whole
    ∙ ap (λ (u : ℕ). u % 2 ^ 64) (field n m (64 * i))
    ∙ mod-eq_of_lt (lt_of_lt_of_le (mod-lt y (pow_pos m)) (pow_mono small))
    ∙ sym (mod-mod-pow y (64 - m) m)
    ∙ ap (λ (k : ℕ). y % 2 ^ k % 2 ^ m) (sym word)

pub cut-above : (n w i : ℕ) → w ≤ 64 * i → word_at (n % 2 ^ w) i ≡ 0
unfolding word_at
cut-above n w i p = ap (λ (u : ℕ). u % 2 ^ 64) (div-eq_of_lt (lt_of_lt_of_le (mod-lt n (pow_pos w)) (pow_mono p)))

-- the same as one law: a word is cut at what is left of w
pub cut_word : (n w i : ℕ) → word_at (n % 2 ^ w) i ≡ word_at n i % 2 ^ (w - 64 * i)
cut_word n w i = go (dec_le (64 * i + 64) w) (dec_le w (64 * i))
  where
    go : Dec (64 * i + 64 ≤ w) → Dec (w ≤ 64 * i) → word_at (n % 2 ^ w) i ≡ word_at n i % 2 ^ (w - 64 * i)
    go (yes p) _ = cut_below n w i p ∙ sym (kept_whole (word_at n i) w i (word_lt n i) p)
    go (no p) (yes q) = cut-above n w i q ∙ sym (kept-none (word_at n i) w i q)
    go (no p) (no q) = cut_at n w i (omega arith) (omega arith)

-- the set bits from place low on: those below k, and the m from k on
pub ones-more : (h k m low : ℕ) → low ≤ k → ones (h % 2 ^ (k + m) / 2 ^ low) ≡ ones (h % 2 ^ k / 2 ^ low) + ones (h / 2 ^ k % 2 ^ m)
ones-more h k m low p =
    let x : ℕ = h / 2 ^ k % 2 ^ m in
    let r : ℕ = h % 2 ^ k in
    let j : ℕ = k - low in
    let whole : k ≡ j + low = omega arith in
    let sum : k + m ≡ m + k = omega arith in
    let small : r / 2 ^ low < 2 ^ j = shr_lt j low (subst (λ (n : ℕ). r < 2 ^ n) whole (mod-lt h (pow_pos k))) in
    let power : x * 2 ^ k ≡ x * 2 ^ j * 2 ^ low =
    ap (λ (n : ℕ). x * 2 ^ n) whole ∙ ap (λ (u : ℕ). x * u) (pow-add 2 j low) ∙ sym (mul_assoc x (2 ^ j) (2 ^ low)) in
    ap (λ (n : ℕ). ones (h % 2 ^ n / 2 ^ low)) sum
    ∙ ap (λ (u : ℕ). ones (u / 2 ^ low)) (mod-pow-add h m k ∙ ap (λ (u : ℕ). u + r) power ∙ add_comm (x * 2 ^ j * 2 ^ low) r)
    ∙ ap ones (add-mul-div_right r (x * 2 ^ j) (pow_pos low) ∙ add_comm (r / 2 ^ low) (x * 2 ^ j))
    ∙ ones_cat j x (r / 2 ^ low) small
    ∙ add_comm (ones x) (ones (r / 2 ^ low))

-- the bits of a word from place r to place m, as bits of the number
pub part : (n i m r : ℕ) → r ≤ m → m ≤ 64 → word_at n i % 2 ^ m / 2 ^ r ≡ n / 2 ^ (64 * i + r) % 2 ^ (m - r)
unfolding word_at
part n i m r p q =
    let y : ℕ = n / 2 ^ (64 * i) in
    let word : 64 ≡ 64 - m + m = omega arith in
    let whole : m ≡ m - r + r = omega arith in
    ap (λ (k : ℕ). y % 2 ^ k % 2 ^ m / 2 ^ r) word
    ∙ ap (λ (u : ℕ). u / 2 ^ r) (mod-mod-pow y (64 - m) m)
    ∙ ap (λ (k : ℕ). y % 2 ^ k / 2 ^ r) whole
    ∙ field y (m - r) r
    ∙ ap (λ (u : ℕ). u % 2 ^ (m - r)) (shr-shr n (64 * i) r)

-- bounds of the counts
pub ones-span-le : (h at low : ℕ) → low ≤ at → ones (h % 2 ^ at / 2 ^ low) ≤ at - low
ones-span-le h at low p =
    let whole : at ≡ at - low + low = omega arith in
    ones-le (at - low) (h % 2 ^ at / 2 ^ low) (shr_lt (at - low) low (subst (λ (n : ℕ). h % 2 ^ at < 2 ^ n) whole (mod-lt h (pow_pos at))))

pub ones-word-le : (x r : ℕ) → x < 2 ^ 64 → ones (x / 2 ^ r) ≤ 64
ones-word-le x r p = ones-le 64 (x / 2 ^ r) (lt_of_le_of_lt (shr_le x r) p)

pub ones_none : (h low : ℕ) → 0 ≡ ones (h % 2 ^ low / 2 ^ low)
unfolding ones
ones_none h low = ap ones (sym (div-eq_of_lt (mod-lt h (pow_pos low))))

-- the same of a list of words
module _ (h : List ℕ) (s : Small h) where
  pub first-up : (d : ℕ) → (get_or h 0 0 * 2 ^ (d % 64)) % 2 ^ 64 ≡ word_at (value h * 2 ^ d) (d / 64)
  first-up d = ap (λ (x : ℕ). (x * 2 ^ (d % 64)) % 2 ^ 64) (sym (word_of h s 0)) ∙ sym (up_first (value h) d)

  pub next_up : (d i : ℕ) → d / 64 < i
      → (get_or h (i - d / 64) 0 * 2 ^ (d % 64)) % 2 ^ 64 + get_or h (i - d / 64 - 1) 0 / 2 ^ (64 - d % 64) ≡ word_at (value h * 2 ^ d) i
  next_up d i p =
      ap₂ (λ (x y : ℕ). (x * 2 ^ (d % 64)) % 2 ^ 64 + y / 2 ^ (64 - d % 64)) (sym (word_of h s (i - d / 64))) (sym (word_of h s (i - d / 64 - 1)))
      ∙ sym (up_next (value h) d i p)

-- zeros, and one word among them
pub zeros-at : (n k : ℕ) → ◌≡◌ {A = ℕ} (get_or (replicate n 0) k 0) 0
zeros-at zero k = refl
zeros-at (suc n) zero = refl
zeros-at (suc n) (suc k) = zeros-at n k

-- words up to the one of place w - 1, zeros above, and that one cut: the words of the number cut at w. For any number n of words
module _ (out : List ℕ) (x w n : ℕ) (long : length out ≡ n) (one : 1 ≤ w) (fits : w ≤ 64 * n)
    (below : (k : ℕ) → k < (w - 1) / 64 + 1 → get_or out k 0 ≡ word_at x k) (above : (k : ℕ) → (w - 1) / 64 + 1 ≤ k → get_or out k 0 ≡ 0) where
  pub cut-words : set out ((w - 1) / 64) (get_or out ((w - 1) / 64) 0 % 2 ^ (64 - (63 - (w - 1) % 64))) ≡ words_of n (x % 2 ^ w)
  cut-words =
      ext_get_or 0 (set out top new) (words_of n (x % 2 ^ w)) (length-set out top new ∙ long ∙ sym (words-length n (x % 2 ^ w)))
      (λ k p. let q : k < n = subst (λ (m : ℕ). k < m) (length-set out top new ∙ long) p in
      each k q (ℕ_discrete k top) (dec_lt k top) ∙ sym (words-at n (x % 2 ^ w) k q))
    where
      top : ℕ
      top = (w - 1) / 64

      new : ℕ
      new = get_or out ((w - 1) / 64) 0 % 2 ^ (64 - (63 - (w - 1) % 64))

      each : (k : ℕ) → k < n → Dec (k ≡ (w - 1) / 64) → Dec (k < (w - 1) / 64) → get_or (set out top new) k 0 ≡ word_at (x % 2 ^ w) k
      each k q (yes e) _ =
          let m : 64 - (63 - (w - 1) % 64) ≡ w - 64 * ((w - 1) / 64) = omega arith in
          let here : (w - 1) / 64 < length out = omega arith in
          ap (λ (j : ℕ). get_or (set out top new) j 0) e
          ∙ get_or-set_same out ((w - 1) / 64) new 0 here
          ∙ ap₂ (λ (u j : ℕ). u % 2 ^ j) (below ((w - 1) / 64) (omega arith)) m
          ∙ sym (cut_at x w ((w - 1) / 64) (omega arith) (omega arith))
          ∙ ap (word_at (x % 2 ^ w)) (sym e)
      each k q (no e) (yes l) =
          get_or-set_other out ((w - 1) / 64) k new 0 e ∙ below k (omega arith) ∙ sym (cut_below x w k (omega arith))
      each k q (no e) (no l) =
          get_or-set_other out ((w - 1) / 64) k new 0 e ∙ above k (omega arith) ∙ sym (cut-above x w k (omega arith))
