-- The law on n words, and what the ways of the code take from it. Assumes nothing.
use Rattle.std.proofs.Common.{◌≡◌, ℕ, zero, suc, ◌+◌, ◌-◌, ◌*◌, ◌/◌, ◌%◌, ◌^◌, ◌<◌, ◌≤◌, List, ◌∷◌, get_or, sym, ap, ◌∙◌, subst, ap₂, add-zero, mod-eq_of_lt, zero-mul, div-one, arith, shr_lt, le-ltb, lt-ltb}
use native.Mathlib.Nat.{zero-div}
use native.Mathlib.Decide.{ℕ_discrete, dec_lt}
use lib.Count.{ones}
use lib.Pow.{field, mod-mod-pow}
use Rattle.stream.specs.History.{value, words_of}
use Rattle.stream.specs.AnyWords.{moved_word, OverWords, AnyWords}
use Rattle.stream.proofs.Moves.{set_in}
use Rattle.stream.proofs.Words.{Small, word_at, word_of, words-at, bit-same}
use Rattle.stream.proofs.Shifts.{up-below, first-up, next_up, cut_word, part, ones-more}

-- A word that was moved: below the place that word 0 comes to, there, and above.
pub moved-below : (h : List ℕ) (d i : ℕ) → i < d / 64 → moved_word h d i ≡ 0
unfolding moved_word
moved-below h d i p =
    rw (lt-ltb i (d / 64) p, lt-ltb i (suc (d / 64)) (omega arith)) (ap₂ (λ (x y : ℕ). x % 2 ^ 64 + y) (zero-mul (2 ^ (d % 64))) (zero-div (2 ^ (64 - d % 64))))

pub moved-first : (h : List ℕ) (d : ℕ) → moved_word h d (d / 64) ≡ (get_or h 0 0 * 2 ^ (d % 64)) % 2 ^ 64
unfolding moved_word
moved-first h d =
    let q : ℕ = d / 64 in
    let none : q - q ≡ 0 = omega arith in
    rw (le-ltb q q (omega arith), lt-ltb q (suc q) (omega arith), none, zero-div (2 ^ (64 - d % 64))) (add-zero ((get_or h 0 0 * 2 ^ (d % 64)) % 2 ^ 64))

pub moved-next : (h : List ℕ) (d i : ℕ) → d / 64 < i
    → moved_word h d i ≡ (get_or h (i - d / 64) 0 * 2 ^ (d % 64)) % 2 ^ 64 + get_or h (i - d / 64 - 1) 0 / 2 ^ (64 - d % 64)
unfolding moved_word
moved-next h d i p =
    let q : ℕ = d / 64 in
    let less : i - suc q ≡ i - q - 1 = omega arith in
    rw (le-ltb i q (omega arith), le-ltb i (suc q) (omega arith), less)

shift : (n : ℕ) (h : List ℕ) → Small h → (d i : ℕ) → i < n → get_or (words_of n (value h * 2 ^ d)) i 0 ≡ moved_word h d i
shift n h s d i p = words-at n (value h * 2 ^ d) i p ∙ go (dec_lt i (d / 64)) (ℕ_discrete i (d / 64))
  where
    go : Dec (i < d / 64) → Dec (i ≡ d / 64) → word_at (value h * 2 ^ d) i ≡ moved_word h d i
    go (yes l) _ = up-below (value h) d i l ∙ sym (moved-below h d i l)
    go (no l) (yes e) = rw e (sym (first-up h s d) ∙ sym (moved-first h d))
    go (no l) (no e) = let more : d / 64 < i = omega arith in sym (next_up h s d i more) ∙ sym (moved-next h d i more)

pub any-words : AnyWords
any-words n h w = record {
  test = bit-same h w.each;
  shift = shift n h w.each;
  cut = λ e i p. words-at n (value h % 2 ^ e) i p ∙ cut_word (value h) e i ∙ ap (λ (x : ℕ). x % 2 ^ (e - 64 * i)) (word_of h w.each i);
  count = λ i r m p.
      let word : m + r ≡ r + m = omega arith in
      let left : r + m - r ≡ m = omega arith in
      ap ones (sym (field (get_or h i 0) m r) ∙ ap (λ (k : ℕ). get_or h i 0 % 2 ^ k / 2 ^ r) word ∙ ap (λ (x : ℕ). x % 2 ^ (r + m) / 2 ^ r) (sym (word_of h w.each i))
      ∙ part (value h) i (r + m) r (omega arith) p ∙ ap (λ (k : ℕ). value h / 2 ^ (64 * i + r) % 2 ^ k) left);
}

-- n words, taken from a law on them
module _ {n : ℕ} (h : List ℕ) (o : OverWords n h) where
  -- b places up, for b below 64
  pub bits_up : (b : ℕ) → b < 64 → (i : ℕ) → i < n
      → get_or (words_of n (value h * 2 ^ b)) i 0 ≡ (get_or h i 0 * 2 ^ b) % 2 ^ 64 + get_or (0 ∷ h) i 0 / 2 ^ (64 - b)
  bits_up b p zero q =
      let none : b / 64 ≡ 0 = omega arith in
      let all : b % 64 ≡ b = omega arith in
      let x : ℕ = (get_or h 0 0 * 2 ^ b) % 2 ^ 64 in
      o.shift b 0 q ∙ ap (moved_word h b) (sym none) ∙ moved-first h b ∙ ap (λ (m : ℕ). (get_or h 0 0 * 2 ^ m) % 2 ^ 64) all
      ∙ sym (ap (λ (y : ℕ). x + y) (zero-div (2 ^ (64 - b))) ∙ add-zero x)
  bits_up b p (suc j) q =
      let all : b % 64 ≡ b = omega arith in
      let here : suc j - b / 64 ≡ suc j = omega arith in
      let under : suc j - b / 64 - 1 ≡ j = omega arith in
      o.shift b (suc j) q ∙ moved-next h b (suc j) (omega arith)
      ∙ ap₂ (λ (u v : ℕ). (get_or h u 0 * 2 ^ (b % 64)) % 2 ^ 64 + get_or h v 0 / 2 ^ (64 - b % 64)) here under
      ∙ ap (λ (m : ℕ). (get_or h (suc j) 0 * 2 ^ m) % 2 ^ 64 + get_or h j 0 / 2 ^ (64 - m)) all

  -- the first word alone tells what is cut at most at its end
  pub first_alone : 0 < n → (w d : ℕ) → w ≤ 64 → d < 64 → (get_or h 0 0 * 2 ^ d) % 2 ^ w ≡ (value h * 2 ^ d) % 2 ^ w
  unfolding word_at
  first_alone some w d p q =
      let whole : 64 ≡ 64 - w + w = omega arith in
      let none : d / 64 ≡ 0 = omega arith in
      let all : d ≡ d % 64 = omega arith in
      let x : ℕ = value h * 2 ^ d in
      let cut : (y : ℕ) → y % 2 ^ 64 % 2 ^ w ≡ y % 2 ^ w = λ y. ap (λ (k : ℕ). y % 2 ^ k % 2 ^ w) whole ∙ mod-mod-pow y (64 - w) w in
      let word : (get_or h 0 0 * 2 ^ d) % 2 ^ 64 ≡ x % 2 ^ 64 =
      ap (λ (k : ℕ). (get_or h 0 0 * 2 ^ k) % 2 ^ 64) all ∙ sym (moved-first h d) ∙ ap (moved_word h d) none
      ∙ sym (o.shift d 0 some) ∙ words-at n x 0 some ∙ ap (λ (y : ℕ). y % 2 ^ 64) (div-one x) in
      sym (cut (get_or h 0 0 * 2 ^ d)) ∙ ap (λ (y : ℕ). y % 2 ^ w) word ∙ cut x

  -- the set bits among the d places below place w, in the first word
  pub count-first : (w d : ℕ) → d ≤ w → w ≤ 64 → ones (get_or h 0 0 / 2 ^ (w - d) % 2 ^ d) ≡ set_in w d (value h)
  count-first w d p q =
      let place : 64 * 0 + (w - d) ≡ w - d = omega arith in
      o.count 0 (w - d) d (omega arith) ∙ ap (λ (k : ℕ). ones (value h / 2 ^ k % 2 ^ d)) place

  -- the count goes over the rest of word i, from its place r on
  pub count_word : Small h → (i r low : ℕ) → r < 64 → low ≤ 64 * i + r
      → ones (value h % 2 ^ (64 * i + r) / 2 ^ low) + ones (get_or h i 0 / 2 ^ r) ≡ ones (value h % 2 ^ (64 * (i + 1) + 0) / 2 ^ low)
  count_word s i r low q p =
      let word : 64 ≡ 64 - r + r = omega arith in
      let next : 64 * (i + 1) + 0 ≡ 64 * i + r + (64 - r) = omega arith in
      let short : get_or h i 0 / 2 ^ r < 2 ^ (64 - r) = shr_lt (64 - r) r (subst (λ (k : ℕ). get_or h i 0 < 2 ^ k) word (s i)) in
      let rest : ones (get_or h i 0 / 2 ^ r) ≡ ones (value h / 2 ^ (64 * i + r) % 2 ^ (64 - r)) =
      ap ones (sym (mod-eq_of_lt short)) ∙ o.count i r (64 - r) (omega arith) in
      ap (λ (m : ℕ). ones (value h % 2 ^ (64 * i + r) / 2 ^ low) + m) rest
      ∙ sym (ap (λ (k : ℕ). ones (value h % 2 ^ k / 2 ^ low)) next ∙ ones-more (value h) (64 * i + r) (64 - r) low p)

  -- and ends in the word that holds place w - 1
  pub count-last : (at w d : ℕ) → d ≤ w → w - d ≤ at → at < w → at / 64 ≡ (w - 1) / 64
      → ones (value h % 2 ^ at / 2 ^ (w - d)) + ones (get_or h ((w - 1) / 64) 0 % 2 ^ (64 - (63 - (w - 1) % 64)) / 2 ^ (at % 64)) ≡ set_in w d (value h)
  count-last at w d a p q e =
      let r : ℕ = at % 64 in
      let i : ℕ = (w - 1) / 64 in
      let low : ℕ = w - d in
      let inside : 64 - (63 - (w - 1) % 64) ≡ w - at + r = omega arith in
      let here : 64 * i + r ≡ at = omega arith in
      let all : at + (w - at) ≡ d + low = omega arith in
      let rest : ones (get_or h i 0 % 2 ^ (64 - (63 - (w - 1) % 64)) / 2 ^ r) ≡ ones (value h / 2 ^ at % 2 ^ (w - at)) =
      ap (λ (k : ℕ). ones (get_or h i 0 % 2 ^ k / 2 ^ r)) inside ∙ ap ones (field (get_or h i 0) (w - at) r)
      ∙ o.count i r (w - at) (omega arith) ∙ ap (λ (k : ℕ). ones (value h / 2 ^ k % 2 ^ (w - at))) here in
      ap (λ (m : ℕ). ones (value h % 2 ^ at / 2 ^ low) + m) rest
      ∙ sym (ones-more (value h) at (w - at) low p)
      ∙ ap (λ (k : ℕ). ones (value h % 2 ^ k / 2 ^ low)) all
      ∙ ap ones (field (value h) d low)
