-- Document 02, order 5: "The shift by d and the test of one bit are proved once over the number of words." The law on n words of 64
-- bits that each way of the code cites, with the count of set bits beside it. Assumes nothing.
use Rattle.std.specs.Prelude.{◌≡◌, ℕ, suc, ◌+◌, ◌-◌, ◌*◌, ◌/◌, ◌%◌, ◌^◌, ◌<◌, ◌≤◌, List, length, count_ones, nat_lt, slice_index}
use Rattle.std.specs.Prelude.{if◌then◌else◌}
use Rattle.stream.specs.History.{value, words_of, bit_of}

-- the word q places below word i, and 0 below the first
abbrev pub word_below : (words : List ℕ) (i q : ℕ) → ℕ
word_below h i q = if nat_lt i q then 0 else slice_index h (i - q)

-- Word i after d places up: d / 64 whole words, and d % 64 bits across two words.
unfoldable pub moved_word : (words : List ℕ) (d i : ℕ) → ℕ
moved_word h d i = (word_below h i (d / 64) * 2 ^ (d % 64)) % 2 ^ 64 + word_below h i (suc (d / 64)) / 2 ^ (64 - d % 64)

pub record Words (n : ℕ) (h : List ℕ) : Type 0 where
  pub many : length h ≡ n
  pub each : (i : ℕ) → slice_index h i < 2 ^ 64

-- What is said of the number that n words hold can be done word by word.
pub record OverWords (n : ℕ) (h : List ℕ) : Type 0 where
  -- "the test of one bit": bit k stands in word k / 64, at place k % 64;
  pub test : (k : ℕ) → bit_of (k % 64) (slice_index h (k / 64)) ≡ bit_of k (value h)
  -- "the shift by d", and its cut at place w;
  pub shift : (d i : ℕ) → i < n → slice_index (words_of n (value h * 2 ^ d)) i ≡ moved_word h d i
  pub cut : (w i : ℕ) → i < n → slice_index (words_of n (value h % 2 ^ w)) i ≡ slice_index h i % 2 ^ (w - 64 * i)
  -- and the count: of the m places of word i from place r on as many are set as of the number's from place 64 i + r on.
  pub count : (i r m : ℕ) → r + m ≤ 64 → count_ones (slice_index h i / 2 ^ r % 2 ^ m) ≡ count_ones (value h / 2 ^ (64 * i + r) % 2 ^ m)

abbrev pub AnyWords : Type 0
AnyWords = (n : ℕ) (h : List ℕ) → Words n h → OverWords n h
