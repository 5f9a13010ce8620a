-- Document 01, "The stream record", with document 02, orders 4 and 5: the history, whose bit k stands for the number anchor - k.
-- This file alone knows how a history is held; every other file goes through these names. Assumes nothing.
use Rattle.std.specs.Prelude.{ℕ, zero, suc, ◌+◌, ◌-◌, ◌*◌, ◌/◌, ◌%◌, ◌^◌, Bool, true, false, not, ◌&&◌, List, [], ◌∷◌, ◌==◌, bit_or, nat_lt}
use Rattle.std.specs.Prelude.{if◌then◌else◌}

-- Words of 64 bits, the lowest first: the number that they hold, and the n words that hold a number.
unfoldable pub value : List ℕ → ℕ
value [] = 0
value (w ∷ ws) = w + 2 ^ 64 * value ws

unfoldable pub words_of : (n number : ℕ) → List ℕ
words_of zero v = []
words_of (suc n) v = v % 2 ^ 64 ∷ words_of n (v / 2 ^ 64)

-- "The history becomes eight words of 64 bits."
abbrev pub History : Type 0
History = List ℕ

abbrev pub holding : ℕ → History
holding v = words_of 8 v

-- bit k of the number n is set
unfoldable pub bit_of : (k n : ℕ) → Bool
bit_of k n = n / 2 ^ k % 2 == 1

-- 1 where the test holds
abbrev pub one : Bool → ℕ
one test = if test then 1 else 0

-- history zero: no bit is set
abbrev pub empty : History
empty = 0 ∷ 0 ∷ 0 ∷ 0 ∷ 0 ∷ 0 ∷ 0 ∷ 0 ∷ []

unfoldable pub same : History → History → Bool
same [] [] = true
same [] (w ∷ ws) = false
same (v ∷ vs) [] = false
same (v ∷ vs) (w ∷ ws) = v == w && same vs ws

unfoldable pub is_empty : History → Bool
is_empty history = same history empty

-- bit k is set
unfoldable pub bit : (k : ℕ) (history : History) → Bool
bit k history = bit_of k (value history)

-- no bit is set at L or above
unfoldable pub within : (window : ℕ) (history : History) → Bool
within window history = nat_lt (value history) (2 ^ window)

-- only bit 0
abbrev pub single : History
single = 1 ∷ 0 ∷ 0 ∷ 0 ∷ 0 ∷ 0 ∷ 0 ∷ 0 ∷ []

-- the history with bit k set
unfoldable pub set_bit : (k : ℕ) (history : History) → History
set_bit k history = if bit k history then history else holding (value history + 2 ^ k)

-- one place up; the bit at place L - 1 leaves
unfoldable pub push : (window : ℕ) (history : History) → History
push window history = holding (value history * 2 % 2 ^ window)

-- d places up, one place at a time
unfoldable pub pushes : (window d : ℕ) (history : History) → History
pushes window zero history = history
pushes window (suc d) history = pushes window d (push window history)

-- how many zero bits leave at place L - 1 on the way and count. Where n places are left for numbers older than the first one
-- handed up since the reset, these leave first, one with each place up, and do not count.
unfoldable pub leaving : (window d n : ℕ) (history : History) → ℕ
leaving window zero n history = 0
leaving window (suc d) n history =
    one (n == 0 && not (bit (window - 1) history)) + leaving window d (n - 1) (push window history)

-- d places up, and bit 0 set
unfoldable pub advance : (window d : ℕ) (history : History) → History
advance window d history = set_bit 0 (pushes window d history)

-- d places up, and bit k set: what the code does in one go
unfoldable pub marked : (window d k : ℕ) (history : History) → History
marked window d k history = set_bit k (pushes window d history)

-- the same in a window of at most a word, by the first word alone: the others stay
unfoldable pub marked_first : (window d k : ℕ) (history : History) → History
marked_first window d k history =
    holding (bit_or (value history * 2 ^ d % 2 ^ window) (2 ^ k) + 2 ^ 64 * (value history / 2 ^ 64))
