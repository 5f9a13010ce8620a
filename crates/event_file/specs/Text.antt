-- Document 01, "Event file and the program `events`": words and numbers as the bytes that are printed. Assumes nothing.
use Rattle.std.specs.Prelude.{ℕ, zero, suc, ◌+◌, ◌/◌, ◌%◌, List, [], ◌∷◌, ◌++◌, ltb}
use Prim.Native.Char.{code}
use Prim.Native.String.{String, [] as blank, ◌∷◌ as ◌then◌}
use Rattle.std.specs.Prelude.{if◌then◌else◌}

-- a word's letters
abbrev pub text : String → List ℕ
text blank = []
text (c then s) = code c ∷ text s

-- a digit
abbrev pub digit : ℕ → ℕ
digit n = code "0" + n % 10

-- a number's digits, with no zero in front; of a number with more digits than `places` the last ones
unfoldable pub digits_of : (places n : ℕ) → List ℕ
digits_of zero n = []
digits_of (suc places) n = (if ltb n 10 then [] else digits_of places (n / 10)) ++ (digit n ∷ [])

-- "numbers in decimal": a number n has no more than n + 1 digits
unfoldable pub decimal_of : ℕ → List ℕ
decimal_of n = digits_of (suc n) n
