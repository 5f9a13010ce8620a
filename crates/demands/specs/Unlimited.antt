-- Demand 3's receiver with unlimited memory. "That receiver hands up the first arrival, and later exactly those whose
-- true index in the sender's count lies less than L from the highest handed up and was not handed up before." What it
-- remembers is the list of the indices that it has handed up. Assumes nothing.
use Rattle.std.specs.Prelude.{ℕ, ◌+◌, ◌-◌, max, Bool, true, false, ◌&&◌, ◌||◌, List, [], ◌∷◌, eqb, ltb, leb}
use Rattle.std.specs.Prelude.{if◌then◌else◌}
use Rattle.stream.specs.Decisions.{Verdict, up, duplicate, rogue, is_up}

-- x stands in the list
unfoldable pub elem : ℕ → List ℕ → Bool
elem x [] = false
elem x (y ∷ ys) = eqb x y || elem x ys

-- the highest of a list (0 of none, which is never asked for)
unfoldable pub highest : List ℕ → ℕ
highest [] = 0
highest (x ∷ xs) = max x (highest xs)

-- how far two indices lie from each other
unfoldable pub apart : ℕ → ℕ → ℕ
apart x y = (x - y) + (y - x)

-- Its verdict on an index, after those handed up. What lies within the window and was handed up before is a duplicate;
-- what lies outside is a rogue.
unfoldable pub judged : (window : ℕ) (handed : List ℕ) (index : ℕ) → Verdict
judged window [] x = up
judged window (h ∷ hs) x =
    if ltb (apart x (highest (h ∷ hs))) window then (if elem x (h ∷ hs) then duplicate else up)
    else rogue

-- What it has handed up then.
unfoldable pub remembered : (window : ℕ) (handed : List ℕ) (index : ℕ) → List ℕ
remembered window hs x = if is_up (judged window hs x) then x ∷ hs else hs

-- Its verdicts on arrivals of these indices, one after the other.
unfoldable pub unlimited : (window : ℕ) (handed indices : List ℕ) → List Verdict
unlimited window hs [] = []
unlimited window hs (x ∷ xs) = judged window hs x ∷ unlimited window (remembered window hs x) xs

-- "Each arrival after the first is at most 65536 - L from that highest index."
unfoldable pub near : (window : ℕ) (handed : List ℕ) (index : ℕ) → Bool
near window [] x = true
near window (h ∷ hs) x = leb (apart x (highest (h ∷ hs))) (65536 - window)

unfoldable pub all_near : (window : ℕ) (handed indices : List ℕ) → Bool
all_near window hs [] = true
all_near window hs (x ∷ xs) = near window hs x && all_near window (remembered window hs x) xs
