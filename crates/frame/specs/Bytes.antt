-- Bytes as lists of numbers, and an output buffer that is written from its start. Assumes nothing.
use Rattle.std.specs.Prelude.{ℕ, ◌+◌, ◌*◌, ◌<◌, List, ◌++◌, length, get_or, drop}

-- the two bytes at a place, high byte first (a byte behind the end counts as 0)
abbrev pub word : List ℕ → ℕ → ℕ
word f i = get_or f i 0 * 256 + get_or f (i + 1) 0

-- `old` with `new` at its start: what stands behind `new` keeps its value
unfoldable pub overlay : (new old : List ℕ) → List ℕ
overlay new old = new ++ drop (length new) old

-- every element is a byte
abbrev pub Bytes : List ℕ → Type 0
Bytes f = (i : ℕ) → get_or f i 0 < 256
