-- Document 01, "Event file and the program `events`": lines are written into a buffer, one behind the other. What a writer
-- does to it. Assumes nothing.
use Rattle.std.specs.Prelude.{ℕ, ◌+◌, ◌≤◌, ◌≡◌, List, ◌++◌, length, take, drop, leb}
use Rattle.std.specs.Prelude.{if◌then◌else◌}

-- bytes written over a list from a place on
unfoldable pub written : (at : ℕ) (new old : List ℕ) → List ℕ
written at new old = take at old ++ (new ++ drop (at + length new) old)

-- A writer puts these bytes at a place, within the buffer, and answers the place behind them.
pub record Put (new : List ℕ) (at : ℕ) (old now : List ℕ) (next : ℕ) : Type 0 where
  pub room : at + length new ≤ length old
  pub same : now ≡ written at new old
  pub place : next ≡ at + length new

-- The same for every place and buffer: where there is no room for `most` bytes it writes nothing, and answers the place.
-- `most` bytes are enough for what it writes.
pub record Writes (most : ℕ) (new : List ℕ) (at : ℕ) (old now : List ℕ) (next : ℕ) : Type 0 where
  pub same : now ≡ (if leb (at + most) (length old) then written at new old else old)
  pub place : next ≡ (if leb (at + most) (length old) then at + length new else at)
  pub enough : at + most ≤ length old → at + length new ≤ length old

-- no line takes more bytes than this, and the last line takes so many
abbrev pub line_most : ℕ
line_most = 92

abbrev pub last_most : ℕ
last_most = 4
