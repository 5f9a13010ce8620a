-- Words that the definitions of every crate use. Assumes nothing.
use Rattle.std.specs.Prelude.{ℕ, Bool, not, eqb}

-- A flag is a byte: 0 is no, every other value is yes.
unfoldable pub yes : ℕ → Bool
yes flag = not (eqb flag 0)
