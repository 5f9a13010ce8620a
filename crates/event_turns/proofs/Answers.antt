-- How a run stands after a turn. Assumes nothing.
use mathlib.Core.Path.{◌≡◌, refl}
use Prim.Native.Nat.{ℕ, zero, suc}
use mathlib.Core.Bool.{Bool, true, false}
use Rattle.std.specs.Prelude.{Result, Ok, Err, Option, Some, None}
use Rattle.std.specs.declared.io.Error.{Error}
use lib.Dec.{ltb}
use Rattle.std.specs.Prelude.{if◌then◌else◌}
use Rattle.event_file.specs.declared.reader.Body.{Body}
use Rattle.event_run.specs.Run.{last_number}
use Rattle.event_turns.specs.declared.Stand.TheVariants.{Going, Ended, Used}
use Rattle.event_turns.specs.Turns.{bytes_in, is_whole, after_whole, after_read}

pub none-whole : (r : Option Body) → false ≡ is_whole r → None ≡ r
none-whole (Some b) e = cc
none-whole None e = refl

-- only a read ends a run
never-ended : (b : Bool) → (if b then Going else Used) ≡ Ended → ⊥
never-ended true e = cc
never-ended false e = cc

pub whole-goes : (number : ℕ) → after_whole number ≡ Ended → ⊥
whole-goes number e = never-ended (ltb number last_number) e

pub none_read : (got : Result ℕ Error) → after_read got ≡ Ended → bytes_in got ≡ 0
none_read (Ok zero) e = refl
none_read (Ok (suc n)) e = cc
none_read (Err f) e = refl
