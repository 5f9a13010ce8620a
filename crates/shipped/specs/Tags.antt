-- The two tag calls of `frame`, as `Code` of `demands` has them; and here a line leaves nothing open, so that what they give when they
-- do not refuse is held too. Assumes nothing.
use Rattle.std.specs.Prelude.{ℕ, ◌≡◌, List}
use seplogic.Ra.Ura.{Ura}
use prog.Model.{Model}
use types.Logic.{Logic}
use contract.Running.{Running}
use Rattle.frame.specs.TagCalls.{said_taken, said_written, take_tag, write_tag}
use Rattle.frame.specs.contracts.take_tag.{ended as take_ended}
use Rattle.frame.proofs.take_tag.Symbol.{name as take_name, code as take_code}
use Rattle.frame.specs.contracts.write_tag.{ended as write_ended}
use Rattle.frame.proofs.write_tag.Symbol.{name as write_name, code as write_code}
use Rattle.shipped.specs.Ships.{Ships}

module _ {M : Type 1} {𝓤 : Ura M} (𝓛 : Logic 𝓤) (𝓜 : Model 𝓤 𝓛.H) (𝓡 : Running 𝓤 𝓛.H 𝓜) where
  -- A primed name is what stands there afterwards.
  pub record TagLines : Type 1 where
    pub take : Ships 𝓛 𝓜 𝓡 take_ended take_name take_code (λ κs (frame, (out, _)) r (_, (out', _)).
        record { said = said_taken r; bytes = out'.now } ≡ take_tag frame.now out.now)
        {X = List ℕ} (λ κs (_, (out', _)). out'.now)
    pub write : Ships 𝓛 𝓜 𝓡 write_ended write_name write_code (λ κs (frame, (number, (out, _))) r (_, (_, (out', _))).
        record { said = said_written r; bytes = out'.now } ≡ write_tag frame.now number out.now)
        {X = List ℕ} (λ κs (_, (_, (out', _))). out'.now)

-- In every model of the kit's logic.
abbrev pub TagsMeet : Type 2
TagsMeet =
    (M : Type 1) (𝓤 : Ura M) (𝓛 : Logic 𝓤) (𝓜 : Model 𝓤 𝓛.H) (𝓡 : Running 𝓤 𝓛.H 𝓜)
    → TagLines 𝓛 𝓜 𝓡
