-- The two calls of `prp`, by their names, as `Code` of `demands` and of `both_sides` have the others; and, as in
-- `Exports`, a line leaves nothing open. Assumes nothing.
use Rattle.std.specs.Prelude.{ℕ, ◌≡◌, List}
use seplogic.Ra.Ura.{Ura}
use prog.Model.{Model}
use types.Logic.{Logic}
use contract.Running.{Running}
use Rattle.prp.specs.Prp.{trailer_of, from_prp, to_prp, said_turned}
use Rattle.prp.specs.contracts.from_prp.{ended as from_ended}
use Rattle.prp.proofs.from_prp.Symbol.{name as from_name, code as from_code}
use Rattle.prp.specs.contracts.to_prp.{ended as to_ended}
use Rattle.prp.proofs.to_prp.Symbol.{name as to_name, code as to_code}
use Rattle.shipped.specs.Ships.{Ships}

module _ {M : Type 1} {𝓤 : Ura M} (𝓛 : Logic 𝓤) (𝓜 : Model 𝓤 𝓛.H) (𝓡 : Running 𝓤 𝓛.H 𝓜) where
  -- A primed name is what stands there afterwards.
  pub record PrpCalls : Type 1 where
    pub from-prp : Ships 𝓛 𝓜 𝓡 from_ended from_name from_code (λ κs (frame, (kind, (out, _))) r (_, (_, (out', _))).
        record { said = said_turned r; bytes = out'.now } ≡ from_prp (trailer_of kind) frame.now out.now)
        {X = List ℕ} (λ κs (_, (_, (out', _))). out'.now)
    pub to-prp : Ships 𝓛 𝓜 𝓡 to_ended to_name to_code (λ κs (frame, (network, (kind, (out, _)))) r (_, (_, (_, (out', _)))).
        record { said = said_turned r; bytes = out'.now } ≡ to_prp (trailer_of kind) network frame.now out.now)
        {X = List ℕ} (λ κs (_, (_, (_, (out', _)))). out'.now)

-- In every model of the kit's logic.
abbrev pub PrpMeets : Type 2
PrpMeets =
    (M : Type 1) (𝓤 : Ura M) (𝓛 : Logic 𝓤) (𝓜 : Model 𝓤 𝓛.H) (𝓡 : Running 𝓤 𝓛.H 𝓜)
    → PrpCalls 𝓛 𝓜 𝓡
