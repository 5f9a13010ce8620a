-- How a line of a list of contracts holds its call: the code ensures the promise, and the promise leaves nothing open. So a line that
-- says less of the answer, or of what was lent, is refused. Assumes nothing.
use Rattle.std.specs.Prelude.{◌≡◌}
use seplogic.Ra.Ura.{Ura}
use prog.Model.{Model}
use mir.Syntax.{Callee}
use prog.Wired.{Code}
use types.Logic.{Logic}
use contract.Lifetimes.{Lfts}
use contract.Running.{Running}
use denote.Triple.Clauses.{Ended, AtExit}
use denote.Triple.Entry.{Args, Res}
use Rattle.demands.specs.Code.{Promise, Ensures}

-- A promise leaves nothing open: of two outcomes with the same arguments the answers are the same, and so is what they left in all that
-- was lent to be changed.
abbrev pub Determines : (T : Ended) → Promise T → {X : Type 0} → (left : (κs : Lfts T.signature.lifetimes) → AtExit T κs → X) → Type 0
Determines T P left =
    (κs : Lfts T.signature.lifetimes) (a : Args T.signature κs) (r s : Res T.signature κs) (e f : AtExit T κs)
    → P κs a r e → P κs a s f → (r ≡ s) × (left κs e ≡ left κs f)

module _ {M : Type 1} {𝓤 : Ura M} (𝓛 : Logic 𝓤) (𝓜 : Model 𝓤 𝓛.H) (𝓡 : Running 𝓤 𝓛.H 𝓜) where
  pub record Ships (T : Ended) (name : Callee) (code : Code) (P : Promise T) {X : Type 0} (left : (κs : Lfts T.signature.lifetimes) → AtExit T κs → X) : Type 1 where
    pub ensures : Ensures 𝓛 𝓜 𝓡 T name code P
    pub determines : Determines T P left
