-- What ties the sending side of the statements to the code: each of its public calls, by its name, meets order 6's definition.
-- Assumes nothing. The words of the logic are the kit's, as in `Code` of `demands`.
use Rattle.std.specs.Prelude.{◌≡◌}
use seplogic.Ra.Ura.{Ura}
use prog.Model.{Model}
use types.Logic.{Logic}
use contract.Running.{Running}
use Rattle.demands.specs.Code.{Ensures}
use Rattle.sender.specs.Sender.{sender_at_first, reset_of, send_of, comes_to}
use Rattle.sender.specs.contracts.at_first.{ended as first_ended}
use Rattle.sender.proofs.at_first.Symbol.{name as first_name, code as first_code}
use Rattle.sender.specs.contracts.reset.{ended as reset_ended}
use Rattle.sender.proofs.reset.Symbol.{name as reset_name, code as reset_code}
use Rattle.sender.specs.contracts.send.{ended as send_ended}
use Rattle.sender.proofs.send.Symbol.{name as send_name, code as send_code}

module _ {M : Type 1} {𝓤 : Ura M} (𝓛 : Logic 𝓤) (𝓜 : Model 𝓤 𝓛.H) (𝓡 : Running 𝓤 𝓛.H 𝓜) where
  -- A primed name is what stands there afterwards.
  pub record SenderCalls : Type 1 where
    pub at_first : Ensures 𝓛 𝓜 𝓡 first_ended first_name first_code (λ κs a r e. r ≡ sender_at_first)
    pub reset : Ensures 𝓛 𝓜 𝓡 reset_ended reset_name reset_code (λ κs (s, _) r e. r ≡ reset_of s)
    pub send : Ensures 𝓛 𝓜 𝓡 send_ended send_name send_code (λ κs (s, (frame, (out0, (out1, _)))) r (_, (_, (out0', (out1', _)))).
        comes_to r out0'.now out1'.now ≡ send_of s frame.now out0.now out1.now)

-- In every model of the kit's logic.
abbrev pub SenderMeets : Type 2
SenderMeets =
    (M : Type 1) (𝓤 : Ura M) (𝓛 : Logic 𝓤) (𝓜 : Model 𝓤 𝓛.H) (𝓡 : Running 𝓤 𝓛.H 𝓜)
    → SenderCalls 𝓛 𝓜 𝓡
