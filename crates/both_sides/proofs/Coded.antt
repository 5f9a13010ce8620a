-- The code of the sending side. Assumes nothing.
use Rattle.sender.proofs.at_first.Met as at_first
use Rattle.sender.proofs.reset.Met as reset
use Rattle.sender.proofs.send.Met as send
use Rattle.both_sides.specs.Code.{SenderMeets}

pub sender-meets : SenderMeets
sender-meets M 𝓤 𝓛 𝓜 𝓡 = record {
  at_first = at_first.met 𝓤 𝓛 𝓜 𝓡;
  reset = reset.met 𝓤 𝓛 𝓜 𝓡;
  send = send.met 𝓤 𝓛 𝓜 𝓡;
}
