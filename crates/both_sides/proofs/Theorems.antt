-- The list of theorems. Assumes nothing.
use mathlib.Core.Path.{sym, ap, ◌∙◌}
use Rattle.demands.specs.Receiver.{Receiver, MeetsContract}
use Rattle.demands.specs.Steps.{Machine, MeetsAll}
use Rattle.demands.proofs.Told.{arrivals-recovered}
use Rattle.demands.proofs.Theorems as demands
use Rattle.sender.specs.Runs.{Side, MeetsSide}
use Rattle.sender.proofs.Laws.{send-refused-exactly, refused-keeps}
use Rattle.sender.proofs.Numbers.{the-side-meets, sides-number}
use Rattle.sender.proofs.Programs.{send-runs-coincide, sent-is-read}
use Rattle.sender.proofs.Computed.{ruled_out}
use Rattle.both_sides.specs.Demand1Sent.{Demand1Sent}
use Rattle.both_sides.specs.Demand3Sent.{PremisesMet, Demand3Sent, NeverTwiceSent, Demand3StepsSent}
use Rattle.both_sides.specs.Theorems.{Theorems}
use Rattle.both_sides.proofs.Coded.{sender-meets}
use Rattle.both_sides.proofs.Heard.{sent-are-numbered, sent-at-first-are-numbered}
use Rattle.both_sides.proofs.Runs.{wrap-sent, premises-sent-needed}

demand-1-sent : {side : Side} → MeetsSide side → Demand1Sent side
demand-1-sent m = record {
  number = λ s f out0 out1 n. rw (m.send s f out0 out1) (send-refused-exactly s f out0 out1 n);
  keeps = λ s f out0 out1 n e. m.send s f out0 out1 ∙ refused-keeps s f out0 out1 n (ap (λ r. r.said) (sym (m.send s f out0 out1)) ∙ e);
}

module _ {receive : Receiver} (k : MeetsContract receive) {side : Side} (m : MeetsSide side) where
  premises-met : PremisesMet receive side
  premises-met s calls t i gap later indices h = record {
    vector = h.vector;
    silent = h.silent;
    lasts = h.lasts;
    numbered = sent-are-numbered receive (arrivals-recovered k) side m s calls _ i later indices h.from-sender;
    near = h.near;
  }

  demand-3-sent : Demand3Sent receive side
  demand-3-sent s calls t i gap later indices h = (demands.demands k).demand-3 t i gap later _ (premises-met s calls t i gap later indices h)

  never-twice-sent : NeverTwiceSent receive side
  never-twice-sent s calls t i gap later indices h = (demands.demands k).never-twice t i gap later _ (premises-met s calls t i gap later indices h)

demand-3-steps-sent : {m : Machine} → MeetsAll m → {side : Side} → MeetsSide side → Demand3StepsSent m side
demand-3-steps-sent k n s calls t i gap later indices h =
    (demands.step-demands k).demand-3-steps t i gap later _ (premises-met k.receive n s calls t i _ _ indices h)

pub theorems : Theorems
theorems = record {
  sides-number = sides-number;
  demand-1-sent = λ side m. demand-1-sent m;
  ruled_out = ruled_out;
  both = λ receive k side m. record {
    sent-are-numbered = sent-are-numbered receive (arrivals-recovered k) side m;
    sent-at-first-are-numbered = sent-at-first-are-numbered receive (arrivals-recovered k) side m;
    premises-met = premises-met k m;
    demand-3-sent = demand-3-sent k m;
    never-twice-sent = never-twice-sent k m;
  };
  steps = λ m k side n. demand-3-steps-sent k n;
  met = the-side-meets;
  sender-meets = sender-meets;
  send-runs-coincide = send-runs-coincide;
  sent-is-read = sent-is-read;
  wrap-sent = wrap-sent;
  premises-sent-needed = premises-sent-needed;
}
