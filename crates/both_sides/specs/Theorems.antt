-- What is proved of runs of the sending side, alone and together with the receiver, as one list. (Laws of one send: `Laws` of
-- `sender`.) Assumes nothing.
use Rattle.demands.specs.Receiver.{Receiver, MeetsContract}
use Rattle.demands.specs.Steps.{Machine, MeetsAll}
use Rattle.sender.specs.Runs.{Side, MeetsSide, the_side, SendRunsCoincide, SentIsRead, SidesNumber}
use Rattle.sender.specs.Wrong.{RuledOut}
use Rattle.both_sides.specs.Code.{SenderMeets}
use Rattle.both_sides.specs.Demand1Sent.{Demand1Sent}
use Rattle.both_sides.specs.Copies.{SentAreNumbered, SentAtFirstAreNumbered}
use Rattle.both_sides.specs.Demand3Sent.{PremisesMet, Demand3Sent, NeverTwiceSent, Demand3StepsSent}
use Rattle.both_sides.specs.Examples.{WrapSent, PremisesSentNeeded}

-- Of a receiver and a sending side.
pub record Both (receive : Receiver) (side : Side) : Type 0 where
  pub sent-are-numbered : SentAreNumbered receive side
  pub sent-at-first-are-numbered : SentAtFirstAreNumbered receive side
  pub premises-met : PremisesMet receive side
  pub demand-3-sent : Demand3Sent receive side
  pub never-twice-sent : NeverTwiceSent receive side

pub record Theorems : Type 2 where
  -- Of every sending side that meets the order: frames sent without a reset carry their index modulo 65536, and what is refused
  -- changes nothing.
  pub sides-number : SidesNumber
  pub demand-1-sent : (side : Side) → MeetsSide side → Demand1Sent side
  -- Senders that look right fail.
  pub ruled_out : RuledOut
  -- Of every receiver that meets the contract and every sending side that meets the order.
  pub both : (receive : Receiver) → MeetsContract receive → (side : Side) → MeetsSide side → Both receive side
  -- The same of a receiver with the batch beside it.
  pub steps : (m : Machine) → MeetsAll m → (side : Side) → MeetsSide side → Demand3StepsSent m side
  -- There is a sending side that meets the order, the code of the sender meets it, and what its calls ensure in a run is that one's.
  pub met : MeetsSide the_side
  pub sender-meets : SenderMeets
  pub send-runs-coincide : SendRunsCoincide
  pub sent-is-read : (side : Side) → SentIsRead side
  -- The premises can be met, by a run over the wrap, and each that is new is needed.
  pub wrap-sent : WrapSent
  pub premises-sent-needed : PremisesSentNeeded
