-- What is proved from bytes to bytes, as one list. Assumes nothing.
use Rattle.demands.specs.Receiver.{Receiver, MeetsContract}
use Rattle.demands.specs.Steps.{Machine, MeetsAll}
use Rattle.sender.specs.Runs.{Side, MeetsSide}
use Rattle.end_to_end.specs.Bytes.{BytesToBytes, BytesToBytesRestarted, CopiesAreHeard}
use Rattle.end_to_end.specs.Runs.{BothMeet, RestartMeets, TrafficMeets, EndApplied, BetweenNeeded, HeardNeeded}
use Rattle.end_to_end.specs.Batches.{GotAsCalls, LengthsStand, BytesToBytesSteps, BytesToBytesRestartedSteps}
use Rattle.end_to_end.specs.BatchRuns.{BatchGot, StepsMeet, StepsApplied}
use Rattle.end_to_end.specs.Code.{RansCoincide, CodeToCode}
use Rattle.end_to_end.specs.PrpLines.{SentOverPrp, SentOverPrpCalls, PrpRun}

-- Of every receiver that meets the contract and every sending side that meets order 6.
pub record EndToEnd (receive : Receiver) (side : Side) : Type 0 where
  pub bytes-to-bytes : BytesToBytes receive side
  pub bytes-to-bytes-restarted : BytesToBytesRestarted receive side
  pub copies-are-heard : CopiesAreHeard receive side

pub record Theorems : Type 2 where
  -- Of the code of both ends, by the names of its calls: what two programs get from it is what the definitions give, and it is bytes to bytes.
  pub rans-coincide : RansCoincide
  pub code-to-code : CodeToCode
  pub both : (receive : Receiver) → MeetsContract receive → (side : Side) → MeetsSide side → EndToEnd receive side
  -- The premises can be met, by a run over the wrap, by a sender that restarts and in the middle of traffic, and they are needed.
  pub both_meet : BothMeet
  pub restart-meets : RestartMeets
  pub traffic-meets : TrafficMeets
  pub between-needed : BetweenNeeded
  pub heard-needed : HeardNeeded
  -- What the first two statements give of these runs.
  pub end-applied : (receive : Receiver) → MeetsContract receive → (side : Side) → MeetsSide side → EndApplied receive side
  -- The same of a receiver with the batch beside it.
  pub got-as-calls : (m : Machine) → MeetsAll m → GotAsCalls m
  pub lengths-stand : (m : Machine) → MeetsAll m → LengthsStand m
  pub steps : (m : Machine) → MeetsAll m → (side : Side) → MeetsSide side → BytesToBytesSteps m side
  pub steps-restarted : (m : Machine) → MeetsAll m → (side : Side) → MeetsSide side → BytesToBytesRestartedSteps m side
  -- A batch for two streams.
  pub batch-got : BatchGot
  -- A run with a batch meets the premises; and what the statement gives of it.
  pub steps-meet : StepsMeet
  pub steps-applied : (m : Machine) → MeetsAll m → (side : Side) → MeetsSide side → StepsApplied m side
  -- Over a PRP line copies come as they were sent.
  pub sent-over-prp : (side : Side) → MeetsSide side → SentOverPrp side
  pub sent-over-prp-calls : (side : Side) → MeetsSide side → SentOverPrpCalls side
  pub prp-run : PrpRun
