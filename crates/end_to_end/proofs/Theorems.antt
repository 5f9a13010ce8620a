-- The list of theorems. Assumes nothing.
use Rattle.demands.specs.Receiver.{Receiver, MeetsContract}
use Rattle.demands.specs.Steps.{Machine, MeetsAll, the_machine}
use Rattle.demands.proofs.Stepping.{the-machine-meets}
use Rattle.sender.specs.Runs.{Side, MeetsSide, the_side}
use Rattle.sender.proofs.Numbers.{the-side-meets}
use Rattle.delays.proofs.Theorems as delays
use Rattle.end_to_end.specs.Bytes.{BytesToBytes}
use Rattle.end_to_end.specs.Batches.{BytesToBytesSteps, BytesToBytesRestartedSteps}
use Rattle.end_to_end.specs.Code.{CodeToCode}
use Rattle.end_to_end.specs.Theorems.{EndToEnd, Theorems}
-- (The runs first: modules are checked in the order in which they are named, and so a wrong definition is refused at what a run computes.)
use Rattle.end_to_end.proofs.Runs.{both_meet, restart-meets, traffic-meets, between-needed, heard-needed}
use Rattle.end_to_end.proofs.Bytes.{bytes-to-bytes, bytes-to-bytes-restarted}
use Rattle.end_to_end.proofs.Batches.{got-as-calls, bytes-to-bytes-steps, bytes-to-bytes-restarted-steps}
use Rattle.end_to_end.proofs.Coded.{rans-coincide, from-steps}
use Rattle.end_to_end.proofs.Lengths.{lengths-stand}
use Rattle.end_to_end.proofs.BatchRuns.{batch-got, steps-meet}
use Rattle.end_to_end.proofs.Heard.{copies-are-heard}
use Rattle.end_to_end.proofs.RunsApplied.{applied, applied-steps}
use Rattle.end_to_end.proofs.PrpLines.{sent-over-prp, sent-over-prp-calls, prp-run}

of_calls : {receive : Receiver} → MeetsContract receive → {side : Side} → MeetsSide side → BytesToBytes receive side
of_calls {receive} k m = bytes-to-bytes k ((delays.theorems).delays receive k).once-each m

of-both : (receive : Receiver) → MeetsContract receive → (side : Side) → MeetsSide side → EndToEnd receive side
of-both receive k side m = record {
  bytes-to-bytes = of_calls k m;
  bytes-to-bytes-restarted = bytes-to-bytes-restarted k ((delays.theorems).delays receive k).once-each m;
  copies-are-heard = copies-are-heard k m;
}

of_steps : (m : Machine) → MeetsAll m → (side : Side) → MeetsSide side → BytesToBytesSteps m side
of_steps m k side s = bytes-to-bytes-steps m k side (of_calls k.receive s)

of-restarted-steps : (m : Machine) → MeetsAll m → (side : Side) → MeetsSide side → BytesToBytesRestartedSteps m side
of-restarted-steps m k side s = bytes-to-bytes-restarted-steps m k side (of_calls k.receive s)

code-to-code : CodeToCode
code-to-code = from-steps (of_steps the_machine the-machine-meets the_side the-side-meets)

pub theorems : Theorems
theorems = record {
  rans-coincide = rans-coincide;
  code-to-code = code-to-code;
  both = of-both;
  both_meet = both_meet;
  restart-meets = restart-meets;
  traffic-meets = traffic-meets;
  between-needed = between-needed;
  heard-needed = heard-needed;
  end-applied = applied of-both;
  got-as-calls = got-as-calls;
  lengths-stand = lengths-stand;
  steps = of_steps;
  steps-restarted = of-restarted-steps;
  batch-got = batch-got;
  steps-meet = steps-meet;
  steps-applied = applied-steps (λ m k side s. record { steps = of_steps m k side s; restarted = of-restarted-steps m k side s; lengths = lengths-stand m k });
  sent-over-prp = sent-over-prp;
  sent-over-prp-calls = sent-over-prp-calls;
  prp-run = prp-run;
}
