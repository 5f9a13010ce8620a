-- The theorems, one for each line of `specs/Theorems`. Assumes nothing.
use Rattle.demands.specs.Receiver.{Receiver, MeetsContract}
use Rattle.demands.specs.Steps.{Machine, MeetsAll}
use Rattle.demands.specs.Theorems.{Demands, StepDemands, Theorems}
use Rattle.demands.proofs.Alike.{the-receiver-meets, runs-coincide}
use Rattle.demands.proofs.Coded.{code_meets}
use Rattle.demands.proofs.One.{demand-1, demand-1-tags}
use Rattle.demands.proofs.Told.{arrivals-recovered, links-recovered}
use Rattle.demands.proofs.Three.{demand-3, fresh-decides}
use Rattle.demands.proofs.After.{never-twice, unlimited-never-twice, opened-decides, restart-gets-through, counts-once, resets-seen}
use Rattle.demands.proofs.Absent.{lost-for-good}
use Rattle.demands.proofs.Lost.{fresh-lost, opened-lost}
use Rattle.demands.proofs.Stepping.{the-machine-meets, steps-are-calls, batches-are-calls, seen-as-calls, demand-1-steps, demand-3-steps, fresh-lost-steps, steps-coincide}
use Rattle.demands.proofs.Indexing.{indexed-coincide, indexed-are-steps, left-out-claim-nothing}
use Rattle.demands.proofs.Stays.{nothing-left-out}
use Rattle.demands.proofs.IndexRuns.{indexed-shown}
use Rattle.demands.proofs.Sent.{seen-or-refused, refused-with}
use Rattle.demands.proofs.Begins.{begins-fresh}
use Rattle.demands.proofs.Missed.{nothing-seen-missed, nothing-missed, nothing-seen-missed-steps, nothing-missed-steps}
use Rattle.demands.proofs.Runs.{wrap_meets, bound-reached, premises-are, bound-sharp, premises-needed}
use Rattle.demands.proofs.StepRuns.{wrap-in-one}
use Rattle.demands.proofs.Wrong.{right-otherwise, ruled_out}

pub demands : {receive : Receiver} → MeetsContract receive → Demands receive
demands m = record {
  demand-1 = demand-1 m;
  demand-2 = m;
  demand-3 = demand-3 m;
  arrivals-recovered = arrivals-recovered m;
  links-recovered = links-recovered m;
  fresh-decides = fresh-decides m;
  opened-decides = opened-decides m;
  never-twice = never-twice m;
  restart-gets-through = restart-gets-through m;
  counts-once = counts-once m;
  resets-seen = resets-seen m;
  fresh-lost = fresh-lost m;
  opened-lost = opened-lost m;
  nothing-seen-missed = nothing-seen-missed m;
  nothing-missed = nothing-missed m;
  seen-or-refused = seen-or-refused m;
  refused-with = refused-with m;
  begins-fresh = begins-fresh m;
}

pub step-demands : {m : Machine} → MeetsAll m → StepDemands m
step-demands k = record {
  demand-1-steps = demand-1-steps k;
  demand-3-steps = demand-3-steps k;
  steps-are-calls = steps-are-calls k;
  batches-are-calls = batches-are-calls k;
  seen-as-calls = seen-as-calls k;
  fresh-lost-steps = fresh-lost-steps k;
  nothing-seen-missed-steps = nothing-seen-missed-steps k;
  nothing-missed-steps = nothing-missed-steps k;
}

pub theorems : Theorems
theorems = record {
  demands = λ receive m. demands m;
  met = the-receiver-meets;
  code_meets = code_meets;
  runs-coincide = runs-coincide;
  step-demands = λ m k. step-demands k;
  all-met = the-machine-meets;
  steps-coincide = steps-coincide;
  indexed-coincide = indexed-coincide;
  indexed-are-steps = indexed-are-steps;
  left-out-claim-nothing = left-out-claim-nothing;
  nothing-left-out = nothing-left-out;
  indexed-shown = indexed-shown;
  tags-1 = λ tagger m. demand-1-tags m;
  tags-2 = λ tagger m. m;
  unlimited-never-twice = unlimited-never-twice;
  lost-for-good = lost-for-good;
  ruled_out = ruled_out;
  right-otherwise = right-otherwise;
  wrap_meets = wrap_meets;
  wrap-in-one = wrap-in-one;
  bound-reached = bound-reached;
  premises-are = premises-are;
  bound-sharp = bound-sharp;
  premises-needed = premises-needed;
}
