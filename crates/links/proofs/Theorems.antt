-- The theorems, one for each line of `specs/Theorems`. Assumes nothing.
use Rattle.links.specs.Theorems.{Theorems}
use Rattle.links.proofs.Numbers.{link-up-exactly, zero-up-exactly, twin-refused, zero-lost, link-bound-sharp}
use Rattle.links.proofs.Decided.{link-decides}
use Rattle.links.proofs.Links.{link-rises, rises-ascend, restarts-apart, alone-all-up, lockstep}
use Rattle.links.proofs.Runs.{link-cases, rule-gives, rule-does-not-give}
use Rattle.links.proofs.LinksSeen.{link-seen, link-rises-seen, link-rises-steps}
use Rattle.links.proofs.SeenRuns.{ring-meets, rising-are, rising-needed}

pub theorems : Theorems
theorems = record {
  link-up-exactly = link-up-exactly;
  zero-up-exactly = zero-up-exactly;
  twin-refused = twin-refused;
  zero-lost = zero-lost;
  link-decides = link-decides;
  link-rises = link-rises;
  rises-ascend = rises-ascend;
  link-bound-sharp = link-bound-sharp;
  restarts-apart = restarts-apart;
  alone-all-up = alone-all-up;
  lockstep = lockstep;
  link-seen = λ receive m. link-seen m;
  link-rises-seen = λ receive m. link-rises-seen m;
  link-rises-steps = λ m k. link-rises-steps k;
  ring-meets = ring-meets;
  rising-are = rising-are;
  rising-needed = rising-needed;
  link-cases = link-cases;
  rule-gives = rule-gives;
  rule-does-not-give = rule-does-not-give;
}
