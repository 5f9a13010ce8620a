-- What this crate proves, as one list. `proofs/Theorems` has the proof of each line. Assumes nothing.
use Rattle.demands.specs.Receiver.{Receiver, MeetsContract}
use Rattle.demands.specs.Steps.{Machine, MeetsAll}
use Rattle.links.specs.Links.{LinkUpExactly, ZeroUpExactly, TwinRefused, ZeroLost, LinkDecides, LinkRises, RisesAscend, LinkBoundSharp, RestartsApart, AloneAllUp, Lockstep}
use Rattle.links.specs.Runs.{LinkCases, RuleGives, RuleDoesNotGive}
use Rattle.links.specs.LinksSeen.{LinkSeen, LinkRisesSeen, LinkRisesSteps}
use Rattle.links.specs.SeenRuns.{RingMeets, RisingAre, RisingNeeded}

pub record Theorems : Type 0 where
  -- Of the numbers,
  pub link-up-exactly : LinkUpExactly
  pub zero-up-exactly : ZeroUpExactly
  pub twin-refused : TwinRefused
  pub zero-lost : ZeroLost
  -- of one record,
  pub link-decides : LinkDecides
  -- of a sender's frames without a restart, and with restarts.
  pub link-rises : LinkRises
  pub rises-ascend : RisesAscend
  pub link-bound-sharp : LinkBoundSharp
  pub restarts-apart : RestartsApart
  pub alone-all-up : AloneAllUp
  pub lockstep : Lockstep
  -- Of every receiver that meets the contract, over runs of calls: the premises can be met, and each of them is needed.
  pub link-seen : (receive : Receiver) → MeetsContract receive → LinkSeen receive
  pub link-rises-seen : (receive : Receiver) → MeetsContract receive → LinkRisesSeen receive
  pub link-rises-steps : (m : Machine) → MeetsAll m → LinkRisesSteps m
  pub ring-meets : RingMeets
  pub rising-are : RisingAre
  pub rising-needed : RisingNeeded
  -- By computing: what the rule gives, and what it does not.
  pub link-cases : LinkCases
  pub rule-gives : RuleGives
  pub rule-does-not-give : RuleDoesNotGive
