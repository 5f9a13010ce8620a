-- What this crate proves, as one list: the three demands of every receiver that meets document 01's contract, that the code
-- meets it, what follows from them, and what shows that they are not empty. `proofs/Theorems` has the proof of each line.
-- Assumes nothing.
use Rattle.demands.specs.Receiver.{Receiver, MeetsContract, the_receiver, RunsCoincide, Tagger, MeetsTags}
use Rattle.demands.specs.Code.{CodeMeets}
use Rattle.demands.specs.Demand1.{Demand1, Demand1Tags}
use Rattle.demands.specs.Demand2.{Demand2, Demand2Tags, ArrivalsRecovered, LinksRecovered}
use Rattle.demands.specs.Seen.{ResetsSeen}
use Rattle.demands.specs.Demand3.{Demand3}
use Rattle.demands.specs.Steps.{Machine, MeetsAll, the_machine, StepsAreCalls, BatchesAreCalls, SeenAsCalls, Demand1Steps, Demand3Steps, StepsCoincide}
use Rattle.demands.specs.Indexed.{IndexedCoincide, IndexedAreSteps, LeftOutClaimNothing, NothingLeftOut}
use Rattle.demands.specs.IndexExamples.{IndexedShown}
use Rattle.demands.specs.Corollaries.{NeverTwice, UnlimitedNeverTwice, FreshDecides, OpenedDecides, RestartGetsThrough, CountsOnce}
use Rattle.demands.specs.Lost.{FreshLost, OpenedLost, FreshLostSteps, LostForGood}
use Rattle.demands.specs.Missed.{NothingSeenMissed, NothingMissed, SeenOrRefused, RefusedWith, BeginsFresh, NothingSeenMissedSteps, NothingMissedSteps}
use Rattle.demands.specs.Wrong.{RightOtherwise, RuledOut}
use Rattle.demands.specs.Examples.{WrapMeets}
use Rattle.demands.specs.Needed.{BoundReached, PremisesAre, BoundSharp, PremisesNeeded}
use Rattle.demands.specs.StepExamples.{WrapInOne}

-- Of a receiver.
pub record Demands (receive : Receiver) : Type 0 where
  pub demand-1 : Demand1 receive
  pub demand-2 : Demand2 receive
  pub demand-3 : Demand3 receive
  pub arrivals-recovered : ArrivalsRecovered receive
  pub links-recovered : LinksRecovered receive
  pub fresh-decides : FreshDecides receive
  pub opened-decides : OpenedDecides receive
  pub never-twice : NeverTwice receive
  pub restart-gets-through : RestartGetsThrough receive
  pub counts-once : CountsOnce receive
  pub resets-seen : ResetsSeen receive
  pub fresh-lost : FreshLost receive
  pub opened-lost : OpenedLost receive
  pub nothing-seen-missed : NothingSeenMissed receive
  pub nothing-missed : NothingMissed receive
  pub seen-or-refused : SeenOrRefused receive
  pub refused-with : RefusedWith receive
  pub begins-fresh : BeginsFresh receive

-- Of a receiver with the batch beside it: demands 1 and 3 of steps that are single calls and batches, what lost means there, that
-- nothing is missed there, and that these are read as the calls that they are.
pub record StepDemands (m : Machine) : Type 0 where
  pub demand-1-steps : Demand1Steps m
  pub demand-3-steps : Demand3Steps m
  pub steps-are-calls : StepsAreCalls m
  pub batches-are-calls : BatchesAreCalls m
  pub seen-as-calls : SeenAsCalls m
  pub fresh-lost-steps : FreshLostSteps m
  pub nothing-seen-missed-steps : NothingSeenMissedSteps m
  pub nothing-missed-steps : NothingMissedSteps m

pub record Theorems : Type 2 where
  -- Every receiver that meets the contract fulfils the demands,
  pub demands : (receive : Receiver) → MeetsContract receive → Demands receive
  -- there is one that meets it, the code of the public calls meets it, and the results that these ensure in a run are that
  -- one's;
  pub met : MeetsContract the_receiver
  pub code_meets : CodeMeets
  pub runs-coincide : RunsCoincide
  -- the same of a program that makes batches too;
  pub step-demands : (m : Machine) → MeetsAll m → StepDemands m
  pub all-met : MeetsAll the_machine
  pub steps-coincide : StepsCoincide
  -- the same of a program that keeps an index beside its table: its runs are read as runs of steps, in which nothing is left out that
  -- the index did not refuse;
  pub indexed-coincide : IndexedCoincide
  pub indexed-are-steps : IndexedAreSteps
  pub left-out-claim-nothing : LeftOutClaimNothing
  pub nothing-left-out : NothingLeftOut
  pub indexed-shown : IndexedShown
  -- the same of the two calls that have no table.
  pub tags-1 : (tagger : Tagger) → MeetsTags tagger → Demand1Tags tagger
  pub tags-2 : (tagger : Tagger) → MeetsTags tagger → Demand2Tags tagger
  -- The receiver with unlimited memory hands no index up twice.
  pub unlimited-never-twice : UnlimitedNeverTwice
  -- An index that counts as lost is not handed up later. (Runs that pin what lost means and what order 8 says, and that their
  -- premises are needed: the crates `lost_runs` and `missed_runs`.)
  pub lost-for-good : LostForGood
  -- The wrong receivers of document 01 fail, and those that are made by `deciding` are wrong in nothing else.
  pub ruled_out : RuledOut
  pub right-otherwise : RightOtherwise
  -- Demand 3's premises can be met, by a run over the wrap, single calls or one batch, and by runs that reach its bound; the
  -- bound is sharp; and each of the premises is needed.
  pub wrap_meets : WrapMeets
  pub wrap-in-one : WrapInOne
  pub bound-reached : BoundReached
  pub premises-are : PremisesAre
  pub bound-sharp : BoundSharp
  pub premises-needed : PremisesNeeded
