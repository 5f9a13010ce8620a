-- What this crate proves, as one list. `proofs/Theorems` has the proof of each line. Assumes nothing.
use Rattle.demands.specs.Receiver.{Receiver, MeetsContract, run}
use Rattle.demands.specs.Seen.{log}
use Rattle.demands.specs.Steps.{Machine, MeetsAll, ran_steps, log_steps}
use Rattle.delays.specs.OnceEach.{OnceEach, OnceEachEven, OnceEachOpened, OnceEachRestarted, NoneForAnother, NoneTwice, DecidesAcross, WindowHolds, FewerTicks, SpacedSends, UpAtFirstIsOnce, BeginningsKeep}
use Rattle.delays.specs.StartedAgain.{NoneBehindWait, HandedCame, NoneTwiceOverLives, NoneTwiceInAllLives, OnceEachStartedAgain, OnceEachBothLives}
use Rattle.delays.specs.Least.{LeastConstants, LeastWait}
use Rattle.delays.specs.ByNumber.{Sharp, TrafficSharp, AgainSharp}

-- Of a receiver that meets the contract,
pub record Delays (receive : Receiver) : Type 0 where
  pub once-each-even : OnceEachEven (log receive)
  pub once-each : OnceEach (log receive)
  pub once-each-opened : OnceEachOpened receive (log receive)
  pub once-each-restarted : OnceEachRestarted (log receive) (run receive)
  pub once-each-started-again : OnceEachStartedAgain receive (log receive)
  pub once-each-both-lives : OnceEachBothLives receive (log receive)
  pub none-for-another : NoneForAnother (log receive)
  pub none-twice : NoneTwice (log receive)
  pub decides-across : DecidesAcross (log receive)

-- and of one with the batch beside it.
pub record DelaysSteps (m : Machine) : Type 0 where
  pub once-each-even : OnceEachEven (log_steps m)
  pub once-each : OnceEach (log_steps m)
  pub once-each-opened : OnceEachOpened m.receive (log_steps m)
  pub once-each-restarted : OnceEachRestarted (log_steps m) (ran_steps m)
  pub once-each-started-again : OnceEachStartedAgain m.receive (log_steps m)
  pub once-each-both-lives : OnceEachBothLives m.receive (log_steps m)
  pub none-for-another : NoneForAnother (log_steps m)
  pub none-twice : NoneTwice (log_steps m)
  pub decides-across : DecidesAcross (log_steps m)

pub record Theorems : Type 0 where
  pub delays : (receive : Receiver) → MeetsContract receive → Delays receive
  pub delays-steps : (m : Machine) → MeetsAll m → DelaysSteps m
  -- What the window and the reset time are needed for, what exactly once means, and what an even sender keeps to.
  pub window-holds : WindowHolds
  pub fewer-ticks : FewerTicks
  pub up-at-first-is-once : UpAtFirstIsOnce
  pub spaced-sends : SpacedSends
  pub beginnings-keep : BeginningsKeep
  -- What the wait of a receiver that is started again is for.
  pub none-behind-wait : NoneBehindWait
  pub handed-came : HandedCame
  pub none-twice-over-lives : NoneTwiceOverLives
  pub none-twice-in-all-lives : NoneTwiceInAllLives
  -- No smaller L, R or wait will do; and three runs, at L, R and the wait and one less. (More of them: the crate `delays_runs`.)
  pub least-constants : LeastConstants
  pub least-wait : LeastWait
  pub sharp : Sharp
  pub traffic-sharp : TrafficSharp
  pub again-sharp : AgainSharp
