-- No smaller L or R will do, whatever T, J, m and tau are: some run that keeps to these four goes wrong. (They do not say that ticks come
-- in time, and the runs for L have none. Where a row of losses lasts R ticks the stream is reset, and a smaller L would do.) Assumes nothing.
use Rattle.std.specs.Prelude.{ℕ, ◌+◌, ◌*◌, ◌≤◌, ◌<◌, ◌≡◌, false, List, [], ◌++◌, map}
use Rattle.stream.specs.Decisions.{is_up}
use Rattle.demands.specs.Corollaries.{handed_of, distinct}
use Rattle.demands.specs.Missed.{firsts}
use Rattle.delays.specs.Formulas.{apart_in, least_window, traffic_window, least_time, least_wait}
use Rattle.delays.specs.Line.{Known, Spaced, Event, indices, Keeps, Loses}
use Rattle.delays.specs.Forgetting.{forgetting}
use Rattle.delays.specs.StartedAgain.{copies_in, ticks_in}

-- A sender that sends each T, a quick network and one that is slower by up to j.
abbrev pub even : (T least j tau m : ℕ) → Known
even T least j tau m = record {
  sent = λ x. T * x;
  least0 = least;
  most0 = least;
  least1 = least;
  most1 = least + j;
  tau = tau;
  tau_most = tau;
  m = m;
}

-- What may come to a fresh stream, behind `before`, on which it goes wrong with this L and R: some index is not handed up at its first
-- arrival, or is handed up again. (`DecidesAcross`: a stream decides as `forgetting` does. On lines whose L is at most 512 no index of
-- these runs lies further ahead than that.)
pub record Wrong (k : Known) (T window time : ℕ) (before : List Event) : Type 0 where
  pub still : List ℕ
  pub es : List Event
  pub sends : Spaced k T
  pub keeps : Keeps k 0 (before ++ es)
  pub loses : Loses k still (before ++ es)
  pub wrong : map is_up (forgetting window time 0 [] es) ≡ firsts [] (indices es) → ⊥

-- Any L that is less than its formula, with any R, from a quiet start and in traffic; and any R that is less, with any L.
pub record LeastConstants : Type 0 where
  pub window : (T least j tau m window time : ℕ) → 1 ≤ T → 1 ≤ tau → window < least_window (apart_in j T) m
      → Wrong (even T least j tau m) T window time []
  pub traffic : (T least j tau m window time : ℕ) → 1 ≤ T → 1 ≤ tau → window < traffic_window (apart_in j T) m
      → (before : List Event) × Wrong (even T least j tau m) T window time before
  pub time : (T least j tau m window time : ℕ) → 1 ≤ T → 1 ≤ tau → 1 ≤ time → time < least_time j tau
      → Wrong (even T least j tau m) T window time []

-- Nor will a shorter wait of a receiver that is started again: with so many ticks in it some index is handed up in both lives, whatever
-- L and R are.
pub record TooShort (k : Known) (T ticks : ℕ) : Type 0 where
  pub old : List Event
  pub wait : List Event
  pub es : List Event
  pub sends : Spaced k T
  pub keeps : Keeps k 0 (copies_in old ++ wait ++ es)
  pub loses : Loses k [] (copies_in old ++ wait ++ es)
  pub waited : ticks_in wait ≡ ticks
  pub twice : (window time : ℕ)
      → distinct (handed_of (forgetting window time 0 [] old) (indices old) ++ handed_of (forgetting window time 0 [] es) (indices es)) ≡ false

abbrev pub LeastWait : Type 0
LeastWait = (T least j tau m ticks : ℕ) → 1 ≤ T → 1 ≤ tau → ticks < least_wait j tau → TooShort (even T least j tau m) T ticks
