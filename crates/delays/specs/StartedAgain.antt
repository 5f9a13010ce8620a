-- A receiver that is started again has an empty memory. It waits for R ticks, makes no call for its streams meanwhile, and then opens
-- them: no index that was handed up before is handed up again. The statements of a stream are of runs of calls (`log` of a receiver)
-- and of runs with batches (`log_steps`). Assumes nothing.
use Rattle.std.specs.Prelude.{ℕ, suc, ◌≤◌, ◌≡◌, true, false, List, [], ◌∷◌, ◌++◌}
use Rattle.refusal.specs.Checks.Said.{answers}
use Rattle.record.specs.Sizes.{vector_rule}
use Rattle.stream.specs.Decisions.{Verdict}
use Rattle.calls.specs.Table.{Table}
use Rattle.calls.specs.Calls.{opening, placed}
use Rattle.demands.specs.Receiver.{Receiver}
use Rattle.demands.specs.Seen.{verdicts}
use Rattle.demands.specs.Unlimited.{elem}
use Rattle.demands.specs.Corollaries.{handed_of, distinct}
use Rattle.delays.specs.Formulas.{traffic_window, least_time, least_wait}
use Rattle.delays.specs.Line.{Known, J, Sends, Event, came, ticked, indices, Keeps, end, Loses}
use Rattle.delays.specs.OnceEach.{Sees, Timed, up_at_first, window_for, fewer_between}

-- ---- of the line

-- The clock of ticks begins anew with the receiver: its last tick in the old life may come less than tau before the first in the new
-- one. So the ticks of the old life are struck,
unfoldable pub copies_in : List Event → List Event
copies_in [] = []
copies_in (came x a ∷ es) = came x a ∷ copies_in es
copies_in (ticked c ∷ es) = copies_in es

-- and those of the wait are counted.
unfoldable pub ticks_in : List Event → ℕ
ticks_in [] = 0
ticks_in (came x a ∷ es) = ticks_in es
ticks_in (ticked c ∷ es) = suc (ticks_in es)

-- What comes to the line, whether a receiver runs or not: `old` in the old life, `wait` from its end to the open, es behind it. (So what
-- comes while the receiver is off stands in the wait, before its ticks.) If fewer than n ticks fall between two copies of one index, and
-- the wait has n, what came in the old life has no copy behind it. That is so whatever the times are; with what is known of a line n is
-- `least_wait`, by `FewerTicks`.
abbrev pub NoneBehindWait : Type 0
NoneBehindWait =
    (n : ℕ) (old wait es : List Event)
    → fewer_between n (copies_in old ++ wait ++ es) ≡ true → n ≤ ticks_in wait
    → (x : ℕ) → elem x (indices old) ≡ true → elem x (indices es) ≡ false

-- ---- none twice

-- Each of these stands among those. What is handed up stands among what came.
abbrev pub Among : (xs ys : List ℕ) → Type 0
Among xs ys = (x : ℕ) → elem x xs ≡ true → elem x ys ≡ true

abbrev pub HandedCame : Type 0
HandedCame = (vs : List Verdict) (indices : List ℕ) → Among (handed_of vs indices) indices

-- `handed` is what was handed up in all lives before, and vs are the verdicts of the new one. If none stands twice in either, as
-- `OnceEach` says, and `NoneForAnother` in outages of any length, none stands twice in both together.
abbrev pub NoneTwiceOverLives : Type 0
NoneTwiceOverLives =
    (n : ℕ) (old wait es : List Event) (handed : List ℕ) (vs : List Verdict)
    → fewer_between n (copies_in old ++ wait ++ es) ≡ true → n ≤ ticks_in wait
    → distinct handed ≡ true → Among handed (indices old)
    → distinct (handed_of vs (indices es)) ≡ true
    → distinct (handed ++ handed_of vs (indices es)) ≡ true

-- However often it is started again. A further life is its wait, what comes from its open on, and its verdicts;
pub record NextLife : Type 0 where
  pub wait : List Event
  pub since : List Event
  pub verdicts : List Verdict

-- what was handed up in all of them, behind what was handed up before;
unfoldable pub handed_in_all : (handed : List ℕ) → List NextLife → List ℕ
handed_in_all handed [] = handed
handed_in_all handed (l ∷ ls) = handed_in_all (handed ++ handed_of l.verdicts (indices l.since)) ls

-- and each of them waits, behind all that came before, and hands none up twice by itself.
abbrev pub EachWaits : (n : ℕ) (old : List Event) → List NextLife → Type 0
EachWaits n old [] = Unit {0}
EachWaits n old (l ∷ ls) =
    (fewer_between n (copies_in old ++ l.wait ++ l.since) ≡ true)
    × (n ≤ ticks_in l.wait)
    × (distinct (handed_of l.verdicts (indices l.since)) ≡ true)
    × EachWaits n (old ++ l.wait ++ l.since) ls

abbrev pub NoneTwiceInAllLives : Type 0
NoneTwiceInAllLives =
    (n : ℕ) (old : List Event) (handed : List ℕ) (lives : List NextLife)
    → distinct handed ≡ true → Among handed (indices old) → EachWaits n old lives
    → distinct (handed_in_all handed lives) ≡ true

-- ---- exactly once from the open on

-- A life of a stream: an open with L and R, whatever the table was, and the events of a run from there on.
pub record Life {A : Type 0} (receive : Receiver) (sees : Sees A) (window time : ℕ) (u : Table) (i : ℕ) (run : A) (es : List Event) : Type 0 where
  pub dest : List ℕ
  pub vlan : ℕ
  pub table : Table
  pub answered : (receive table (opening dest vlan vector_rule window time)).said ≡ answers (placed i)
  pub left : (receive table (opening dest vlan vector_rule window time)).table ≡ u
  pub timed : Timed sees u i run es

-- What is promised of the verdicts of a life that begins with a wait:
pub record Again (handed : List ℕ) (vs : List Verdict) (old es : List Event) : Type 0 where
  -- from the open on each index is handed up at its first arrival, and every later one is a duplicate;
  pub verdicts : vs ≡ up_at_first (indices es)
  -- no copy comes of what came in the old life, and so none is handed up that was before;
  pub gone : (x : ℕ) → elem x (indices old) ≡ true → elem x (indices es) ≡ false
  pub once : distinct (handed ++ handed_of vs (indices es)) ≡ true
  -- and it is handed up exactly if a copy of it comes behind the open. So what was not handed up before is lost if all its copies
  -- came before the open, and only then.
  pub each : (x : ℕ) → elem x (handed_of vs (indices es)) ≡ elem x (indices es)

-- From an open in the middle of traffic on. (If more than m were lost in a row in the old life or in the wait: `OnceEachOpened` with what
-- came since then, and `NoneTwiceOverLives`, which asks for no losses.)
abbrev pub OnceEachStartedAgain : {A : Type 0} → Receiver → Sees A → Type 0
OnceEachStartedAgain {A} receive sees =
    (k : Known) (b : ℕ) (still handed : List ℕ) (old wait es : List Event) (window time : ℕ) (u : Table) (i : ℕ) (run : A)
    → Life receive sees window time u i run es
    → distinct handed ≡ true → Among handed (indices old)
    → Sends k (J k) b → Keeps k 0 (copies_in old ++ wait ++ es) → Loses k still (copies_in old ++ wait ++ es)
    → least_wait (J k) k.tau ≤ ticks_in wait
    → traffic_window b k.m ≤ window
    → least_time (J k) k.tau ≤ time
    → Again handed (verdicts (sees i u run)) old es

-- ---- two lives, both by the formulas

pub record BothLives (vs ws : List Verdict) (was es : List Event) : Type 0 where
  pub old : vs ≡ up_at_first (indices was)
  pub new : ws ≡ up_at_first (indices es)
  -- What is handed up in both lives: none twice, and exactly that of which a copy came in one of them.
  pub once : distinct (handed_of vs (indices was) ++ handed_of ws (indices es)) ≡ true
  pub each : (x : ℕ) → elem x (handed_of vs (indices was) ++ handed_of ws (indices es)) ≡ elem x (indices was ++ indices es)

-- `before` came before the old life, and `was` in it. Its slot, L and R may have been others.
abbrev pub OnceEachBothLives : {A : Type 0} → Receiver → Sees A → Type 0
OnceEachBothLives {A} receive sees =
    (k : Known) (b : ℕ) (still : List ℕ) (before was wait es : List Event)
    (window₀ time₀ : ℕ) (t : Table) (j : ℕ) (old : A) (window time : ℕ) (u : Table) (i : ℕ) (new : A)
    → Life receive sees window₀ time₀ t j old was → Life receive sees window time u i new es
    → Sends k (J k) b → Keeps k 0 (before ++ was) → Keeps k (end 0 (before ++ was)) (wait ++ es)
    → Loses k still (before ++ was ++ wait ++ es)
    → window_for before b k.m ≤ window₀ → least_time (J k) k.tau ≤ time₀
    → least_wait (J k) k.tau ≤ ticks_in wait
    → traffic_window b k.m ≤ window → least_time (J k) k.tau ≤ time
    → BothLives (verdicts (sees j t old)) (verdicts (sees i u new)) was es
