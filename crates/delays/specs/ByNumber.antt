-- The formulas by number: runs of the receiver that the definitions give, which go right with L and R by the formulas, and wrong
-- with one less. More runs are in the crate `delays_runs`. Assumes nothing.
use Rattle.std.specs.Prelude.{ℕ, zero, suc, ◌+◌, ◌-◌, ◌*◌, ◌≡◌, false, List, [], ◌∷◌, ◌++◌, leb}
use Rattle.std.specs.Prelude.{if◌then◌else◌}
use Rattle.record.specs.Sizes.{vector_rule}
use Rattle.frame.specs.Frame.{dest_of}
use Rattle.stream.specs.Record.{opened}
use Rattle.stream.specs.Decisions.{Verdict, up, duplicate, rogue}
use Rattle.calls.specs.Table.{Table, at}
use Rattle.calls.specs.Calls.{Call, ticking}
use Rattle.demands.specs.Receiver.{the_receiver}
use Rattle.demands.specs.Seen.{log, verdicts}
use Rattle.demands.specs.Demand3.{number_of}
use Rattle.demands.specs.Corollaries.{handed_of}
use Rattle.demands.specs.Missed.{FreshVector}
use Rattle.demands.specs.Examples.{address, from}
use Rattle.delays.specs.Formulas.{apart_in, least_window, traffic_window, least_time, least_wait}
use Rattle.delays.specs.Line.{Known, J, Sends, Spaced, Event, came, ticked, indices, kept, Keeps, Loses}
use Rattle.delays.specs.OnceEach.{Timed, up_at_first}
use Rattle.delays.specs.StartedAgain.{copies_in, ticks_in}

-- ---- runs

-- A table with one stream, just opened.
unfoldable pub new : (window time : ℕ) → Table
new window time = opened (dest_of (address 1)) 0 vector_rule window time ∷ []

-- The calls of these events: a copy that is too late for network 0 comes on network 1.
unfoldable pub calls : Known → List Event → List Call
calls k [] = []
calls k (came x a ∷ es) = from (if leb a (k.sent x + k.most0) then 0 else 1) 1 (number_of x) ∷ calls k es
calls k (ticked c ∷ es) = ticking ∷ calls k es

-- The reset time of a line, by the formula.
abbrev pub time_of : Known → ℕ
time_of k = least_time (J k) k.tau

-- What is asked of a line, where `before` came before the stream is fresh.
pub record Lawful (k : Known) (b : ℕ) (before es : List Event) : Type 0 where
  pub sends : Sends k (J k) b
  pub keeps : Keeps k 0 (before ++ es)
  pub loses : Loses k [] (before ++ es)

-- A run of these events from a table on, and the verdicts.
pub record Gives (k : Known) (es : List Event) (t : Table) (vs : List Verdict) : Type 0 where
  pub fresh : FreshVector (at t 0)
  pub timed : Timed (log the_receiver) t 0 (calls k es) es
  pub given : verdicts (log the_receiver 0 t (calls k es)) ≡ vs

-- ---- over the wrap, with a reset by tick

-- In half milliseconds: a frame each 1 ms, a tick each 1 ms, one lost in a row. The delays of a network differ by 0.5 ms and by 1.5 ms,
-- those of both by 2.5 ms.
unfoldable pub line : Known
line = record { sent = λ x. 2 * x; least0 = 2; most0 = 3; least1 = 4; most1 = 7; tau = 2; tau_most = 2; m = 1 }

-- Index 65535 is sent at 131070.
unfoldable pub traffic : List Event
traffic =
    came 65534 131070
    ∷ came 65535 131072
    ∷ ticked 131072  -- in the same instant
    ∷ ticked 131074
    ∷ came 65534 131075
    ∷ ticked 131076  -- the third since the last hand-up
    ∷ came 65535 131077  -- the latest that it may come
    ∷ ticked 131078  -- the fourth: a reset
    ∷ ticked 131080
    ∷ came 65537 131081  -- 65536 is lost
    ∷ ticked 131082
    ∷ came 65541 131084  -- 65538 is lost, and 65539 and 65540 are overtaken: 4 ahead
    ∷ ticked 131084
    ∷ came 65539 131085
    ∷ came 65540 131085
    ∷ came 65541 131089
    ∷ []

abbrev pub b : ℕ
b = apart_in (J line) 2

abbrev pub L : ℕ
L = least_window b line.m

abbrev pub R : ℕ
R = time_of line

pub record Sharp : Type 0 where
  pub even : Spaced line 2
  pub lawful : Lawful line b [] traffic
  pub wanted : up_at_first (indices traffic) ≡ up ∷ up ∷ duplicate ∷ duplicate ∷ up ∷ up ∷ up ∷ up ∷ duplicate ∷ []
  pub right : Gives line traffic (new L R) (up_at_first (indices traffic))
  -- L one less: 65541 is a rogue at its first arrival.
  pub window-less : Gives line traffic (new (L - 1) R) (up ∷ up ∷ duplicate ∷ duplicate ∷ up ∷ rogue ∷ up ∷ up ∷ up ∷ [])
  -- R one less: 65535 is handed up twice.
  pub time-less : Gives line traffic (new L (R - 1)) (up ∷ up ∷ duplicate ∷ up ∷ up ∷ up ∷ up ∷ up ∷ duplicate ∷ [])

-- ---- opened in the middle of traffic

-- A frame each 3, nothing lost. The stream is opened between a copy of 11 and one of 10, which come in one instant; then 13 overtakes 12.
unfoldable pub busy : Known
busy = record { sent = λ x. 3 * x; least0 = 0; most0 = 2; least1 = 4; most1 = 5; tau = 2; tau_most = 10; m = 0 }

unfoldable pub missed : List Event
missed = came 11 35 ∷ []

unfoldable pub caught : List Event
caught = came 10 35 ∷ ticked 37 ∷ came 13 39 ∷ ticked 39 ∷ came 12 40 ∷ came 13 44 ∷ []

abbrev pub in_traffic : ℕ
in_traffic = traffic_window (apart_in (J busy) 3) busy.m

pub record TrafficSharp : Type 0 where
  pub even : Spaced busy 3
  pub lawful : Lawful busy (apart_in (J busy) 3) missed caught
  pub right : Gives busy caught (new in_traffic (time_of busy)) (up_at_first (indices caught))
  -- One less: 13 is a rogue at its first arrival.
  pub window-less : Gives busy caught (new (in_traffic - 1) (time_of busy)) (up ∷ rogue ∷ up ∷ up ∷ [])

-- ---- a receiver that is started again

-- What comes up to the n-th tick, and behind it.
unfoldable pub up_to : (n : ℕ) → List Event → List Event
up_to zero es = []
up_to (suc n) [] = []
up_to (suc n) (came x a ∷ es) = came x a ∷ up_to (suc n) es
up_to (suc n) (ticked c ∷ es) = ticked c ∷ up_to n es

unfoldable pub behind : (n : ℕ) → List Event → List Event
behind zero es = es
behind (suc n) [] = []
behind (suc n) (came x a ∷ es) = behind (suc n) es
behind (suc n) (ticked c ∷ es) = behind n es

-- On the line of `Sharp`: 65534 and 65535 are handed up in the old life, the second of them as soon as it may come, just before the end.
unfoldable pub old_life : List Event
old_life = came 65534 131070 ∷ ticked 131071 ∷ came 65535 131072 ∷ []

unfoldable pub new_life : List Event
new_life =
    ticked 131072  -- in the same instant, and only 1 behind the last old tick
    ∷ ticked 131074
    ∷ came 65534 131075
    ∷ ticked 131076
    ∷ came 65537 131076
    ∷ came 65535 131077  -- the latest that it may come
    ∷ came 65537 131078
    ∷ came 65538 131078
    ∷ ticked 131078  -- the fourth. 65537 and 65538 have come, and come no more: they are lost
    ∷ came 65536 131079
    ∷ ticked 131080
    ∷ ticked 131082
    ∷ ticked 131084
    ∷ came 65542 131086  -- 65539 is lost on the line, and 65540 and 65541 are overtaken: 6 ahead
    ∷ ticked 131086
    ∷ came 65540 131087
    ∷ came 65541 131089
    ∷ came 65542 131091
    ∷ []

abbrev pub wait_ticks : ℕ
wait_ticks = least_wait (J line) line.tau

abbrev pub again_window : ℕ
again_window = traffic_window b line.m

-- Opened behind so many ticks: the verdicts, and what is handed up in both lives.
pub record OpenedBehind (n window : ℕ) (vs : List Verdict) (handed : List ℕ) : Type 0 where
  pub gives : Gives line (behind n new_life) (new window R) vs
  pub both : handed_of (up_at_first (indices old_life)) (indices old_life) ++ handed_of vs (indices (behind n new_life)) ≡ handed

pub record AgainSharp : Type 0 where
  pub old : Gives line old_life (new L R) (up_at_first (indices old_life))
  -- The old ticks are struck: with them two ticks would be less than tau apart.
  pub lawful : Lawful line b (copies_in old_life) new_life
  pub not-struck : kept line 0 0 (old_life ++ new_life) ≡ false
  pub whole : up_to wait_ticks new_life ++ behind wait_ticks new_life ≡ new_life
  pub as_long : ticks_in (up_to wait_ticks new_life) ≡ wait_ticks
  pub right : OpenedBehind wait_ticks again_window (up_at_first (indices (behind wait_ticks new_life))) (65534 ∷ 65535 ∷ 65536 ∷ 65542 ∷ 65540 ∷ 65541 ∷ [])
  -- A tick less: 65535 is handed up in both lives.
  pub wait-less : OpenedBehind (wait_ticks - 1) again_window (up ∷ up ∷ duplicate ∷ up ∷ up ∷ up ∷ up ∷ up ∷ duplicate ∷ [])
      (65534 ∷ 65535 ∷ 65537 ∷ 65535 ∷ 65538 ∷ 65536 ∷ 65542 ∷ 65540 ∷ 65541 ∷ [])
  -- No wait: 65534 is, too.
  pub at_once : OpenedBehind 0 again_window (up ∷ up ∷ up ∷ duplicate ∷ up ∷ up ∷ up ∷ up ∷ up ∷ duplicate ∷ [])
      (65534 ∷ 65535 ∷ 65534 ∷ 65537 ∷ 65535 ∷ 65538 ∷ 65536 ∷ 65542 ∷ 65540 ∷ 65541 ∷ [])
  -- L one less: 65542 is a rogue at its first arrival.
  pub window-less : OpenedBehind wait_ticks (again_window - 1) (up ∷ rogue ∷ up ∷ up ∷ up ∷ []) (65534 ∷ 65535 ∷ 65536 ∷ 65540 ∷ 65541 ∷ 65542 ∷ [])
