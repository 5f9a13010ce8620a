-- Against premises that cannot be met, and against formulas that are too small: runs with numbers of what `delays` says, of the
-- receiver that the definitions give. L, R and the silence of a sender that restarts are written by their formulas. `ByNumber` of
-- `delays` has two more. Assumes nothing.
use Rattle.std.specs.Prelude.{ℕ, zero, suc, ◌+◌, ◌-◌, ◌*◌, ◌/◌, ◌≤◌, ◌<◌, ◌≡◌, true, drop, replicate}
use mathlib.Core.List.{List, [], ◌∷◌, ◌++◌, map, flat_map}
use Rattle.stream.specs.Decisions.{Verdict, up, duplicate, rogue}
use Rattle.calls.specs.Table.{Table, at}
use Rattle.batch.specs.Laws.{preceded}
use Rattle.demands.specs.Receiver.{the_receiver, run}
use Rattle.demands.specs.Seen.{log, verdicts}
use Rattle.demands.specs.Missed.{FreshVector}
use Rattle.demands.specs.Steps.{Step, single, batch, the_machine, log_steps}
use Rattle.demands.specs.Examples.{frame}
use Rattle.delays.specs.Formulas.{apart_in, least_window, span}
use Rattle.delays.specs.Line.{Known, J, Sends, Spaced, Event, came, ticked, indices, Keeps, frequent, Loses}
use Rattle.delays.specs.Forgetting.{forgetting}
use Rattle.delays.specs.OnceEach.{Timed, up_at_first, Judged, Silence}
use Rattle.delays.specs.ByNumber.{new, calls, time_of, Lawful, Gives, line, traffic, b, L, R, busy, caught, in_traffic}

-- ---- the numbers come round

-- So many ticks, each tau behind the one before; the first is that much behind `now`.
unfoldable pub beats : (n now tau : ℕ) → List Event
beats zero now tau = []
beats (suc n) now tau = ticked (now + tau) ∷ beats n (now + tau) tau

-- A frame each 1, a tick each 6553, and delays that differ by j: L is 5 if j is 1 or 2.
unfoldable pub slow : (j : ℕ) → Known
slow j = record { sent = λ x. x; least0 = 0; most0 = 0; least1 = j; most1 = j; tau = 6553; tau_most = 6553; m = 3 - j }

-- 0 comes as late as it may, just behind a tick. Then none comes, until just before the tenth tick one that was sent in that instant.
unfoldable pub outage : (j : ℕ) → List Event
outage j = ticked j ∷ came 0 j ∷ beats 9 j 6553 ++ (came (j + 65530) (j + 65530) ∷ ticked (j + 65530) ∷ came 65536 65536 ∷ [])

abbrev pub around : (j time : ℕ) → ℕ
around j time = apart_in (span time (slow j).tau_most (J (slow j))) 1

abbrev pub slow_window : (j : ℕ) → ℕ
slow_window j = least_window (apart_in (J (slow j)) 1) (slow j).m

-- What `NoneForAnother` asks for but for the last inequality, and the verdicts.
pub record Out (j time : ℕ) (vs : List Verdict) : Type 0 where
  pub keeps : Keeps (slow j) 0 (outage j)
  pub often : frequent (slow j).tau_most (slow j).tau_most (outage j) ≡ true
  pub long : time_of (slow j) ≤ time
  pub sends : Sends (slow j) (span time (slow j).tau_most (J (slow j))) (around j time)
  pub gives : Gives (slow j) (outage j) (new (slow_window j) time) vs

pub record RoundSharp : Type 0 where
  -- Delays that differ by 1, R = 10: exactly as far apart as they may be.
  pub exactly : around 1 10 ≡ 65536 - slow_window 1
  pub right : Out 1 10 (up ∷ rogue ∷ up ∷ [])
  pub judged : Judged (slow_window 1) 10 (up ∷ rogue ∷ up ∷ []) (outage 1)
  -- By 2: one further. 65532 is taken for a late one, and 65536 for the duplicate of 0.
  pub further : around 2 10 ≡ 65536 - slow_window 2 + 1
  pub wrong : Out 2 10 (up ∷ up ∷ duplicate ∷ [])
  pub wanted : forgetting (slow_window 2) 10 0 [] (outage 2) ≡ up ∷ rogue ∷ up ∷ []
  -- R a tick less: the stream is reset before 65532 comes.
  pub less : around 2 9 ≤ 65536 - slow_window 2
  pub right-less : Out 2 9 (up ∷ up ∷ up ∷ [])
  pub judged-less : Judged (slow_window 2) 9 (up ∷ up ∷ up ∷ []) (outage 2)

-- ---- more than m lost in a row

-- On the line of `Sharp` 1 and 2 are lost, and 4. Then 5 comes before 3: it is a rogue, and 3 is not, with no reset between; and 5 is
-- handed up when its other copy comes.
unfoldable pub hole : List Event
hole = came 0 2 ∷ came 5 12 ∷ came 3 13 ∷ came 5 17 ∷ []

pub record HoleSeen : Type 0 where
  pub broken : (still : List ℕ) → Loses line still hole → ⊥
  pub gives : Gives line hole (new L R) (up ∷ rogue ∷ up ∷ up ∷ [])
  pub judged : Judged L R (up ∷ rogue ∷ up ∷ up ∷ []) hole

-- ---- a sender of bursts

-- Three frames in one instant, each 10: within a time 10 there are six.
unfoldable pub bursts : Known
bursts = record { sent = λ x. 10 * (x / 3); least0 = 1; most0 = 1; least1 = 5; most1 = 11; tau = 4; tau_most = 10; m = 1 }

-- 2 is lost, and 8 overtakes the five before it: it comes 7 ahead of 1.
unfoldable pub burst : List Event
burst =
    came 0 1 ∷ came 1 1 ∷ ticked 3 ∷ came 1 5 ∷ ticked 12 ∷ ticked 21
    ∷ came 8 21 ∷ came 3 21 ∷ came 4 21 ∷ came 5 21 ∷ came 6 25 ∷ came 7 31 ∷ came 8 31
    ∷ []

pub record Bursts : Type 0 where
  pub no-T : (T : ℕ) → Spaced bursts T → ⊥
  pub no_less : Sends bursts (J bursts) 4 → ⊥
  pub lawful : Lawful bursts 5 [] burst
  pub right : Gives bursts burst (new (least_window 5 bursts.m) (time_of bursts)) (up_at_first (indices burst))
  -- One less: 8 is a rogue at its first arrival.
  pub window-less : Gives bursts burst (new (least_window 5 bursts.m - 1) (time_of bursts))
      (up ∷ up ∷ duplicate ∷ rogue ∷ up ∷ up ∷ up ∷ up ∷ up ∷ up ∷ [])

-- ---- a sender of bursts, and an outage

-- Four frames in one instant, each 3, a tick each 9829, and delays that differ by 1: within a time 1 there are four.
unfoldable pub volleys : (m : ℕ) → Known
volleys m = record { sent = λ x. 3 * (x / 4); least0 = 0; most0 = 0; least1 = 1; most1 = 1; tau = 9829; tau_most = 9829; m = m }

-- 0 comes as late as it may, just behind a tick. Then none comes, until just before the fifth tick one that was sent in that instant:
-- the last that is sent within R tau + J.
unfoldable pub hush : List Event
hush = ticked 1 ∷ came 0 1 ∷ beats 4 1 9829 ++ (came 65531 49146 ∷ ticked 49146 ∷ came 65536 49152 ∷ [])

abbrev pub volley_span : (m : ℕ) → ℕ
volley_span m = span 5 (volleys m).tau_most (J (volleys m))

abbrev pub volley_window : (m : ℕ) → ℕ
volley_window m = least_window 3 m

-- What `NoneForAnother` asks for but for the last inequality, with R = 5, and the verdicts.
pub record Hushed (m : ℕ) (vs : List Verdict) : Type 0 where
  pub keeps : Keeps (volleys m) 0 hush
  pub often : frequent (volleys m).tau_most (volleys m).tau_most hush ≡ true
  pub long : time_of (volleys m) ≤ 5
  pub sends : Sends (volleys m) (volley_span m) 65531
  pub gives : Gives (volleys m) hush (new (volley_window m) 5) vs

pub record BurstsRound : Type 0 where
  pub no-T : (m T : ℕ) → Spaced (volleys m) T → ⊥
  pub window : (m : ℕ) → Sends (volleys m) (J (volleys m)) 3
  pub no_less : (m : ℕ) → Sends (volleys m) (volley_span m) 65530 → ⊥
  -- Exactly as far apart as they may be.
  pub exactly : 65531 ≡ 65536 - volley_window 0
  pub right : Hushed 0 (up ∷ rogue ∷ up ∷ [])
  pub judged : Judged (volley_window 0) 5 (up ∷ rogue ∷ up ∷ []) hush
  -- L one more, and so one further: 65531 is taken for a late one, and 65536 for the duplicate of 0.
  pub further : 65531 ≡ 65536 - volley_window 1 + 1
  pub wrong : Hushed 1 (up ∷ up ∷ duplicate ∷ [])
  pub wanted : forgetting (volley_window 1) 5 0 [] hush ≡ up ∷ rogue ∷ up ∷ []

-- ---- a sender that restarts

-- The old count, on the line of `Sharp`: 2 is its last, comes as late as it may, and just behind a tick.
unfoldable pub old : List Event
old = ticked 7 ∷ came 0 7 ∷ ticked 9 ∷ came 1 9 ∷ ticked 11 ∷ came 2 11 ∷ beats 3 11 2

-- The same line with a new count, which begins so much later than 2 was sent.
unfoldable pub again : (silent : ℕ) → Known
again silent = record { sent = λ y. line.sent 2 + silent + 2 * y; least0 = 2; most0 = 3; least1 = 4; most1 = 7; tau = 2; tau_most = 2; m = 1 }

abbrev pub pause : ℕ
pause = span R line.tau_most (J line)

-- `was` is what comes before the first copy of the new count, which has the index 0 and comes at a.
pub record Restarts (silent a : ℕ) (was es : List Event) (vs : List Verdict) : Type 0 where
  pub silence : Silence (log the_receiver) (again silent) 5 (line.sent 2) 0 a was (new L R) 0 (calls line was)
  pub timed : Timed (log the_receiver) (run the_receiver (new L R) (calls line was)) 0 (calls (again silent) (came 0 a ∷ es)) (came 0 a ∷ es)
  pub lawful : Lawful (again silent) b [] (came 0 a ∷ es)
  pub given : verdicts (log the_receiver 0 (run the_receiver (new L R) (calls line was)) (calls (again silent) (came 0 a ∷ es))) ≡ vs

pub record Restart : Type 0 where
  -- Silent for longer than R tau + J: the fourth tick comes before 0 does, and so 0 is handed up.
  pub longer : line.sent 2 + pause < (again (pause + 1)).sent 0
  pub right : Restarts (pause + 1) 20 (old ++ (ticked 19 ∷ [])) (ticked 21 ∷ came 1 22 ∷ came 0 25 ∷ []) (up_at_first (0 ∷ 1 ∷ 0 ∷ []))
  -- Silent for as long: 0 comes just before that tick, and is taken for the old one. A command is lost.
  pub as_long : line.sent 2 + pause ≡ (again pause).sent 0
  pub wrong : Restarts pause 19 old (ticked 19 ∷ came 1 21 ∷ []) (duplicate ∷ up ∷ [])

-- ---- after an outage

-- On the line of `TrafficSharp` 1 to 8 are lost. 9 and 11 are rogues; the fourth tick since 0 came resets the stream, between 11 and 10.
unfoldable pub lull : List Event
lull = came 0 0 ∷ ticked 5 ∷ ticked 15 ∷ ticked 25 ∷ []

unfoldable pub back : List Event
back = came 9 31 ∷ came 11 35 ∷ ticked 35 ∷ []

abbrev pub after_lull : (window : ℕ) → Table
after_lull window = run the_receiver (new window (time_of busy)) (calls busy (lull ++ back))

pub record AfterOutage : Type 0 where
  pub broken : (still : List ℕ) → Loses busy still (lull ++ back ++ caught) → ⊥
  pub seen : Gives busy (lull ++ back) (new in_traffic (time_of busy)) (up ∷ rogue ∷ rogue ∷ [])
  -- From that tick on: what came since the outage is `before`.
  pub lawful : Lawful busy (apart_in (J busy) 3) back caught
  pub right : Gives busy caught (after_lull in_traffic) (up_at_first (indices caught))
  -- One less: 13 is a rogue at its first arrival.
  pub window-less : Gives busy caught (after_lull (in_traffic - 1)) (up ∷ rogue ∷ up ∷ up ∷ [])

-- ---- the largest window

-- Delays that are all the same.
unfoldable pub level : (sent : ℕ → ℕ) (tau m : ℕ) → Known
level sent tau m = record { sent = sent; least0 = 0; most0 = 0; least1 = 0; most1 = 0; tau = tau; tau_most = 1000; m = m }

-- 510 lost in a row
unfoldable pub wide : Known
wide = level (λ x. x) 1 510

unfoldable pub far : List Event
far = came 0 0 ∷ came 511 511 ∷ []

abbrev pub wide_window : ℕ
wide_window = least_window (apart_in (J wide) 1) wide.m

pub record Wide : Type 0 where
  pub largest : wide_window ≡ 512
  pub lawful : Lawful wide (apart_in (J wide) 1) [] far
  pub right : Gives wide far (new wide_window (time_of wide)) (up ∷ up ∷ [])
  pub window-less : Gives wide far (new (wide_window - 1) (time_of wide)) (up ∷ rogue ∷ [])

-- ---- with a batch

-- The run of `Sharp`, its first two frames in a batch.
unfoldable pub steps : List Step
steps =
    batch (record { network = 0; count = 2; frames = flat_map preceded (frame 1 65534 ∷ frame 1 65535 ∷ []); out = replicate 32 9 })
    ∷ map single (drop 2 (calls line traffic))

pub record InBatches : Type 0 where
  pub fresh : FreshVector (at (new L R) 0)
  pub timed : Timed (log_steps the_machine) (new L R) 0 steps traffic
  pub given : verdicts (log_steps the_machine 0 (new L R) steps) ≡ up_at_first (indices traffic)
