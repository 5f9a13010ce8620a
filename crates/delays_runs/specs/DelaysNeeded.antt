-- Against premises that are there for nothing: for each premise of the statements of `delays` a run with numbers that breaks it alone,
-- of the receiver that the definitions give. Assumes nothing.
use Rattle.std.specs.Prelude.{ℕ, suc, ◌+◌, ◌-◌, ◌*◌, ◌/◌, ◌≤◌, ◌<◌, ◌≡◌, true, false, List, [], ◌∷◌, ◌++◌, map}
use Rattle.refusal.specs.Checks.Said.{answers}
use Rattle.record.specs.Sizes.{vector_rule}
use Rattle.record.specs.declared.Stream.{Stream}
use Rattle.frame.specs.Frame.{dest_of}
use Rattle.stream.specs.Record.{lawful, opened}
use Rattle.stream.specs.Decisions.{Verdict, up, duplicate, rogue}
use Rattle.calls.specs.Table.{Table, at}
use Rattle.calls.specs.Calls.{Call, opening, closing, resetting, placed}
use Rattle.demands.specs.Receiver.{the_receiver, run}
use Rattle.demands.specs.Seen.{Seen, log, numbers, verdicts}
use Rattle.demands.specs.Demand3.{number_of}
use Rattle.demands.specs.Corollaries.{handed_of, distinct}
use Rattle.demands.specs.Missed.{FreshVector, ExactlyOnce}
use Rattle.demands.specs.Steps.{the_machine, log_steps}
use Rattle.demands.specs.Examples.{address, from}
use Rattle.demands.specs.Needed.{All, AllBut}
use Rattle.delays.specs.Formulas.{apart_in, least_window, span}
use Rattle.delays.specs.Line.{Known, most, J, Sends, Spaced, Event, came, ticked, indices, kept, Keeps, frequent, Loses}
use Rattle.delays.specs.Forgetting.{forgetting, all_near_since}
use Rattle.delays.specs.OnceEach.{Sees, kinds, kind_of, Timed, up_at_first, window_for, fewer_between, copies_by}
use Rattle.delays.specs.ByNumber.{new, calls, time_of, Lawful, Gives, line, traffic, b, L, R}
use Rattle.delays_runs.specs.DelaysRuns.{beats, slow, outage, around, slow_window, hole, old, again, pause, level}

-- ---- of `OnceEach`, one by one

-- What `OnceEach` asks for, of a record and of what its stream sees: 0 fresh, 1 order, 2 numbered, 3 sends, 4 some, 5 kept, 6 loses,
-- 7 window, 8 time. (`Sharp` has runs that break 7 and 8.)
abbrev pub asked : (k : Known) (b : ℕ) (still : List ℕ) (before es : List Event) → Stream → List Seen → List (Type 0)
asked k b still before es s seen =
    FreshVector s
    ∷ (kinds seen ≡ map kind_of es)
    ∷ (numbers seen ≡ map number_of (indices es))
    ∷ Sends k (J k) b
    ∷ (1 ≤ k.tau)
    ∷ (kept k 0 0 (before ++ es) ≡ true)
    ∷ Loses k still (before ++ es)
    ∷ (window_for before b k.m ≤ s.window)
    ∷ (time_of k ≤ s.time)
    ∷ []

-- It asks for no more, in any slot; and what the other statements ask for and give, written out.
pub record Written {A : Type 0} (sees : Sees A) : Type 0 where
  pub each : (k : Known) (b : ℕ) (still : List ℕ) (before es : List Event) (t : Table) (i : ℕ) (run : A)
      → All (asked k b still before es (at t i) (sees i t run)) → verdicts (sees i t run) ≡ up_at_first (indices es)
  pub even : (k : Known) (T : ℕ) (still : List ℕ) (before es : List Event) (t : Table) (i : ℕ) (run : A)
      → FreshVector (at t i) → Timed sees t i run es → Spaced k T → Keeps k 0 (before ++ es) → Loses k still (before ++ es)
      → window_for before (J k / T) k.m ≤ (at t i).window → J k / k.tau + 2 ≤ (at t i).time
      → ExactlyOnce (verdicts (sees i t run)) (indices es)
  pub twice : (t : Table) (i : ℕ) (run : A) (es : List Event) → FreshVector (at t i) → Timed sees t i run es
      → fewer_between (at t i).time es ≡ true → all_near_since (at t i).window (at t i).time 0 [] es ≡ true
      → (verdicts (sees i t run) ≡ forgetting (at t i).window (at t i).time 0 [] es) × (distinct (handed_of (verdicts (sees i t run)) (indices es)) ≡ true)
  pub another : (k : Known) (c start : ℕ) (es : List Event) (t : Table) (i : ℕ) (run : A)
      → FreshVector (at t i) → Timed sees t i run es → Keeps k start es → frequent k.tau_most (start + k.tau_most) es ≡ true
      → time_of k ≤ (at t i).time → Sends k (span (at t i).time k.tau_most (J k)) c → c ≤ 65536 - (at t i).window
      → (verdicts (sees i t run) ≡ forgetting (at t i).window (at t i).time 0 [] es) × (distinct (handed_of (verdicts (sees i t run)) (indices es)) ≡ true)

-- By single calls and with batches; from an open on; and the ticks between two copies.
pub record DelaysPremisesAre : Type 0 where
  pub calls : Written (log the_receiver)
  pub steps : Written (log_steps the_machine)
  pub opened : (k : Known) (b : ℕ) (still : List ℕ) (before es : List Event) (dest : List ℕ) (vlan window time : ℕ) (t : Table) (i : ℕ) (calls : List Call)
      → (the_receiver t (opening dest vlan vector_rule window time)).said ≡ answers (placed i)
      → All (asked k b still before es (opened (dest_of dest) vlan vector_rule window time) (log the_receiver i (the_receiver t (opening dest vlan vector_rule window time)).table calls))
      → verdicts (log the_receiver i (the_receiver t (opening dest vlan vector_rule window time)).table calls) ≡ up_at_first (indices es)
  pub fewer : (k : Known) (start : ℕ) (es : List Event) → 1 ≤ k.tau → kept k start 0 es ≡ true → fewer_between (J k / k.tau + 2) es ≡ true

-- A run that breaks one alone, its verdicts and those that it should have.
pub record Breaks (place : ℕ) (k : Known) (b : ℕ) (es : List Event) (t : Table) (calls : List Call) (vs ws : List Verdict) : Type 0 where
  pub broken : AllBut place (asked k b [] [] es (at t 0) (log the_receiver 0 t calls))
  pub given : verdicts (log the_receiver 0 t calls) ≡ vs
  pub wanted : up_at_first (indices es) ≡ ws

-- with L and R by the formulas, and the calls of these events
abbrev pub Fails : (place : ℕ) (k : Known) (b : ℕ) (es : List Event) (vs ws : List Verdict) → Type 0
Fails place k b es = Breaks place k b es (new (least_window b k.m) (time_of k)) (calls k es)

-- On the line of `Sharp`: 0, four ticks, the last of which at c, and 0 again at a;
unfoldable pub twice : (c a : ℕ) → List Event
twice c a = came 0 2 ∷ ticked 2 ∷ ticked 4 ∷ ticked 6 ∷ ticked c ∷ came 0 a ∷ []

-- 3 is lost, and 7 comes one sooner than it may, in the instant of 4;
unfoldable pub sooner : List Event
sooner = came 2 6 ∷ came 7 15 ∷ came 4 15 ∷ came 6 16 ∷ came 5 17 ∷ []

-- 0, and then x.
unfoldable pub pair : (x : ℕ) → List Event
pair x = came 0 2 ∷ came x 4 ∷ []

-- A sender that sends 1 and 2 at 0, then 0 at 100, and 3, 4 and 5 at 101.
unfoldable pub falling : Known
falling = level (λ x. 100 * (1 - x) + 101 * (x / 3)) 1 0

unfoldable pub fallen : List Event
fallen = came 1 0 ∷ came 2 0 ∷ ticked 1 ∷ ticked 2 ∷ came 0 100 ∷ came 5 101 ∷ came 3 101 ∷ came 4 101 ∷ []

pub record DelaysNeeded : Type 0 where
  -- a copy one later than it may come, and one sooner;
  pub late : Fails 5 line b (twice 8 8) (up ∷ up ∷ []) (up ∷ duplicate ∷ [])
  pub sooner : Fails 5 line b sooner (up ∷ rogue ∷ up ∷ up ∷ up ∷ []) (up ∷ up ∷ up ∷ up ∷ up ∷ [])
  -- a call out of the order of its time;
  pub disordered : Fails 5 line b (twice 8 7) (up ∷ up ∷ []) (up ∷ duplicate ∷ [])
  -- a tick one too soon, and tau = 0;
  pub ticks : Fails 5 line b (twice 7 7) (up ∷ up ∷ []) (up ∷ duplicate ∷ [])
  pub no-tau : Fails 4 (level (λ x. x) 0 0) 0 (came 0 0 ∷ ticked 0 ∷ ticked 0 ∷ came 0 0 ∷ []) (up ∷ up ∷ []) (up ∷ duplicate ∷ [])
  -- m + 1 lost in a row;
  pub lost : Fails 6 line b hole (up ∷ rogue ∷ up ∷ up ∷ []) (up ∷ up ∷ up ∷ duplicate ∷ [])
  -- T = 0, where the rest of `Spaced` is met, and a lower index that is sent later, where the rest of `Sends` is met;
  pub not-apart : (x : ℕ) → (level (λ x. 0) 1 0).sent x + 0 ≤ (level (λ x. 0) 1 0).sent (suc x)
  pub no-T : Fails 3 (level (λ x. 0) 1 0) (apart_in 0 0) (came 0 0 ∷ came 2 0 ∷ came 1 0 ∷ []) (up ∷ rogue ∷ up ∷ []) (up ∷ up ∷ up ∷ [])
  pub within : (x n : ℕ) → falling.sent (x + n) ≤ falling.sent x + J falling → n ≤ 2
  pub falls : Fails 3 falling 2 fallen (up ∷ up ∷ up ∷ rogue ∷ up ∷ up ∷ []) (up ∷ up ∷ up ∷ up ∷ up ∷ up ∷ [])
  -- index 1 with the number 0;
  pub number : Breaks 2 line b (pair 1) (new L R) (calls line (pair 0)) (up ∷ duplicate ∷ []) (up ∷ up ∷ [])
  -- a reset by call, and a close with an open behind it;
  pub reset : Breaks 1 line b (pair 0) (new L R) (from 0 1 0 ∷ resetting 0 ∷ from 1 1 0 ∷ []) (up ∷ up ∷ []) (up ∷ duplicate ∷ [])
  pub reopened : Breaks 1 line b (pair 0) (new L R) (from 0 1 0 ∷ closing 0 ∷ opening (address 1) 0 vector_rule L R ∷ from 1 1 0 ∷ []) (up ∷ up ∷ [])
      (up ∷ duplicate ∷ [])
  -- a stream that has handed up an index.
  pub begun : Breaks 0 line b (came 0 4 ∷ []) (run the_receiver (new L R) (calls line (came 0 2 ∷ []))) (calls line (came 0 4 ∷ []))
      (duplicate ∷ []) (up ∷ [])

-- ---- of `NoneTwice`: as many ticks as R

pub record FewerNeeded : Type 0 where
  -- With R by the formula fewer fall between two copies (`FewerTicks`), and in the run of `Sharp` by no more than one.
  pub least : (fewer_between R traffic ≡ true) × (fewer_between (R - 1) traffic ≡ false)
  -- Four ticks between two copies, since one comes too soon (`ticks` of `DelaysNeeded`): as many as R.
  pub as_many : fewer_between R (twice 7 7) ≡ false
  pub wrong : Gives line (twice 7 7) (new L R) (up ∷ up ∷ [])
  -- R one more, as the receivers of host/ have it
  pub fewer : fewer_between (R + 1) (twice 7 7) ≡ true
  pub near : all_near_since L (R + 1) 0 [] (twice 7 7) ≡ true
  pub right : Gives line (twice 7 7) (new L (R + 1)) (up ∷ duplicate ∷ [])
  -- numbers that come round, and no index twice: `wrong` of `RoundSharp`
  pub round : (fewer_between 10 (outage 2) ≡ true) × (all_near_since (slow_window 2) 10 0 [] (outage 2) ≡ false)

-- ---- of `NoneForAnother`: ticks that stay away

-- The tenth tick is one later than it may be, and just before it comes an index that is one further than the last of `outage 1`.
unfoldable pub tardy : List Event
tardy = ticked 1 ∷ came 0 1 ∷ beats 9 1 6553 ++ (came 65532 65532 ∷ ticked 65532 ∷ came 65536 65536 ∷ [])

-- What `NoneForAnother` asks for but for `frequent`: 65532 is taken for a late one, and 65536 for the duplicate of 0.
pub record TicksNeeded : Type 0 where
  pub keeps : Keeps (slow 1) 0 tardy
  pub broken : frequent (slow 1).tau_most (slow 1).tau_most tardy ≡ false
  pub long : time_of (slow 1) ≤ 10
  pub sends : Sends (slow 1) (span 10 (slow 1).tau_most (J (slow 1))) (around 1 10)
  pub near : around 1 10 ≤ 65536 - slow_window 1
  pub gives : Gives (slow 1) tardy (new (slow_window 1) 10) (up ∷ up ∷ duplicate ∷ [])
  pub wanted : forgetting (slow_window 1) 10 0 [] tardy ≡ up ∷ rogue ∷ up ∷ []

-- ---- of `OnceEachRestarted`: no silence

-- The old count of `Restart`, up to its last copy.
unfoldable pub older : List Event
older = ticked 7 ∷ came 0 7 ∷ ticked 9 ∷ came 1 9 ∷ ticked 11 ∷ came 2 11 ∷ []

-- The same, where the last copy comes later than it may, just behind a tick; and three ticks.
unfoldable pub overdue : List Event
overdue = ticked 7 ∷ came 0 7 ∷ ticked 9 ∷ came 1 9 ∷ ticked 11 ∷ ticked 13 ∷ came 2 13 ∷ beats 3 13 2

-- Silent for longer than R tau_most + J: the new count begins when it does in `right` of `Restart`, and its 0 comes at 20.
abbrev pub renewed : Known
renewed = again (pause + 1)

unfoldable pub anew : List Event
anew = came 0 20 ∷ ticked 20 ∷ came 1 22 ∷ []

-- What it asks for of the old count: 0 vector, 1 lawful, 2 order, 3 begun, 4 over, 5 ticks.
abbrev pub silent : (start : ℕ) → Table → (was : List Event) → List (Type 0)
silent start t was =
    ((at t 0).rule ≡ vector_rule)
    ∷ (lawful (at t 0) ≡ true)
    ∷ (kinds (log the_receiver 0 t (calls line was)) ≡ map kind_of was)
    ∷ (start ≤ line.sent 2 + most renewed)
    ∷ (copies_by start (line.sent 2 + most renewed) was ≡ true)
    ∷ (frequent renewed.tau_most (start + renewed.tau_most) (was ++ came 0 20 ∷ []) ≡ true)
    ∷ []

-- A run that breaks one alone. The new 0 comes before the fourth tick, and is taken for the old one: a command is lost.
pub record SilenceBreaks (place start : ℕ) (t : Table) (was : List Event) : Type 0 where
  pub broken : AllBut place (silent start t was)
  pub timed : Timed (log the_receiver) (run the_receiver t (calls line was)) 0 (calls renewed anew) anew
  pub given : verdicts (log the_receiver 0 (run the_receiver t (calls line was)) (calls renewed anew)) ≡ duplicate ∷ up ∷ []

pub record SilenceNeeded : Type 0 where
  pub longer : line.sent 2 + pause < renewed.sent 0
  pub kept : Lawful renewed b [] anew
  pub wanted : up_at_first (indices anew) ≡ up ∷ up ∷ []
  -- looked at from 12 on, one too late, and so the tick at 14, one later than it may come, is not seen to be late;
  pub begun : SilenceBreaks 3 12 (run the_receiver (new L R) (calls line older)) (beats 3 12 2)
  -- an old copy that comes too late;
  pub over : SilenceBreaks 4 5 (new L R) overdue
  -- no tick at 19.
  pub ticks : SilenceBreaks 5 5 (new L R) old
