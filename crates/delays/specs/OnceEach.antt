-- From the delays to exactly once: what holds of a vector stream whose L and R are chosen by the formulas. Each statement is of runs
-- of calls (`log` of a receiver) and of runs with batches (`log_steps`). Assumes nothing.
use Rattle.std.specs.Prelude.{ℕ, zero, suc, ◌+◌, ◌-◌, ◌≤◌, ◌<◌, ◌≡◌, Bool, true, ◌&&◌, not, List, [], ◌∷◌, ◌++◌, map, leb}
use Rattle.refusal.specs.Checks.Said.{answers}
use Rattle.std.specs.Prelude.{if◌then◌else◌}
use Rattle.record.specs.Sizes.{vector_rule}
use Rattle.stream.specs.Record.{lawful}
use Rattle.stream.specs.Decisions.{Verdict, up, duplicate}
use Rattle.calls.specs.Table.{Table, at}
use Rattle.calls.specs.Calls.{opening, placed}
use Rattle.demands.specs.Receiver.{Receiver}
use Rattle.demands.specs.Seen.{Seen, arrived, tick, ended, nothing, numbers, verdicts}
use Rattle.demands.specs.Unlimited.{elem}
use Rattle.demands.specs.Demand3.{number_of}
use Rattle.demands.specs.Corollaries.{handed_of, distinct}
use Rattle.demands.specs.Missed.{all_close, firsts, ExactlyOnce, FreshVector}
use Rattle.delays.specs.Formulas.{apart_in, least_window, traffic_window, least_time, span}
use Rattle.delays.specs.Line.{Known, most, J, Sends, Spaced, Event, came, ticked, indices, Keeps, frequent, Loses}
use Rattle.delays.specs.Forgetting.{forgetting, all_near_since}

-- ---- what a stream sees, with times

-- By kind: a copy of one of its frames, a tick, or its end, which is a closing or a reset by call. (A refused call is none of these.)
pub data Kind : Type 0 where
  copy : Kind
  beat : Kind
  close : Kind

unfoldable pub kinds : List Seen → List Kind
kinds [] = []
kinds (arrived n v ∷ es) = copy ∷ kinds es
kinds (tick b ∷ es) = beat ∷ kinds es
kinds (ended ∷ es) = close ∷ kinds es
kinds (nothing ∷ es) = kinds es

abbrev pub kind_of : Event → Kind
kind_of (came x a) = copy
kind_of (ticked c) = beat

-- What the stream in a slot sees of runs of any kind,
abbrev pub Sees : Type 0 → Type 0
Sees A = (slot : ℕ) → Table → A → List Seen

-- and that these are the events of a run: so the stream is neither closed nor reset by call in it. (A tick may reset it.)
pub record Timed {A : Type 0} (sees : Sees A) (t : Table) (i : ℕ) (run : A) (es : List Event) : Type 0 where
  pub order : kinds (sees i t run) ≡ map kind_of es
  -- "a frame's number is its index modulo 65536"
  pub numbered : numbers (sees i t run) ≡ map number_of (indices es)

-- ---- exactly once

-- Each index is handed up at its first arrival, and every later one is a duplicate: so none is a rogue.
abbrev pub up_at_first : (indices : List ℕ) → List Verdict
up_at_first indices = map (λ (first : Bool). if first then up else duplicate) (firsts [] indices)

-- That is order 8's "exactly once".
abbrev pub UpAtFirstIsOnce : Type 0
UpAtFirstIsOnce = (indices : List ℕ) → ExactlyOnce (up_at_first indices) indices

-- The window that is needed from a fresh stream on, where `before` came before: nothing did if it is open before its sender sends.
abbrev pub window_for : (before : List Event) (b m : ℕ) → ℕ
window_for [] b m = least_window b m
window_for (e ∷ es) b m = traffic_window b m

-- From a fresh stream on, across its resets by tick. (It is fresh after an open, after a reset by call and after a reset by tick, as
-- the one that follows an outage: `BeginsFresh` of `demands`. Then `before` is what came since that outage.)
abbrev pub OnceEach : {A : Type 0} → Sees A → Type 0
OnceEach {A} sees =
    (k : Known) (b : ℕ) (still : List ℕ) (before es : List Event) (t : Table) (i : ℕ) (run : A)
    → FreshVector (at t i) → Timed sees t i run es
    → Sends k (J k) b → Keeps k 0 (before ++ es) → Loses k still (before ++ es)
    → window_for before b k.m ≤ (at t i).window
    → least_time (J k) k.tau ≤ (at t i).time
    → verdicts (sees i t run) ≡ up_at_first (indices es)

-- Of an even sender b is J / T, and the same of any other time.
abbrev pub SpacedSends : Type 0
SpacedSends = (k : Known) (T d : ℕ) → Spaced k T → Sends k d (apart_in d T)

-- So, in the words of docs/INTEGRATION.md: with T, J, m and tau, and L and R by the formulas, exactly once.
abbrev pub OnceEachEven : {A : Type 0} → Sees A → Type 0
OnceEachEven {A} sees =
    (k : Known) (T : ℕ) (still : List ℕ) (before es : List Event) (t : Table) (i : ℕ) (run : A)
    → FreshVector (at t i) → Timed sees t i run es
    → Spaced k T → Keeps k 0 (before ++ es) → Loses k still (before ++ es)
    → window_for before (apart_in (J k) T) k.m ≤ (at t i).window
    → least_time (J k) k.tau ≤ (at t i).time
    → ExactlyOnce (verdicts (sees i t run)) (indices es)

-- From an open with L and R on.
abbrev pub OnceEachOpened : {A : Type 0} → Receiver → Sees A → Type 0
OnceEachOpened {A} receive sees =
    (k : Known) (b : ℕ) (still : List ℕ) (before es : List Event) (dest : List ℕ) (vlan window time : ℕ) (t u : Table) (i : ℕ) (run : A)
    → (receive t (opening dest vlan vector_rule window time)).said ≡ answers (placed i)
    → (receive t (opening dest vlan vector_rule window time)).table ≡ u
    → Timed sees u i run es
    → Sends k (J k) b → Keeps k 0 (before ++ es) → Loses k still (before ++ es)
    → window_for before b k.m ≤ window
    → least_time (J k) k.tau ≤ time
    → verdicts (sees i u run) ≡ up_at_first (indices es)

-- A run may end anywhere: of a run that keeps to a line every beginning does, and of what comes later a copy may yet come. So these
-- statements hold all along an endless run.
abbrev pub BeginningsKeep : Type 0
BeginningsKeep =
    (k : Known) (still : List ℕ) (es later : List Event) → Keeps k 0 (es ++ later) → Loses k still (es ++ later)
    → Keeps k 0 es × Loses k (indices later ++ still) es

-- Why, first: the window holds. This is what order 8 asks for (`NothingMissed`).
abbrev pub WindowHolds : Type 0
WindowHolds =
    (k : Known) (b : ℕ) (still : List ℕ) (es : List Event) (window : ℕ) → Sends k (J k) b → Keeps k 0 es → Loses k still es
    → least_window b k.m ≤ window
    → all_close window [] (indices es) ≡ true

-- Second: demand 3 holds across resets by tick.
abbrev pub DecidesAcross : {A : Type 0} → Sees A → Type 0
DecidesAcross {A} sees =
    (t : Table) (i : ℕ) (run : A) (es : List Event) → FreshVector (at t i) → Timed sees t i run es
    → all_near_since (at t i).window (at t i).time 0 [] es ≡ true
    → verdicts (sees i t run) ≡ forgetting (at t i).window (at t i).time 0 [] es

-- Third: a reset by tick comes behind the last copy of what it forgets, since fewer than R ticks fall between two copies of one index.

-- Behind the first so many ticks there is no copy of x.
unfoldable pub none_behind : (ticks x : ℕ) → List Event → Bool
none_behind zero x es = not (elem x (indices es))
none_behind (suc n) x [] = true
none_behind (suc n) x (came y a ∷ es) = none_behind (suc n) x es
none_behind (suc n) x (ticked c ∷ es) = none_behind n x es

-- Between two copies of one index there are fewer ticks than so many.
unfoldable pub fewer_between : (ticks : ℕ) → List Event → Bool
fewer_between n [] = true
fewer_between n (came x a ∷ es) = none_behind n x es && fewer_between n es
fewer_between n (ticked c ∷ es) = fewer_between n es

abbrev pub FewerTicks : Type 0
FewerTicks = (k : Known) (start : ℕ) (es : List Event) → Keeps k start es → fewer_between (least_time (J k) k.tau) es ≡ true

-- ---- outages: any number may be lost in a row

-- "None is taken for another": each arrival is judged by its index, by the receiver that forgets nothing but at a reset by tick; and
-- none is handed up twice, before and after resets.
pub record Judged (window time : ℕ) (vs : List Verdict) (es : List Event) : Type 0 where
  pub verdicts : vs ≡ forgetting window time 0 [] es
  pub once : distinct (handed_of vs (indices es)) ≡ true

-- That is so whatever the times are, if fewer than R ticks fall between two copies of one index and the numbers do not come round: also
-- where ticks come too soon now and then, as long as R is more than fall there.
abbrev pub NoneTwice : {A : Type 0} → Sees A → Type 0
NoneTwice {A} sees =
    (t : Table) (i : ℕ) (run : A) (es : List Event) → FreshVector (at t i) → Timed sees t i run es
    → fewer_between (at t i).time es ≡ true
    → all_near_since (at t i).window (at t i).time 0 [] es ≡ true
    → Judged (at t i).window (at t i).time (verdicts (sees i t run)) es

-- By the delays, and how often ticks come:
abbrev pub NoneForAnother : {A : Type 0} → Sees A → Type 0
NoneForAnother {A} sees =
    (k : Known) (c start : ℕ) (es : List Event) (t : Table) (i : ℕ) (run : A)
    → FreshVector (at t i) → Timed sees t i run es
    → Keeps k start es → frequent k.tau_most (start + k.tau_most) es ≡ true
    → least_time (J k) k.tau ≤ (at t i).time
    → Sends k (span (at t i).time k.tau_most (J k)) c → c ≤ 65536 - (at t i).window
    → Judged (at t i).window (at t i).time (verdicts (sees i t run)) es

-- ---- a sender that restarts

-- The times do not fall, and no copy comes later than this.
unfoldable pub copies_by : (now latest : ℕ) → List Event → Bool
copies_by now latest [] = true
copies_by now latest (came x a ∷ es) = leb now a && leb a latest && copies_by a latest es
copies_by now latest (ticked c ∷ es) = leb now c && copies_by c latest es

-- k is the line with the new count. A vector stream in any state; `old` is a run until the first copy of that count comes, x at the
-- time a, and es is what the stream sees of it: of all that was sent up to `last`, in the old count, no copy comes later than the
-- largest delay behind that; and ticks go on.
pub record Silence {A : Type 0} (sees : Sees A) (k : Known) (start last x a : ℕ) (es : List Event) (t : Table) (i : ℕ) (old : A) : Type 0 where
  pub vector : (at t i).rule ≡ vector_rule
  pub lawful : lawful (at t i) ≡ true
  pub order : kinds (sees i t old) ≡ map kind_of es
  pub begun : start ≤ last + most k
  pub over : copies_by start (last + most k) es ≡ true
  pub ticks : frequent k.tau_most (start + k.tau_most) (es ++ came x a ∷ []) ≡ true

-- If x was sent more than R tau_most + J behind the last of the old count, the new one is exactly once from its first copy on.
abbrev pub OnceEachRestarted : {A : Type 0} → Sees A → (ran : Table → A → Table) → Type 0
OnceEachRestarted {A} sees ran =
    (k : Known) (b : ℕ) (still : List ℕ) (start last x a : ℕ) (was es : List Event) (t : Table) (i : ℕ) (old new : A)
    → Silence sees k start last x a was t i old
    → last + span (at t i).time k.tau_most (J k) < k.sent x
    → Timed sees (ran t old) i new (came x a ∷ es)
    → Sends k (J k) b → Keeps k 0 (came x a ∷ es) → Loses k still (came x a ∷ es)
    → least_window b k.m ≤ (at t i).window
    → least_time (J k) k.tau ≤ (at t i).time
    → verdicts (sees i (ran t old) new) ≡ up_at_first (x ∷ indices es)
