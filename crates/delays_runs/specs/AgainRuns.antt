-- A receiver that is started again: what its statements ask for and give, written out, for each premise that the wait brings in a run
-- with numbers that breaks it alone, of the receiver that the definitions give, and three lives. (The other premises are those of `OnceEachOpened`:
-- `DelaysNeeded`; L, R and the wait at their bounds: `AgainSharp` of `delays`.) Assumes nothing.
use Rattle.std.specs.Prelude.{ℕ, ◌+◌, ◌-◌, ◌/◌, ◌≤◌, ◌≡◌, true, false, drop, replicate}
use mathlib.Core.List.{List, [], ◌∷◌, ◌++◌, map, flat_map}
use Rattle.refusal.specs.Checks.Said.{answers}
use Rattle.record.specs.Sizes.{vector_rule}
use Rattle.stream.specs.Decisions.{Verdict, up}
use Rattle.calls.specs.Table.{Table}
use Rattle.calls.specs.Calls.{opening, placed}
use Rattle.batch.specs.Laws.{preceded}
use Rattle.demands.specs.Receiver.{Receiver, the_receiver}
use Rattle.demands.specs.Seen.{log, verdicts}
use Rattle.demands.specs.Unlimited.{elem}
use Rattle.demands.specs.Corollaries.{handed_of, distinct}
use Rattle.demands.specs.Steps.{Step, single, batch, the_machine, log_steps}
use Rattle.demands.specs.Examples.{frame}
use Rattle.demands.specs.Needed.{AllBut}
use Rattle.delays.specs.Line.{Known, J, Sends, Spaced, Event, came, ticked, indices, kept, Keeps, end, Loses}
use Rattle.delays.specs.Forgetting.{forgetting}
use Rattle.delays.specs.OnceEach.{Sees, Timed, up_at_first, window_for, fewer_between}
use Rattle.delays.specs.StartedAgain.{copies_in, ticks_in, NextLife, handed_in_all, EachWaits}
use Rattle.delays.specs.Least.{even}
use Rattle.delays.specs.ByNumber.{new, calls, time_of, Gives, line, L, R, old_life, new_life, up_to, behind, wait_ticks, again_window}
use Rattle.delays_runs.specs.DelaysRuns.{level}

-- ---- written out

-- Of a stream, in any slot.
pub record WrittenAgain {A : Type 0} (receive : Receiver) (sees : Sees A) : Type 0 where
  pub again : (k : Known) (b : ℕ) (still handed : List ℕ) (old wait es : List Event) (dest : List ℕ) (vlan window time : ℕ) (t : Table) (i : ℕ) (run : A)
      → (receive t (opening dest vlan vector_rule window time)).said ≡ answers (placed i)
      → Timed sees (receive t (opening dest vlan vector_rule window time)).table i run es
      → distinct handed ≡ true → ((x : ℕ) → elem x handed ≡ true → elem x (indices old) ≡ true)
      → Sends k (J k) b → Keeps k 0 (copies_in old ++ wait ++ es) → Loses k still (copies_in old ++ wait ++ es)
      → J k / k.tau + 2 ≤ ticks_in wait → b + b + k.m + 2 ≤ window → J k / k.tau + 2 ≤ time
      → (verdicts (sees i (receive t (opening dest vlan vector_rule window time)).table run) ≡ up_at_first (indices es))
      × ((x : ℕ) → elem x (indices old) ≡ true → elem x (indices es) ≡ false)
      × (distinct (handed ++ handed_of (verdicts (sees i (receive t (opening dest vlan vector_rule window time)).table run)) (indices es)) ≡ true)
      × ((x : ℕ) → elem x (handed_of (verdicts (sees i (receive t (opening dest vlan vector_rule window time)).table run)) (indices es)) ≡ elem x (indices es))
  -- The old life in the slot j of t, from an open in s on, the new one in the slot i of u, from an open in r on.
  pub lives : (k : Known) (b : ℕ) (still : List ℕ) (before was wait es : List Event)
      (dest₀ : List ℕ) (vlan₀ window₀ time₀ : ℕ) (s t : Table) (j : ℕ) (old : A)
      (dest : List ℕ) (vlan window time : ℕ) (r u : Table) (i : ℕ) (new : A)
      → (receive s (opening dest₀ vlan₀ vector_rule window₀ time₀)).said ≡ answers (placed j)
      → (receive s (opening dest₀ vlan₀ vector_rule window₀ time₀)).table ≡ t
      → Timed sees t j old was
      → (receive r (opening dest vlan vector_rule window time)).said ≡ answers (placed i)
      → (receive r (opening dest vlan vector_rule window time)).table ≡ u
      → Timed sees u i new es
      → Sends k (J k) b → Keeps k 0 (before ++ was) → Keeps k (end 0 (before ++ was)) (wait ++ es) → Loses k still (before ++ was ++ wait ++ es)
      → window_for before b k.m ≤ window₀ → J k / k.tau + 2 ≤ time₀
      → J k / k.tau + 2 ≤ ticks_in wait → b + b + k.m + 2 ≤ window → J k / k.tau + 2 ≤ time
      → (verdicts (sees j t old) ≡ up_at_first (indices was))
      × (verdicts (sees i u new) ≡ up_at_first (indices es))
      × (distinct (handed_of (verdicts (sees j t old)) (indices was) ++ handed_of (verdicts (sees i u new)) (indices es)) ≡ true)
      × ((x : ℕ) → elem x (handed_of (verdicts (sees j t old)) (indices was) ++ handed_of (verdicts (sees i u new)) (indices es)) ≡ elem x (indices was ++ indices es))

pub record AgainPremisesAre : Type 0 where
  pub calls : WrittenAgain the_receiver (log the_receiver)
  pub steps : WrittenAgain the_receiver (log_steps the_machine)
  pub behind-wait : (n : ℕ) (old wait es : List Event) → fewer_between n (copies_in old ++ wait ++ es) ≡ true → n ≤ ticks_in wait
      → (x : ℕ) → elem x (indices old) ≡ true → elem x (indices es) ≡ false
  pub handed : (vs : List Verdict) (xs : List ℕ) (x : ℕ) → elem x (handed_of vs xs) ≡ true → elem x xs ≡ true
  pub over-lives : (n : ℕ) (old wait es : List Event) (handed : List ℕ) (vs : List Verdict)
      → fewer_between n (copies_in old ++ wait ++ es) ≡ true → n ≤ ticks_in wait
      → distinct handed ≡ true → ((x : ℕ) → elem x handed ≡ true → elem x (indices old) ≡ true)
      → distinct (handed_of vs (indices es)) ≡ true
      → distinct (handed ++ handed_of vs (indices es)) ≡ true
  pub least : (T q j tau m n : ℕ) → 1 ≤ T → 1 ≤ tau → n ≤ j / tau + 1
      → (old : List Event) × (wait : List Event) × (es : List Event)
      × Spaced (even T q j tau m) T
      × Keeps (even T q j tau m) 0 (copies_in old ++ wait ++ es)
      × Loses (even T q j tau m) [] (copies_in old ++ wait ++ es)
      × (ticks_in wait ≡ n)
      × ((window time : ℕ) → distinct (handed_of (forgetting window time 0 [] old) (indices old) ++ handed_of (forgetting window time 0 [] es) (indices es)) ≡ false)

-- ---- with a batch

-- The new life of `AgainSharp` from the open on, its first frame in a batch.
unfoldable pub again_steps : List Step
again_steps =
    batch (record { network = 1; count = 1; frames = flat_map preceded (frame 1 0 ∷ []); out = replicate 32 9 })
    ∷ map single (drop 1 (calls line (behind wait_ticks new_life)))

-- ---- the premises of the wait, one by one

-- What the wait asks for: 0 some, 1 kept, 2 as many ticks as R.
abbrev pub asked_of_wait : (k : Known) (old wait es : List Event) → List (Type 0)
asked_of_wait k old wait es = (1 ≤ k.tau) ∷ (kept k 0 0 (copies_in old ++ wait ++ es) ≡ true) ∷ (time_of k ≤ ticks_in wait) ∷ []

-- A run that breaks one alone: index 0 comes in the old life, at `first`, and again at `last`, behind ticks at these times. It is handed
-- up in both lives.
unfoldable pub beats_at : List ℕ → List Event
beats_at [] = []
beats_at (c ∷ cs) = ticked c ∷ beats_at cs

pub record Twice (place : ℕ) (k : Known) (window time first last : ℕ) (beats : List ℕ) : Type 0 where
  pub broken : AllBut place (asked_of_wait k (came 0 first ∷ []) (beats_at beats) (came 0 last ∷ []))
  pub old : Gives k (came 0 first ∷ []) (new window time) (up ∷ [])
  pub new : Gives k (came 0 last ∷ []) (new window time) (up ∷ [])

pub record AgainNeeded : Type 0 where
  -- On the line of `Sharp` 0 comes from 2 to 7. A copy in the new life one later than it may come, and one in the old life sooner;
  pub late : Twice 1 line L R 2 8 (2 ∷ 4 ∷ 6 ∷ 8 ∷ [])
  pub sooner : Twice 1 line L R 1 7 (1 ∷ 3 ∷ 5 ∷ 7 ∷ [])
  -- a tick of the wait one too soon, and tau = 0;
  pub ticks : Twice 1 line L R 2 7 (2 ∷ 4 ∷ 6 ∷ 7 ∷ [])
  pub no-tau : Twice 0 (level (λ x. x) 0 0) 2 2 0 0 (0 ∷ 0 ∷ [])
  -- a copy that is called out of the order of its time; a wait that begins before the old life ends;
  pub disordered : Twice 1 line L R 2 7 (2 ∷ 4 ∷ 6 ∷ 8 ∷ [])
  pub overlap : Twice 1 line L R 3 7 (1 ∷ 3 ∷ 5 ∷ 7 ∷ [])
  -- a tick less than R.
  pub fewer : Twice 2 line L R 2 7 (2 ∷ 4 ∷ 6 ∷ [])
  -- Where a tick comes too soon, as many fall between two copies as R has, and a wait of one more is enough: `NoneBehindWait` asks for no
  -- times.
  pub as_many : (fewer_between R (came 0 2 ∷ beats_at (2 ∷ 4 ∷ 6 ∷ 7 ∷ []) ++ (came 0 7 ∷ [])) ≡ false)
      × (fewer_between (R + 1) (came 0 2 ∷ beats_at (2 ∷ 4 ∷ 6 ∷ 7 ∷ []) ++ (came 0 7 ∷ ticked 9 ∷ [])) ≡ true)
  -- In the run of `AgainSharp`: an index that was handed up twice before, and one that was handed up and came in no life before.
  pub handed-twice : distinct (65535 ∷ 65535 ∷ handed_of (up_at_first (indices (behind wait_ticks new_life))) (indices (behind wait_ticks new_life))) ≡ false
  pub not-come : (elem 65536 (indices old_life) ≡ false)
      × (distinct (65536 ∷ handed_of (up_at_first (indices (behind wait_ticks new_life))) (indices (behind wait_ticks new_life))) ≡ false)
  -- A life that hands an index up twice.
  pub life-twice : distinct (handed_of (up ∷ up ∷ []) (0 ∷ 0 ∷ [])) ≡ false

-- ---- three lives

-- On the line of `Sharp` 4 is sent at 8 and comes from 10 to 15; the ticks begin anew with each life. Opened behind so many ticks of the
-- third.
unfoldable pub third_life : List Event
third_life = ticked 11 ∷ ticked 13 ∷ ticked 15 ∷ came 4 15 ∷ ticked 17 ∷ came 8 18 ∷ []

abbrev pub later_lives : (n : ℕ) (vs : List Verdict) → List NextLife
later_lives n vs =
    record { wait = beats_at (2 ∷ 4 ∷ 6 ∷ 8 ∷ []); since = came 4 10 ∷ ticked 10 ∷ []; verdicts = up ∷ [] }
    ∷ record { wait = up_to n third_life; since = behind n third_life; verdicts = vs }
    ∷ []

pub record ThreeLives : Type 0 where
  pub first : Gives line (came 0 2 ∷ []) (new L R) (up ∷ [])
  pub second : Gives line (came 4 10 ∷ ticked 10 ∷ []) (new again_window R) (up ∷ [])
  pub third : Gives line (behind wait_ticks third_life) (new again_window R) (up ∷ [])
  pub keeps : Keeps line 0 (came 0 2 ∷ came 4 10 ∷ third_life)
  -- The old ticks are struck: with the one at 10 there would be as many as R between two copies of 4.
  pub not-struck : fewer_between wait_ticks (came 4 10 ∷ ticked 10 ∷ third_life) ≡ false
  pub waits : EachWaits wait_ticks (came 0 2 ∷ []) (later_lives wait_ticks (up ∷ []))
  pub once : distinct (handed_in_all (0 ∷ []) (later_lives wait_ticks (up ∷ []))) ≡ true
  pub all : handed_in_all (0 ∷ []) (later_lives wait_ticks (up ∷ [])) ≡ 0 ∷ 4 ∷ 8 ∷ []
  -- The last wait one tick shorter: 4 is handed up in two lives.
  pub shorter : Gives line (behind (wait_ticks - 1) third_life) (new again_window R) (up ∷ up ∷ [])
  pub twice : handed_in_all (0 ∷ []) (later_lives (wait_ticks - 1) (up ∷ up ∷ [])) ≡ 0 ∷ 4 ∷ 4 ∷ 8 ∷ []
