-- Against premises that are too weak or too strong, and against a promise that says too little: runs with numbers of what `Missed`
-- says, of the receiver that the definitions give and of two wrong ones. Where nothing else is said L = 4, R = 3, and rogue is 0 and
-- lost 2^64 - 1 before. Assumes nothing.
use Rattle.std.specs.Prelude.{ℕ, zero, suc, ◌+◌, ◌-◌, ◌≡◌, Bool, true, false, replicate}
use mathlib.Core.List.{List, [], ◌∷◌, ◌++◌, map, flat_map}
use Rattle.refusal.specs.Checks.Said.{refused, answers}
use Rattle.refusal.specs.Numbers.{TABLE, NETWORK, UNKNOWN, DAMAGED, ROOM}
use Rattle.std.specs.Prelude.{if◌then◌else◌}
use Rattle.record.specs.Words.{yes}
use Rattle.record.specs.Sizes.{vector_rule, match_rule}
use Rattle.stream.specs.Record.{fresh, lawful, closed}
use Rattle.stream.specs.Decisions.{Case, first, far, again, late, next, moved, case_of, Verdict, up, duplicate, rogue, out_of_order, losses, with, tally, verdict, decided}
use Rattle.calls.specs.Table.{Table, blank, at}
use Rattle.calls.specs.Calls.{Call, arriving, opening, closing, resetting, ticking, placed, done, out_of}
use Rattle.batch.specs.Laws.{preceded}
use Rattle.demands.specs.Receiver.{Receiver, the_receiver, run}
use Rattle.demands.specs.Seen.{was_reset, Seen, arrived, tick, ended, nothing, log, numbers, verdicts, lasting, every}
use Rattle.demands.specs.Unlimited.{apart}
use Rattle.demands.specs.Demand3.{number_of}
use Rattle.demands.specs.Corollaries.{handed_of, distinct}
use Rattle.demands.specs.Steps.{Step, single, batch, the_machine, ran_steps, read_as, log_steps}
use Rattle.demands.specs.Missed.{all_close, firsts, NoneMissed, Unbroken, arrival_of, arrivals, refused_arrivals, NothingMissed, SeenOrRefused, refusals, RefusedWith}
use Rattle.demands.specs.Wrong.{deciding, finds_duplicates, marks_nothing, hands_up_all}
use Rattle.demands.specs.Examples.{address, frame, from, stream, alone}
use Rattle.demands.specs.Needed.{All, AllBut}
use Rattle.lost_runs.specs.LostRuns.{begin, sent, most}

-- ---- what is asked, and no more

-- Of the stream in slot i, with these refused arrivals and those numbers: 0 vector, 1 lawful, 2 take-any, 3 lasts, 4 none refused,
-- 5 numbered, 6 close.
abbrev pub asked : Table → (slot : ℕ) → (calls : List Call) → (turned came indices : List ℕ) → List (Type 0)
asked t i calls turned came indices =
    ((at t i).rule ≡ vector_rule)
    ∷ (lawful (at t i) ≡ true)
    ∷ (yes (at t i).state.any ≡ true)
    ∷ (every lasting (log the_receiver i t calls) ≡ true)
    ∷ (turned ≡ [])
    ∷ (came ≡ map number_of indices)
    ∷ (all_close (at t i).window [] indices ≡ true)
    ∷ []

-- by `NothingMissed`, of all that arrives
abbrev pub premises_of : Table → (slot : ℕ) → (calls : List Call) → (indices : List ℕ) → List (Type 0)
premises_of t i calls indices = asked t i calls (refused_arrivals the_receiver i t calls) (arrivals the_receiver i t calls) indices

abbrev pub MissesNone : Table → (slot : ℕ) → (calls : List Call) → (indices : List ℕ) → Type 0
MissesNone t i calls indices = NoneMissed (at t i) (at (run the_receiver t calls) i) (verdicts (log the_receiver i t calls)) indices

abbrev pub StepsMissNone : Table → (slot : ℕ) → (steps : List Step) → (indices : List ℕ) → Type 0
StepsMissNone t i steps indices = NoneMissed (at t i) (at (ran_steps the_machine t steps) i) (verdicts (log_steps the_machine i t steps)) indices

-- Where these hold it is so, in every slot: none of the four statements asks for more, and those over the log not for 4.
pub record MissedPremisesAre : Type 0 where
  pub arriving : (t : Table) (i : ℕ) (calls : List Call) (indices : List ℕ) → All (premises_of t i calls indices) → MissesNone t i calls indices
  pub seen : (t : Table) (i : ℕ) (calls : List Call) (indices : List ℕ)
      → All (asked t i calls [] (numbers (log the_receiver i t calls)) indices) → MissesNone t i calls indices
  pub steps : (t : Table) (i : ℕ) (steps : List Step) (indices : List ℕ)
      → All (premises_of t i (read_as the_machine t steps) indices) → StepsMissNone t i steps indices
  pub seen-steps : (t : Table) (i : ℕ) (steps : List Step) (indices : List ℕ)
      → All (asked t i (read_as the_machine t steps) [] (numbers (log_steps the_machine i t steps)) indices) → StepsMissNone t i steps indices

-- ---- runs that meet the premises

-- What the stream in slot 0 sees, and its counters rogue and lost afterwards.
pub record Shows (t : Table) (calls : List Call) (indices : List ℕ) (es : List Seen) (rogues losts : ℕ) : Type 0 where
  pub premises : All (premises_of t 0 calls indices)
  pub given : log the_receiver 0 t calls ≡ es
  pub rogue : (at (run the_receiver t calls) 0).counts.rogue ≡ rogues
  pub lost : (at (run the_receiver t calls) 0).counts.lost ≡ losts

-- One network is dead: 1 gives nothing. 0 loses 10, 13 and 14, which so never arrive; at the end 10 counts as lost.
unfoldable pub dead : List Call
dead =
    from 0 1 7
    ∷ from 0 1 8
    ∷ ticking
    ∷ from 0 1 9
    ∷ from 0 1 11
    ∷ from 0 1 12
    ∷ ticking
    ∷ from 0 1 15
    ∷ []

unfoldable pub dead_indices : List ℕ
dead_indices = 7 ∷ 8 ∷ 9 ∷ 11 ∷ 12 ∷ 15 ∷ []

-- Pairs are swapped, over the wrap: each copy that comes first is handed up, whichever network brings it. Among them calls that are
-- no arrivals of this stream: a frame that no stream has the key of, a tick, a refused close, a frame without a tag.
unfoldable pub swapped : List Call
swapped =
    from 0 1 65534
    ∷ from 1 1 65533
    ∷ from 0 1 65533
    ∷ from 1 2 40000
    ∷ from 1 1 65534
    ∷ from 1 1 0
    ∷ ticking
    ∷ from 0 1 0
    ∷ closing 9
    ∷ from 0 1 65535
    ∷ arriving 0 (address 1 ++ (2 ∷ 0 ∷ 0 ∷ 0 ∷ 0 ∷ 9 ∷ 8 ∷ 0 ∷ [])) []
    ∷ from 1 1 65535
    ∷ []

unfoldable pub swapped_indices : List ℕ
swapped_indices = 65534 ∷ 65533 ∷ 65533 ∷ 65534 ∷ 65536 ∷ 65536 ∷ 65535 ∷ 65535 ∷ []

-- The run that docs/FOR-THE-PHYSICIST draws: swapped pairs on 0, then 1 is cut, and 65537 is lost on 0.
unfoldable pub drawn : List Call
drawn =
    from 0 1 65534
    ∷ from 0 1 65533
    ∷ from 1 1 65533
    ∷ from 1 1 65534
    ∷ from 0 1 0
    ∷ from 0 1 65535
    ∷ from 1 1 65535
    ∷ from 0 1 2
    ∷ ticking
    ∷ from 0 1 4
    ∷ from 0 1 3
    ∷ from 0 1 6
    ∷ from 0 1 5
    ∷ []

unfoldable pub drawn_indices : List ℕ
drawn_indices = 65534 ∷ 65533 ∷ 65533 ∷ 65534 ∷ 65536 ∷ 65535 ∷ 65535 ∷ 65538 ∷ 65540 ∷ 65539 ∷ 65542 ∷ 65541 ∷ []

pub record MissedShown : Type 0 where
  pub dead : Shows begin dead dead_indices
      (arrived 7 up ∷ arrived 8 up ∷ tick false ∷ arrived 9 up ∷ arrived 11 up ∷ arrived 12 up ∷ tick false ∷ arrived 15 up ∷ [])
      0 0
  pub swapped : Shows begin swapped swapped_indices
      (arrived 65534 up ∷ arrived 65533 up ∷ arrived 65533 duplicate ∷ nothing ∷ arrived 65534 duplicate ∷ arrived 0 up ∷ tick false
      ∷ arrived 0 duplicate ∷ nothing ∷ arrived 65535 up ∷ nothing ∷ arrived 65535 duplicate ∷ [])
      0 most
  pub drawn : Shows begin drawn drawn_indices
      (arrived 65534 up ∷ arrived 65533 up ∷ arrived 65533 duplicate ∷ arrived 65534 duplicate ∷ arrived 0 up ∷ arrived 65535 up
      ∷ arrived 65535 duplicate ∷ arrived 2 up ∷ tick false ∷ arrived 4 up ∷ arrived 3 up ∷ arrived 6 up ∷ arrived 5 up ∷ [])
      0 0
  -- Arrivals of another stream are refused: it is damaged, and one names a network that is neither 0 nor 1.
  pub beside : Shows (begin ++ (stream 2 vector_rule 1 3 fresh ∷ [])) (from 0 1 7 ∷ from 0 2 5 ∷ from 2 2 6 ∷ from 0 1 8 ∷ []) (7 ∷ 8 ∷ [])
      (arrived 7 up ∷ nothing ∷ nothing ∷ arrived 8 up ∷ []) 0 most
  -- No arrival at all.
  pub silent : Shows begin (ticking ∷ []) [] (tick false ∷ []) 0 most

-- ---- the bound: "less than L" is met by runs, and sharp

-- A table with one fresh stream.
abbrev pub windowed : (window : ℕ) → Table
windowed window = stream 1 vector_rule window 3 fresh ∷ []

-- L - 1 from the highest that arrived: handed up.
pub record JustClose (window one two : ℕ) : Type 0 where
  pub within : apart two one ≡ window - 1
  pub shown : Shows (windowed window) (sent (one ∷ two ∷ [])) (one ∷ two ∷ []) (arrived (number_of one) up ∷ arrived (number_of two) up ∷ []) 0 most

-- ---- the premises one by one

-- A run that breaks one premise alone: what the stream sees of it, and which arrivals should be handed up.
pub record Breaks (place : ℕ) (t : Table) (calls : List Call) (indices : List ℕ) (es : List Seen) (ups : List Bool) : Type 0 where
  pub broken : AllBut place (premises_of t 0 calls indices)
  pub given : log the_receiver 0 t calls ≡ es
  pub wanted : firsts [] indices ≡ ups

-- L from it: a rogue.
pub record NotClose (window one two : ℕ) : Type 0 where
  pub beyond : apart two one ≡ window
  pub close : Breaks 6 (windowed window) (sent (one ∷ two ∷ [])) (one ∷ two ∷ []) (arrived (number_of one) up ∷ arrived (number_of two) rogue ∷ []) (true ∷ true ∷ [])

-- n indices from x on, each L - 1 ahead of the one before, for L = 512
unfoldable pub strides : (n x : ℕ) → List ℕ
strides zero x = []
strides (suc n) x = x ∷ strides n (x + 511)

-- Ahead and behind, over the wrap, at the least window, at 4 and at the greatest; from the first index on, and in the third round.
pub record ClosePinned : Type 0 where
  pub reached : JustClose 2 65535 65536 × JustClose 2 65536 65535
      × JustClose 4 65535 65538 × JustClose 4 65538 65535
      × JustClose 512 65535 66046 × JustClose 512 66046 65535
      × JustClose 4 0 3 × JustClose 4 196610 196607
  -- A run may come round: 66430 is more than 65536 ahead of the first.
  pub round : all_close 512 [] (strides 131 0) ≡ true
  pub sharp : NotClose 2 65535 65537 × NotClose 2 65537 65535
      × NotClose 4 65535 65539 × NotClose 4 65539 65535
      × NotClose 512 65535 66047 × NotClose 512 66047 65535

pub record MissedPremisesNeeded : Type 0 where
  -- a match stream forgets all but the last number
  pub matching : Breaks 0 (stream 1 match_rule 4 3 fresh ∷ []) (sent (7 ∷ 8 ∷ 7 ∷ [])) (7 ∷ 8 ∷ 7 ∷ []) (arrived 7 up ∷ arrived 8 up ∷ arrived 7 up ∷ []) (true ∷ true ∷ false ∷ [])
  -- an open fills a free slot, which had L = 4, with a stream of L = 2
  pub free : Breaks 1 (closed (stream 1 vector_rule 4 3 fresh) ∷ []) (opening (address 1) 0 vector_rule 2 3 ∷ sent (7 ∷ 10 ∷ [])) (7 ∷ 10 ∷ []) (nothing ∷ arrived 7 up ∷ arrived 10 rogue ∷ []) (true ∷ true ∷ [])
  -- a stream that has handed up 9
  pub begun : Breaks 2 (alone 4 3 3) (sent (9 ∷ [])) (9 ∷ []) (arrived 9 duplicate ∷ []) (true ∷ [])
  -- a reset by tick, a reset by call, and a close with an open after it, let an index be handed up again
  pub ticked : Breaks 3 begin (from 0 1 7 ∷ ticking ∷ ticking ∷ ticking ∷ from 1 1 7 ∷ []) (7 ∷ 7 ∷ []) (arrived 7 up ∷ tick false ∷ tick false ∷ tick true ∷ arrived 7 up ∷ []) (true ∷ false ∷ [])
  pub reset : Breaks 3 begin (from 0 1 7 ∷ resetting 0 ∷ from 1 1 7 ∷ []) (7 ∷ 7 ∷ []) (arrived 7 up ∷ ended ∷ arrived 7 up ∷ []) (true ∷ false ∷ [])
  pub reopened : Breaks 3 begin (from 0 1 7 ∷ closing 0 ∷ opening (address 1) 0 vector_rule 4 3 ∷ from 1 1 7 ∷ []) (7 ∷ 7 ∷ []) (arrived 7 up ∷ ended ∷ nothing ∷ arrived 7 up ∷ []) (true ∷ false ∷ [])
  -- an arrival that is refused for want of room, or because its network is neither 0 nor 1, is a hole
  pub no_room : Breaks 4 begin (from 0 1 27 ∷ arriving 0 (frame 1 28) (replicate 13 0) ∷ from 0 1 29 ∷ []) (27 ∷ 28 ∷ 29 ∷ []) (arrived 27 up ∷ nothing ∷ arrived 29 up ∷ []) (true ∷ true ∷ true ∷ [])
  pub no-network : Breaks 4 begin (from 0 1 27 ∷ from 2 1 28 ∷ from 0 1 29 ∷ []) (27 ∷ 28 ∷ 29 ∷ []) (arrived 27 up ∷ nothing ∷ arrived 29 up ∷ []) (true ∷ true ∷ true ∷ [])
  -- two indices that carry the same number
  pub renumbered : Breaks 5 begin (sent (7 ∷ 7 ∷ [])) (7 ∷ 8 ∷ []) (arrived 7 up ∷ arrived 7 duplicate ∷ []) (true ∷ true ∷ [])
  -- 11 comes exactly L ahead, and its twin is lost: a rogue, missed for good. At the end it counts as lost,
  pub ahead : Breaks 6 begin (sent (7 ∷ 11 ∷ 8 ∷ 9 ∷ 10 ∷ 12 ∷ 13 ∷ 14 ∷ 15 ∷ [])) (7 ∷ 11 ∷ 8 ∷ 9 ∷ 10 ∷ 12 ∷ 13 ∷ 14 ∷ 15 ∷ [])
      (arrived 7 up ∷ arrived 11 rogue ∷ arrived 8 up ∷ arrived 9 up ∷ arrived 10 up ∷ arrived 12 up ∷ arrived 13 up ∷ arrived 14 up ∷ arrived 15 up ∷ [])
      (true ∷ true ∷ true ∷ true ∷ true ∷ true ∷ true ∷ true ∷ true ∷ [])
  pub ahead-lost : (at (run the_receiver begin (sent (7 ∷ 11 ∷ 8 ∷ 9 ∷ 10 ∷ 12 ∷ 13 ∷ 14 ∷ 15 ∷ []))) 0).counts.lost ≡ 0
  -- and 7 comes exactly L behind.
  pub behind : Breaks 6 begin (sent (8 ∷ 11 ∷ 7 ∷ [])) (8 ∷ 11 ∷ 7 ∷ []) (arrived 8 up ∷ arrived 11 up ∷ arrived 7 rogue ∷ []) (true ∷ true ∷ true ∷ [])

-- ---- which calls are arrivals of a stream

pub record ArrivalsShown : Type 0 where
  -- refused with each of the four numbers
  pub four : refusals ≡ 1 ∷ 2 ∷ 7 ∷ 8 ∷ []
  pub many-slots : (arrival_of 0 (begin ++ replicate 64 blank) (from 0 1 7) ≡ 7 ∷ []) × ((the_receiver (begin ++ replicate 64 blank) (from 0 1 7)).said ≡ refused TABLE)
  pub no-network : (arrival_of 0 begin (from 2 1 7) ≡ 7 ∷ []) × ((the_receiver begin (from 2 1 7)).said ≡ refused NETWORK)
  pub damaged : (arrival_of 0 (alone 1 3 3) (from 0 1 7) ≡ 7 ∷ []) × ((the_receiver (alone 1 3 3) (from 0 1 7)).said ≡ refused DAMAGED)
  pub no_room : (arrival_of 0 begin (arriving 0 (frame 1 7) (replicate 13 0)) ≡ 7 ∷ []) × ((the_receiver begin (arriving 0 (frame 1 7) (replicate 13 0))).said ≡ refused ROOM)
  -- none: no tag, a group source, another key, and the stream's own key where a lower slot has it too
  pub untagged : arrival_of 0 begin (arriving 0 (address 1 ++ (2 ∷ 0 ∷ 0 ∷ 0 ∷ 0 ∷ 9 ∷ 8 ∷ 0 ∷ [])) []) ≡ []
  pub grouped : arrival_of 0 begin (arriving 0 (address 1 ++ (3 ∷ 0 ∷ 0 ∷ 0 ∷ 0 ∷ 9 ∷ 0xF1 ∷ 0xC1 ∷ 0 ∷ 0 ∷ 0 ∷ 7 ∷ 8 ∷ 0 ∷ [])) (replicate 14 0)) ≡ []
  pub other_key : (arrival_of 0 begin (from 0 2 7) ≡ []) × (arrival_of 1 begin (from 0 2 7) ≡ [])
  pub lower-slot : (arrival_of 1 (begin ++ begin) (from 0 1 7) ≡ []) × (arrival_of 0 (begin ++ begin) (from 0 1 7) ≡ 7 ∷ [])

-- ---- runs that begin: what `BeginsFresh` asks for is met

pub record BeginsShown : Type 0 where
  pub opened : (the_receiver (blank ∷ []) (opening (address 1) 0 vector_rule 4 3)).said ≡ answers (placed 0)
  pub reset : (the_receiver (alone 4 3 3) (resetting 0)).said ≡ answers done
  pub ticked : was_reset (at (alone 4 3 1) 0) (at (the_receiver (alone 4 3 1) ticking).table 0) ≡ true

-- ---- with batches

-- The drawn run: its first two pairs and what comes behind the tick in batches, the rest in single calls.
unfoldable pub drawn_steps : List Step
drawn_steps =
    batch (record { network = 0; count = 2; frames = flat_map preceded (frame 1 65534 ∷ frame 1 65533 ∷ []); out = replicate 32 9 })
    ∷ batch (record { network = 1; count = 2; frames = flat_map preceded (frame 1 65533 ∷ frame 1 65534 ∷ []); out = replicate 32 9 })
    ∷ single (from 0 1 0)
    ∷ single (from 0 1 65535)
    ∷ single (from 1 1 65535)
    ∷ single (from 0 1 2)
    ∷ single ticking
    ∷ batch (record { network = 0; count = 4; frames = flat_map preceded (frame 1 4 ∷ frame 1 3 ∷ frame 1 6 ∷ frame 1 5 ∷ []); out = replicate 64 9 })
    ∷ []

-- A batch that ends at its second frame for want of room.
unfoldable pub cut_steps : List Step
cut_steps = batch (record { network = 0; count = 3; frames = flat_map preceded (frame 1 27 ∷ frame 1 28 ∷ frame 1 29 ∷ []); out = replicate 31 9 }) ∷ []

-- Batches that are refused whole: the network is neither 0 nor 1, and a length runs past the buffer.
unfoldable pub whole_steps : List Step
whole_steps =
    batch (record { network = 2; count = 1; frames = preceded (frame 1 27); out = replicate 16 9 })
    ∷ batch (record { network = 0; count = 2; frames = preceded (frame 1 27); out = replicate 16 9 })
    ∷ []

pub record MissedStepsShown : Type 0 where
  pub premises : Unbroken the_receiver begin 0 (read_as the_machine begin drawn_steps) (arrivals the_receiver 0 begin (read_as the_machine begin drawn_steps)) drawn_indices
  pub none-refused : refused_arrivals the_receiver 0 begin (read_as the_machine begin drawn_steps) ≡ []
  pub given : verdicts (log_steps the_machine 0 begin drawn_steps)
      ≡ up ∷ up ∷ duplicate ∷ duplicate ∷ up ∷ up ∷ duplicate ∷ up ∷ up ∷ up ∷ up ∷ up ∷ []
  -- 28 is a refused arrival, and 29, which is not reached, is none;
  pub cut-arrivals : arrivals the_receiver 0 begin (read_as the_machine begin cut_steps) ≡ 27 ∷ 28 ∷ []
  pub cut-refused : refused_arrivals the_receiver 0 begin (read_as the_machine begin cut_steps) ≡ 28 ∷ []
  -- nor is a frame of a batch that is refused whole.
  pub whole : read_as the_machine begin whole_steps ≡ []

-- ---- "exactly once" says more than "at most once"

-- The same premises, and that no index is handed up twice.
abbrev pub AtMostOnce : Receiver → Type 0
AtMostOnce receive =
    (t : Table) (i : ℕ) (calls : List Call) (indices : List ℕ)
    → Unbroken receive t i calls (arrivals receive i t calls) indices → refused_arrivals receive i t calls ≡ []
    → distinct (handed_of (verdicts (log receive i t calls)) indices) ≡ true

-- A receiver that hands up nothing, since it finds every arrival a duplicate, fulfils that.
pub record HandsUpNothing : Type 0 where
  pub at-most-once : AtMostOnce finds_duplicates
  pub misses : NothingMissed finds_duplicates → ⊥

-- A receiver that hands up only what is higher than all before, and finds a late number a duplicate,
abbrev pub is_late : Case → Bool
is_late first = false
is_late far = false
is_late again = false
is_late (late k) = true
is_late (next d) = false
is_late (moved in_order) = false

unfoldable pub only_higher : Receiver
only_higher = deciding (λ s n. if is_late (case_of s n) then duplicate else verdict s n) (λ s n network.
    if is_late (case_of s n) then with s s.state (tally s.counts network duplicate false 0) else decided s n network)

-- doubles nothing in the drawn run, and misses the second of each pair.
pub record OnlyHigher : Type 0 where
  pub given : handed_of (verdicts (log only_higher 0 begin drawn)) drawn_indices ≡ 65534 ∷ 65536 ∷ 65538 ∷ 65540 ∷ 65542 ∷ []
  pub misses : NothingMissed only_higher → ⊥

-- One that finds a duplicate a rogue hands up what it should,
abbrev pub harsh : Verdict → Verdict
harsh up = up
harsh duplicate = rogue
harsh rogue = rogue

unfoldable pub duplicate_is_rogue : Receiver
duplicate_is_rogue = deciding (λ s n. harsh (verdict s n)) (λ s n network.
    with s (decided s n network).state (tally s.counts network (harsh (verdict s n)) (out_of_order (case_of s n)) (losses s (case_of s n))))

-- and so does one that counts no loss.
unfoldable pub counts_no_loss : Receiver
counts_no_loss = deciding verdict (λ s n network.
    with s (decided s n network).state (tally s.counts network (verdict s n) (out_of_order (case_of s n)) 0))

-- No promise of `NoneMissed` is there for nothing: the proof that a receiver is ruled out goes by one alone. `misses` of
-- `HandsUpNothing` goes by each, that of `OnlyHigher` by at-first, and these by once, sums, no-rogue and lost.
pub record RuledOutByOne : Type 0 where
  pub marks-nothing : NothingMissed marks_nothing → ⊥
  pub hands-up-all : NothingMissed hands_up_all → ⊥
  pub duplicate-is-rogue : NothingMissed duplicate_is_rogue → ⊥
  pub counts-no-loss : NothingMissed counts_no_loss → ⊥

-- Nor are the two laws on refused arrivals there for nothing: they rule out a receiver that answers an arrival and tells no slot, and one that refuses
-- every call with 6.
unfoldable pub says_done : Receiver
says_done t c = record { said = answers done; table = t; output = out_of c }

unfoldable pub finds_unknown : Receiver
finds_unknown t c = record { said = refused UNKNOWN; table = t; output = out_of c }

pub record NoneDropped : Type 0 where
  pub says-done : SeenOrRefused says_done → ⊥
  pub finds-unknown : RefusedWith finds_unknown → ⊥
