-- Against premises that are too weak or too strong: demand 3's bound is met by a run and sharp, and each of its premises is
-- needed. Runs with numbers, of the receiver that the definitions give. Assumes nothing.
use Rattle.std.specs.Prelude.{ℕ, zero, suc, ◌-◌, ◌≤◌, ◌≡◌, true, ◌↔◌, List, [], ◌∷◌, map}
use Rattle.record.specs.Sizes.{vector_rule, match_rule}
use Rattle.stream.specs.Record.{lawful, closed}
use Rattle.stream.specs.Decisions.{Verdict, up, duplicate, rogue}
use Rattle.calls.specs.Table.{Table, at}
use Rattle.calls.specs.Calls.{Call, opening, closing, resetting, ticking}
use Rattle.demands.specs.Receiver.{Receiver, the_receiver, run}
use Rattle.demands.specs.Seen.{log, numbers, ticks, calm, lasting, every}
use Rattle.demands.specs.Unlimited.{apart, all_near}
use Rattle.demands.specs.Demand3.{number_of, Premises}
use Rattle.demands.specs.Examples.{address, from, stream, since, ours, theirs, alone, silence, two}

-- ---- the bound

-- The bound 65536 - L is met: after a gap two arrivals, exactly so far apart, meet the premises. The second is a rogue.
pub record JustWithin (window first second : ℕ) : Type 0 where
  pub within : apart second first ≡ 65536 - window
  pub premises : Premises the_receiver (alone window 3 3) 0 (silence 3) (two first second) (first ∷ second ∷ [])
  pub given : ours (alone window 3 3) (silence 3) (two first second) ≡ up ∷ rogue ∷ []
  pub wanted : theirs (alone window 3 3) (first ∷ second ∷ []) ≡ up ∷ rogue ∷ []

-- ahead and behind, at the least window, at 4 and at the greatest
abbrev pub BoundReached : Type 0
BoundReached =
    JustWithin 2 100 65634 × JustWithin 2 65634 100
    × JustWithin 4 100 65632 × JustWithin 4 65632 100
    × JustWithin 512 100 65124 × JustWithin 512 65124 100

-- ---- the premises one by one

-- What the premises ask of a receiver and the stream in slot i: 0 vector, 1 lawful, 2 long, 3 calm, 4 lasts, 5 numbered, 6 near.
abbrev pub premises_of : Receiver → Table → (slot : ℕ) → (gap later : List Call) → (indices : List ℕ) → List (Type 0)
premises_of receive t i gap later indices =
    ((at t i).rule ≡ vector_rule)
    ∷ (lawful (at t i) ≡ true)
    ∷ ((at t i).time ≤ ticks (log receive i t gap))
    ∷ (every calm (log receive i t gap) ≡ true)
    ∷ (every lasting (log receive i (run receive t gap) later) ≡ true)
    ∷ (numbers (log receive i (run receive t gap) later) ≡ map number_of indices)
    ∷ (all_near (at t i).window [] indices ≡ true)
    ∷ []

abbrev pub All : List (Type 0) → Type 0
All [] = Unit {0}
All (P ∷ Ps) = P × All Ps

-- all of a list but the one at a place, which does not hold
abbrev pub AllBut : (place : ℕ) → List (Type 0) → Type 0
AllBut place [] = ⊥
AllBut zero (P ∷ Ps) = (P → ⊥) × All Ps
AllBut (suc place) (P ∷ Ps) = P × AllBut place Ps

-- They are `Premises`, and there are no others.
abbrev pub PremisesAre : Type 0
PremisesAre =
    (receive : Receiver) (t : Table) (i : ℕ) (gap later : List Call) (indices : List ℕ)
    → All (premises_of receive t i gap later indices) ↔ Premises receive t i gap later indices

-- A run that breaks one premise alone in slot 0, the verdicts on it, and those of the receiver with unlimited memory.
pub record Broken (place : ℕ) (t : Table) (gap later : List Call) (indices : List ℕ) (our_verdicts their_verdicts : List Verdict) : Type 0 where
  pub broken : AllBut place (premises_of the_receiver t 0 gap later indices)
  pub given : ours t gap later ≡ our_verdicts
  pub wanted : theirs t indices ≡ their_verdicts

-- The bound is sharp: the second arrival comes one further than that, and is handed up.
pub record OneFurther (window first second : ℕ) : Type 0 where
  pub further : apart second first ≡ suc (65536 - window)
  pub near : Broken 6 (alone window 3 3) (silence 3) (two first second) (first ∷ second ∷ []) (up ∷ up ∷ []) (up ∷ rogue ∷ [])

abbrev pub BoundSharp : Type 0
BoundSharp =
    OneFurther 2 100 65635 × OneFurther 2 65635 100
    × OneFurther 4 100 65633 × OneFurther 4 65633 100
    × OneFurther 512 100 65125 × OneFurther 512 65125 100

-- The other premises: runs of a stream with L = 4 and R = 3.
pub record PremisesNeeded : Type 0 where
  -- a match stream forgets all but the last number
  pub matching : Broken 0 (stream 1 match_rule 4 3 (since 9 0 3) ∷ []) (silence 3) (from 0 1 7 ∷ from 0 1 8 ∷ from 1 1 7 ∷ []) (7 ∷ 8 ∷ 7 ∷ []) (up ∷ up ∷ up ∷ []) (up ∷ up ∷ duplicate ∷ [])
  -- an open fills a free slot, which had L = 4, with a stream of L = 64
  pub free : Broken 1 (closed (stream 1 vector_rule 4 3 (since 9 0b0001 3)) ∷ []) (silence 3) (opening (address 1) 0 vector_rule 64 3 ∷ two 7 11) (7 ∷ 11 ∷ []) (up ∷ up ∷ []) (up ∷ rogue ∷ [])
  -- R - 1 ticks are not enough
  pub short : Broken 2 (alone 4 3 3) (silence 2) (from 0 1 5000 ∷ []) (5000 ∷ []) (rogue ∷ []) (up ∷ [])
  -- nor are R ticks with a hand-up among them, or with a close, after which an open fills the slot with a stream of L = 64
  pub handing : Broken 3 (alone 4 3 3) (ticking ∷ from 0 1 10 ∷ silence 2) (from 0 1 5000 ∷ []) (5000 ∷ []) (rogue ∷ []) (up ∷ [])
  pub refilled : Broken 3 (alone 4 3 3) (closing 0 ∷ opening (address 1) 0 vector_rule 64 3 ∷ silence 3) (two 7 11) (7 ∷ 11 ∷ []) (up ∷ up ∷ []) (up ∷ rogue ∷ [])
  -- a reset by tick, a reset by call, and a close with an open after it, let an index be handed up again
  pub ticked : Broken 4 (alone 4 3 3) (silence 3) (from 0 1 7 ∷ ticking ∷ ticking ∷ ticking ∷ from 1 1 7 ∷ []) (7 ∷ 7 ∷ []) (up ∷ up ∷ []) (up ∷ duplicate ∷ [])
  pub reset : Broken 4 (alone 4 3 3) (silence 3) (from 0 1 7 ∷ resetting 0 ∷ from 1 1 7 ∷ []) (7 ∷ 7 ∷ []) (up ∷ up ∷ []) (up ∷ duplicate ∷ [])
  pub closed : Broken 4 (alone 4 3 3) (silence 3) (from 0 1 7 ∷ closing 0 ∷ opening (address 1) 0 vector_rule 4 3 ∷ from 1 1 7 ∷ []) (7 ∷ 7 ∷ []) (up ∷ up ∷ []) (up ∷ duplicate ∷ [])
  -- two indices that carry the same number
  pub renumbered : Broken 5 (alone 4 3 3) (silence 3) (two 7 7) (7 ∷ 8 ∷ []) (up ∷ duplicate ∷ []) (up ∷ up ∷ [])
