-- Against premises that are too weak or too strong, and against a count that is one off: runs with numbers of what `Lost` says,
-- of the receiver that the definitions give. In all of them L = 4 and lost is 2^64 - 1 before. Assumes nothing.
use Rattle.std.specs.Prelude.{ℕ, suc, ◌-◌, ◌^◌, ◌≡◌, true, List, [], ◌∷◌, ◌++◌, map}
use Rattle.record.specs.Words.{yes}
use Rattle.record.specs.Sizes.{vector_rule, match_rule}
use Rattle.stream.specs.Record.{fresh, lawful, closed}
use Rattle.stream.specs.Decisions.{Verdict, up, duplicate, rogue, rise}
use Rattle.calls.specs.Table.{Table, at}
use Rattle.calls.specs.Calls.{Call, opening, closing, resetting, ticking}
use Rattle.demands.specs.Receiver.{Receiver, MeetsContract, the_receiver, run}
use Rattle.demands.specs.Seen.{log, numbers, verdicts, lasting, every}
use Rattle.demands.specs.Unlimited.{apart, all_near}
use Rattle.demands.specs.Demand3.{number_of}
use Rattle.demands.specs.Corollaries.{handed_of}
use Rattle.demands.specs.Lost.{missed}
use Rattle.demands.specs.Examples.{address, from, stream, start, gap, later, alone}
use Rattle.demands.specs.Needed.{All, AllBut}

-- ---- runs of the stream in slot i

-- What `FreshLost` asks of it: 0 vector, 1 lawful, 2 take-any, 3 lasts, 4 numbered, 5 near.
abbrev pub premises_of : Receiver → Table → (slot : ℕ) → (later : List Call) → (indices : List ℕ) → List (Type 0)
premises_of receive t i later indices =
    ((at t i).rule ≡ vector_rule)
    ∷ (lawful (at t i) ≡ true)
    ∷ (yes (at t i).state.any ≡ true)
    ∷ (every lasting (log receive i t later) ≡ true)
    ∷ (numbers (log receive i t later) ≡ map number_of indices)
    ∷ (all_near (at t i).window [] indices ≡ true)
    ∷ []

-- how many are missed of what it handed up, lost afterwards, and what `FreshLost` says of it
abbrev pub missed_in : Receiver → Table → (slot : ℕ) → (later : List Call) (first : ℕ) (rest : List ℕ) → ℕ
missed_in receive t i later first rest = missed (at t i).window first (handed_of (verdicts (log receive i t later)) (first ∷ rest))

abbrev pub lost_after : Receiver → Table → (slot : ℕ) → (later : List Call) → ℕ
lost_after receive t i later = (at (run receive t later) i).counts.lost

abbrev pub lost_said : Receiver → Table → (slot : ℕ) → (later : List Call) (first : ℕ) (rest : List ℕ) → ℕ
lost_said receive t i later first rest = rise (at t i).counts.lost (missed_in receive t i later first rest)

-- Where these hold it is so, in any slot and of every receiver that meets the contract: it asks for no more.
abbrev pub LostPremisesAre : Type 0
LostPremisesAre =
    (receive : Receiver) → MeetsContract receive → (t : Table) (i : ℕ) (later : List Call) (first : ℕ) (rest : List ℕ)
    → All (premises_of receive t i later (first ∷ rest)) → lost_after receive t i later ≡ lost_said receive t i later first rest

-- The runs below are of the stream in slot 0.

-- A table with one fresh stream, and arrivals of these indices.
unfoldable pub begin : Table
begin = stream 1 vector_rule 4 3 fresh ∷ []

unfoldable pub sent : (indices : List ℕ) → List Call
sent [] = []
sent (x ∷ xs) = from 0 1 (number_of x) ∷ sent xs

-- ---- runs that meet the premises

-- The verdicts, how many indices are missed, and lost afterwards.
pub record Follows (t : Table) (later : List Call) (first : ℕ) (rest : List ℕ) (its_verdicts : List Verdict) (n count : ℕ) : Type 0 where
  pub premises : All (premises_of the_receiver t 0 later (first ∷ rest))
  pub given : verdicts (log the_receiver 0 t later) ≡ its_verdicts
  pub missed : missed_in the_receiver t 0 later first rest ≡ n
  pub lost : lost_after the_receiver t 0 later ≡ count

abbrev pub Shows : (first : ℕ) (rest : List ℕ) (its_verdicts : List Verdict) (n count : ℕ) → Type 0
Shows first rest vs n count = Follows begin (sent (first ∷ rest)) first rest vs n count

-- where lost stands before, and so if nothing is missed
abbrev pub most : ℕ
most = 2 ^ 64 - 1

abbrev pub after_gap : Table
after_gap = run the_receiver start gap

pub record LostShown : Type 0 where
  -- The run at the wrap of `Examples`, behind its gap, with ticks, refused calls and other streams: nothing is missed. Three
  -- numbers later 65538 and 65539 are.
  pub wrap : Follows after_gap later 65534 (65535 ∷ 65534 ∷ 65537 ∷ 65536 ∷ 65541 ∷ 65533 ∷ 65534 ∷ 65540 ∷ []) (up ∷ up ∷ duplicate ∷ up ∷ up ∷ rogue ∷ rogue ∷ duplicate ∷ up ∷ []) 0 most
  pub onward : Follows after_gap (later ++ (from 1 1 7 ∷ [])) 65534 (65535 ∷ 65534 ∷ 65537 ∷ 65536 ∷ 65541 ∷ 65533 ∷ 65534 ∷ 65540 ∷ 65543 ∷ []) (up ∷ up ∷ duplicate ∷ up ∷ up ∷ rogue ∷ rogue ∷ duplicate ∷ up ∷ up ∷ []) 2 1
  -- 65536 is highest - L + 1 and does not count yet; if it comes now it is handed up and never counts;
  pub waiting : Shows 65534 (65535 ∷ 65537 ∷ 65538 ∷ 65539 ∷ []) (up ∷ up ∷ up ∷ up ∷ up ∷ []) 0 most
  pub late : Shows 65534 (65535 ∷ 65537 ∷ 65538 ∷ 65539 ∷ 65536 ∷ 65540 ∷ 65541 ∷ []) (up ∷ up ∷ up ∷ up ∷ up ∷ up ∷ up ∷ up ∷ []) 0 most
  -- it is highest - L and counts; if it comes now it is a rogue and still counts.
  pub gone : Shows 65534 (65535 ∷ 65537 ∷ 65538 ∷ 65539 ∷ 65540 ∷ []) (up ∷ up ∷ up ∷ up ∷ up ∷ up ∷ []) 1 0
  pub too-late : Shows 65534 (65535 ∷ 65537 ∷ 65538 ∷ 65539 ∷ 65540 ∷ 65536 ∷ []) (up ∷ up ∷ up ∷ up ∷ up ∷ up ∷ rogue ∷ []) 1 0
  -- The index behind the first does not come: as long as it can it does not count, and then it does.
  pub second-waiting : Shows 7 (9 ∷ 10 ∷ 11 ∷ []) (up ∷ up ∷ up ∷ up ∷ []) 0 most
  pub second-gone : Shows 7 (9 ∷ 10 ∷ 11 ∷ 12 ∷ []) (up ∷ up ∷ up ∷ up ∷ up ∷ []) 1 0
  -- Those below the first never count, and one of them that is handed up late changes nothing.
  pub older : Shows 7 (8 ∷ 9 ∷ 10 ∷ 11 ∷ 12 ∷ []) (up ∷ up ∷ up ∷ up ∷ up ∷ up ∷ []) 0 most
  pub older-late : Shows 7 (8 ∷ 5 ∷ 9 ∷ 10 ∷ 11 ∷ 12 ∷ []) (up ∷ up ∷ up ∷ up ∷ up ∷ up ∷ up ∷ []) 0 most
  -- The first alone, where highest - L is below zero; and several at once.
  pub only : Shows 1 [] (up ∷ []) 0 most
  pub several : Shows 1 (4 ∷ 7 ∷ 10 ∷ []) (up ∷ up ∷ up ∷ up ∷ []) 4 3

-- ---- each premise is needed

-- A run that breaks one premise alone, lost after it, and what `FreshLost` would say.
pub record Breaks (place : ℕ) (t : Table) (later : List Call) (first : ℕ) (rest : List ℕ) (count wanted : ℕ) : Type 0 where
  pub broken : AllBut place (premises_of the_receiver t 0 later (first ∷ rest))
  pub lost : lost_after the_receiver t 0 later ≡ count
  pub said : lost_said the_receiver t 0 later first rest ≡ wanted

pub record LostPremisesNeeded : Type 0 where
  -- a match stream counts nothing
  pub matching : Breaks 0 (stream 1 match_rule 4 3 fresh ∷ []) (sent (7 ∷ 12 ∷ [])) 7 (12 ∷ []) most 0
  -- an open fills a free slot, which had L = 4, with a stream of L = 64
  pub free : Breaks 1 (closed (stream 1 vector_rule 4 3 fresh) ∷ []) (opening (address 1) 0 vector_rule 64 3 ∷ sent (7 ∷ 13 ∷ [])) 7 (13 ∷ []) 0 1
  -- a stream that has handed up 9 counts from there
  pub begun : Breaks 2 (alone 4 3 3) (sent (10 ∷ [])) 10 [] 0 most
  -- a reset by tick, a reset by call, and a close with an open after it, begin anew
  pub ticked : Breaks 3 begin (from 0 1 7 ∷ ticking ∷ ticking ∷ ticking ∷ from 0 1 12 ∷ []) 7 (12 ∷ []) most 0
  pub reset : Breaks 3 begin (from 0 1 7 ∷ resetting 0 ∷ from 0 1 12 ∷ []) 7 (12 ∷ []) most 0
  pub reopened : Breaks 3 begin (from 0 1 7 ∷ closing 0 ∷ opening (address 1) 0 vector_rule 4 3 ∷ from 0 1 13 ∷ []) 7 (13 ∷ []) 0 1
  -- numbers that are not their indices: 7 to 10 without a hole, for 7, 9, 10 and 12
  pub renumbered : Breaks 4 begin (sent (7 ∷ 8 ∷ 9 ∷ 10 ∷ [])) 7 (9 ∷ 10 ∷ 12 ∷ []) most 0
  -- an arrival one further than 65536 - L is taken for the index 65636, which does not come
  pub further : apart 100 65633 ≡ suc (65536 - 4)
  pub near : Breaks 5 begin (sent (65633 ∷ 100 ∷ 65637 ∷ 65638 ∷ 65639 ∷ 65640 ∷ [])) 65633 (100 ∷ 65637 ∷ 65638 ∷ 65639 ∷ 65640 ∷ []) 1 2
