-- Against vacuity: runs with numbers, of the receiver that the definitions give. Assumes nothing.
use Rattle.std.specs.Prelude.{ℕ, ◌-◌, ◌/◌, ◌%◌, ◌^◌, ◌≡◌, true, false, List, [], ◌∷◌, replicate}
use Rattle.record.specs.declared.Counts.{Counts}
use Rattle.record.specs.declared.Stream.{Stream}
use Rattle.record.specs.Sizes.{vector_rule, match_rule}
use Rattle.frame.specs.Frame.{dest_of}
use Rattle.stream.specs.History.{holding}
use Rattle.stream.specs.Record.{State, opened}
use Rattle.stream.specs.Decisions.{Verdict, up, duplicate, rogue, with}
use Rattle.calls.specs.Table.{Table, blank, at}
use Rattle.calls.specs.Calls.{Call, arriving, opening, closing, resetting, ticking}
use Rattle.demands.specs.Receiver.{the_receiver, run}
use Rattle.demands.specs.Seen.{Seen, arrived, tick, nothing, log, verdicts}
use Rattle.demands.specs.Unlimited.{unlimited}
use Rattle.demands.specs.Demand3.{number_of, Premises}

-- ---- frames, records and calls

-- A destination, and a frame to it with number n: no VLAN tag, 20 bytes.
unfoldable pub address : ℕ → List ℕ
address k = 2 ∷ 0 ∷ 0 ∷ 0 ∷ 0 ∷ k ∷ []

unfoldable pub frame : (k n : ℕ) → List ℕ
frame k n = 2 ∷ 0 ∷ 0 ∷ 0 ∷ 0 ∷ k ∷ 2 ∷ 0 ∷ 0 ∷ 0 ∷ 0 ∷ 9 ∷ 0xF1 ∷ 0xC1 ∷ 0 ∷ 0 ∷ n / 256 ∷ n % 256 ∷ 8 ∷ 0 ∷ []

-- It arrives on a network, with an output that has just room enough.
unfoldable pub from : (network k n : ℕ) → Call
from network k n = arriving network (frame k n) (replicate 14 0)

-- Counters may hold anything: three of these wrap with their next rise.
unfoldable pub odd : Counts
odd = record { arrivals0 = 5; arrivals1 = 0; passed = 2 ^ 64 - 1; discarded = 1; rogue = 0; disorder = 9; lost = 2 ^ 64 - 1; resets = 2 ^ 64 - 1 }

-- A record for destination k, with this state and those counters.
unfoldable pub stream : (k rule window time : ℕ) → State → Stream
stream k rule window time t = with (opened (dest_of (address k)) 0 rule window time) t odd

-- a state that has handed up
abbrev pub since : (anchor history remaining : ℕ) → State
since anchor history remaining = record { history = holding history; anchor = anchor; remaining = remaining; early = 0; any = 0 }

-- what slot 0 sees of a run after another
abbrev pub seen_after : Table → (before after : List Call) → List Seen
seen_after t before after = log the_receiver 0 (run the_receiver t before) after

-- the verdicts on it, and those of the receiver with unlimited memory on its indices
abbrev pub ours : Table → (before after : List Call) → List Verdict
ours t before after = verdicts (seen_after t before after)

abbrev pub theirs : Table → (indices : List ℕ) → List Verdict
theirs t indices = unlimited (at t 0).window [] indices

-- ---- a run over the wrap that meets the premises of demand 3

-- Slot 0 has the stream: L = 4, R = 3, the last number handed up 9, two ticks left. Slot 1 has the same key and is
-- damaged, slot 2 is free, and slot 3 has a match stream.
unfoldable pub start : Table
start =
    stream 1 vector_rule 4 3 (since 9 0b0101 2)
    ∷ stream 1 vector_rule 1 3 (since 9 0b0100 8)
    ∷ blank
    ∷ stream 3 match_rule 2 7 (since 65535 0 7)
    ∷ []

-- In the gap it gets a rogue, a duplicate and an arrival that is refused for want of room; the second tick resets it;
-- slot 2 is filled, a close is refused, and slot 3 has an arrival.
unfoldable pub gap : List Call
gap =
    ticking
    ∷ from 0 1 5000
    ∷ from 1 1 9
    ∷ arriving 0 (frame 1 10) (replicate 13 0)
    ∷ ticking
    ∷ opening (address 2) 0 vector_rule 64 1
    ∷ closing 9
    ∷ from 1 3 77
    ∷ ticking
    ∷ []

-- Then the numbers of document 01's run at the wrap, steps a to i, on both networks, with two ticks and a refused reset.
unfoldable pub later : List Call
later =
    from 0 1 65534
    ∷ from 0 1 65535
    ∷ from 1 1 65534
    ∷ ticking
    ∷ from 1 1 1
    ∷ from 0 1 0
    ∷ resetting 4
    ∷ from 1 1 5
    ∷ from 1 1 65533
    ∷ ticking
    ∷ from 0 1 65534
    ∷ from 1 1 4
    ∷ []

unfoldable pub indices : List ℕ
indices = 65534 ∷ 65535 ∷ 65534 ∷ 65537 ∷ 65536 ∷ 65541 ∷ 65533 ∷ 65534 ∷ 65540 ∷ []

pub record WrapMeets : Type 0 where
  pub premises : Premises the_receiver start 0 gap later indices
  pub seen : log the_receiver 0 start gap
      ≡ tick false ∷ arrived 5000 rogue ∷ arrived 9 duplicate ∷ nothing ∷ tick true ∷ nothing ∷ nothing ∷ nothing ∷ tick false ∷ []
  pub given : ours start gap later ≡ up ∷ up ∷ duplicate ∷ up ∷ up ∷ rogue ∷ rogue ∷ duplicate ∷ up ∷ []
  pub wanted : theirs start indices ≡ up ∷ up ∷ duplicate ∷ up ∷ up ∷ rogue ∷ rogue ∷ duplicate ∷ up ∷ []

-- ---- runs of one stream

-- A table with one stream in slot 0 whose last number handed up is 9, silent ticks, and two arrivals.
unfoldable pub alone : (window time remaining : ℕ) → Table
alone window time remaining = stream 1 vector_rule window time (since 9 0b0001 remaining) ∷ []

unfoldable pub silence : ℕ → List Call
silence n = replicate n ticking

unfoldable pub two : (first second : ℕ) → List Call
two first second = from 0 1 (number_of first) ∷ from 1 1 (number_of second) ∷ []
