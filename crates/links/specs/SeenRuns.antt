-- Against premises that are too weak or too strong: runs of calls with numbers, of what `LinksSeen` says, of the receiver that the
-- definitions give. Assumes nothing.
use Rattle.std.specs.Prelude.{ℕ, ◌≡◌, Bool, true, false, ◌↔◌, List, [], ◌∷◌, map, replicate}
use Rattle.std.proofs.Math.Option.{Option, none, some}
use Rattle.record.specs.Sizes.{vector_rule, match_rule, link_rule}
use Rattle.stream.specs.Record.{fresh, lawful, closed}
use Rattle.stream.specs.Decisions.{up, duplicate, is_up}
use Rattle.calls.specs.Table.{Table, blank, at}
use Rattle.calls.specs.Calls.{Call, linking, opening, closing, resetting, ticking}
use Rattle.demands.specs.Receiver.{Receiver, the_receiver}
use Rattle.demands.specs.Seen.{arrived, tick, nothing, log, numbers, verdicts, lasting, every}
use Rattle.demands.specs.Examples.{address, from, stream, since}
use Rattle.demands.specs.Needed.{All, AllBut}
use Rattle.links.specs.Links.{last_of, link_number, last_number, all_within, rises}
use Rattle.links.specs.LinksSeen.{Rising}

-- A frame of a virtual link to destination k: 15 bytes, the last one its number. It arrives with just room enough.
unfoldable pub link_frame : (k number : ℕ) → List ℕ
link_frame k n = 2 ∷ 0 ∷ 0 ∷ 0 ∷ 0 ∷ k ∷ 2 ∷ 0 ∷ 0 ∷ 0 ∷ 0 ∷ 9 ∷ 8 ∷ 0 ∷ n ∷ []

unfoldable pub link_from : (network k number : ℕ) → Call
link_from network k n = linking network (link_frame k n) (replicate 14 0)

-- ---- a run that meets the premises

-- The link is fresh and in slot 1. Slot 0 has a vector stream of the same key, slot 2 is free, and slot 3 has another link.
unfoldable pub beside : Table
beside =
    stream 1 vector_rule 4 3 (since 9 0b0001 3)
    ∷ stream 1 link_rule 2 3 fresh
    ∷ blank
    ∷ stream 3 link_rule 2 3 (since 7 0 3)
    ∷ []

-- Over the step from 255 to 1, on both networks, 127 ahead and 127 behind; with two ticks, a refused arrival, a refused close, a plain arrival
-- of the same key, an arrival of the other link, and an open.
unfoldable pub over : List Call
over =
    link_from 0 1 254
    ∷ from 0 1 10
    ∷ link_from 0 1 1
    ∷ ticking
    ∷ link_from 1 1 255
    ∷ linking 0 (link_frame 1 2) (replicate 13 0)
    ∷ link_from 0 3 8
    ∷ link_from 0 1 128
    ∷ ticking
    ∷ link_from 1 1 1
    ∷ closing 9
    ∷ opening (address 2) 0 link_rule 2 3
    ∷ link_from 0 1 255
    ∷ []

pub record RingMeets : Type 0 where
  pub premises : Rising the_receiver beside 1 over none (254 ∷ 256 ∷ 255 ∷ 383 ∷ 256 ∷ 510 ∷ [])
  pub seen : log the_receiver 1 beside over
      ≡ arrived 254 up ∷ nothing ∷ arrived 1 up ∷ tick false ∷ arrived 255 duplicate ∷ nothing ∷ nothing ∷ arrived 128 up ∷ tick false
      ∷ arrived 1 duplicate ∷ nothing ∷ nothing ∷ arrived 255 up ∷ []

-- ---- each premise is needed

-- What `Rising` asks of a receiver and the stream in slot i: 0 link, 1 lawful, 2 last, 3 lasts, 4 numbered, 5 within.
abbrev pub premises_of : Receiver → Table → (slot : ℕ) → (calls : List Call) → Option ℕ → (indices : List ℕ) → List (Type 0)
premises_of receive t i calls h indices =
    ((at t i).rule ≡ link_rule)
    ∷ (lawful (at t i) ≡ true)
    ∷ (last_of (at t i) ≡ last_number h)
    ∷ (every lasting (log receive i t calls) ≡ true)
    ∷ (numbers (log receive i t calls) ≡ map link_number indices)
    ∷ (all_within h indices ≡ true)
    ∷ []

abbrev pub RisingAre : Type 0
RisingAre =
    (receive : Receiver) (t : Table) (i : ℕ) (calls : List Call) (h : Option ℕ) (indices : List ℕ)
    → All (premises_of receive t i calls h indices) ↔ Rising receive t i calls h indices

-- A run that breaks one premise alone in slot 0, which arrivals are handed up in it, and which are above all before.
pub record Breaks (place : ℕ) (t : Table) (calls : List Call) (h : Option ℕ) (indices : List ℕ) (ours theirs : List Bool) : Type 0 where
  pub broken : AllBut place (premises_of the_receiver t 0 calls h indices)
  pub given : map is_up (verdicts (log the_receiver 0 t calls)) ≡ ours
  pub wanted : rises h indices ≡ theirs

-- A link that handed up 5 last.
unfoldable pub five : Table
five = stream 1 link_rule 2 3 (since 5 0 3) ∷ []

pub record RisingNeeded : Type 0 where
  -- a match stream hands the last number but one up again
  pub matching : Breaks 0 (stream 1 match_rule 2 3 fresh ∷ []) (from 0 1 7 ∷ from 0 1 8 ∷ from 1 1 7 ∷ []) none (7 ∷ 8 ∷ 7 ∷ []) (true ∷ true ∷ true ∷ []) (true ∷ true ∷ false ∷ [])
  -- an open fills a free slot with a fresh stream
  pub free : Breaks 1 (closed (stream 1 link_rule 2 3 (since 5 0 3)) ∷ []) (opening (address 1) 0 link_rule 2 3 ∷ link_from 0 1 5 ∷ []) (some 5) (5 ∷ []) (true ∷ []) (false ∷ [])
  -- 6 was not the last
  pub otherwise : Breaks 2 five (link_from 0 1 6 ∷ []) (some 6) (6 ∷ []) (true ∷ []) (false ∷ [])
  -- a reset by tick, a reset by call, and a close with an open after it, let an index be handed up again
  pub ticked : Breaks 3 five (ticking ∷ ticking ∷ ticking ∷ link_from 1 1 5 ∷ []) (some 5) (5 ∷ []) (true ∷ []) (false ∷ [])
  pub reset : Breaks 3 five (resetting 0 ∷ link_from 1 1 5 ∷ []) (some 5) (5 ∷ []) (true ∷ []) (false ∷ [])
  pub reopened : Breaks 3 five (closing 0 ∷ opening (address 1) 0 link_rule 2 3 ∷ link_from 1 1 5 ∷ []) (some 5) (5 ∷ []) (true ∷ []) (false ∷ [])
  -- two indices that carry the same number
  pub renumbered : Breaks 4 five (link_from 0 1 6 ∷ link_from 0 1 6 ∷ []) (some 5) (6 ∷ 7 ∷ []) (true ∷ false ∷ []) (true ∷ true ∷ [])
  -- 128 ahead, 128 behind, and a 0 that comes late
  pub ahead : Breaks 5 five (link_from 0 1 133 ∷ []) (some 5) (133 ∷ []) (false ∷ []) (true ∷ [])
  pub behind : Breaks 5 five (link_from 0 1 69 ∷ link_from 0 1 133 ∷ link_from 1 1 5 ∷ []) (some 5) (69 ∷ 133 ∷ 5 ∷ []) (true ∷ true ∷ true ∷ []) (true ∷ true ∷ false ∷ [])
  pub late-zero : Breaks 5 five (link_from 1 1 0 ∷ []) (some 5) (0 ∷ []) (true ∷ []) (false ∷ [])
