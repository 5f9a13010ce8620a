-- Document 01, "Calls and the order of checks", and document 02, orders 1, 10 and 11: what each call on a table comes to, for every
-- table and every input. Assumes nothing.
use Rattle.std.specs.Prelude.{ℕ, ◌-◌, ◌≡◌, Bool, true, false, ◌&&◌, not, List, [], map, ltb, leb, length, set}
use Rattle.refusal.specs.Checks.{Said}
use Rattle.refusal.specs.Checks.Said.{refused, answers}
use Rattle.refusal.specs.Numbers.{TABLE, NETWORK, UNKNOWN, DAMAGED, ROOM, SETTING, TAKEN, FULL, SLOT, GROUP}
use Rattle.record.specs.declared.Stream.{Stream}
use Rattle.std.specs.Prelude.{if◌then◌else◌}
use Rattle.record.specs.Words.{yes}
use Rattle.record.specs.Sizes.{slots_most}
use Rattle.frame.specs.Bytes.{overlay}
use Rattle.frame.specs.Frame.{Tag, dest_of, group_source, read_of, untagged, unranked}
use Rattle.frame.specs.declared.Rank.{Rank}
use Rattle.stream.specs.Record.{settled, lawful, damaged, opened, closed}
use Rattle.stream.specs.Decisions.{verdict, decided, reset, expires, ticked}
use Rattle.stream.specs.Decisions as decisions
use Rattle.calls.specs.Table.{Table, at, search, some_slot, has_key, hears, is_free, count}
use Rattle.frame.specs.Link.{Link, link_of, but_last}

-- The calls, with what the caller passes or lends beside the table.
pub data Call : Type 0 where
  arriving : (network : ℕ) (frame out : List ℕ) → Call
  linking : (network : ℕ) (frame out : List ℕ) → Call  -- an arrival of a virtual link (order 10)
  opening : (dest : List ℕ) (vlan rule window time : ℕ) → Call  -- the destination's six bytes
  closing : (slot : ℕ) → Call
  resetting : (slot : ℕ) → Call
  ticking : Call

-- What a call comes to: a refusal, or what it does.
pub data Act : Type 0 where
  refuse : (number : ℕ) → Act
  arrive : (slot number network : ℕ) (rank : Rank) (bare : List ℕ) → Act  -- the frame without its tag
  opens : (slot : ℕ) → Stream → Act
  closes : (slot : ℕ) → Act
  resets : (slot : ℕ) → Act
  ticks : Act

-- ---- the checks, in their order

-- Arrival: 1 to 8 in this order, and 14 after 5 and before 6; 1 stands in `act`, 2 in `checked`, 3 to 5 in `read_of`, and
-- the rest here. A frame with a group source reaches no stream.
unfoldable pub admitted : (frame : List ℕ) → Said Tag → Said Tag
admitted f (refused n) = refused n
admitted f (answers g) = if group_source f then refused GROUP else answers g

-- The lowest slot with the key is taken. 8 is given when the output holds fewer than `need` bytes, for every arrival that gets
-- this far, even a duplicate. `bare` is what is handed up.
unfoldable pub arrival_at : (t : Table) (slot number network : ℕ) (rank : Rank) (need : ℕ) (bare out : List ℕ) → Act
arrival_at t i number network rank need bare out =
    if leb (length t) i then refuse UNKNOWN
    else if not (lawful (at t i)) then refuse DAMAGED
    else if ltb (length out) need then refuse ROOM
    else arrive i number network rank bare

unfoldable pub arrival : (t : Table) (network : ℕ) (frame out : List ℕ) → Said Tag → Act
arrival t network f out (refused n) = refuse n
arrival t network f out (answers g) =
    arrival_at t (search (hears false g.header.dest g.header.vlan) t) g.number network g.header.rank (length f - 6) (untagged f) out

-- An arrival of a virtual link: 1, 2, 3, 4, 14, 6, 7, 8 (fewer than length - 1 bytes). It reads no VLAN tag.
unfoldable pub link_arrival : (t : Table) (network : ℕ) (frame out : List ℕ) → Said Link → Act
link_arrival t network f out (refused n) = refuse n
link_arrival t network f out (answers g) =
    arrival_at t (search (hears true g.dest 0) t) g.number network unranked (length f - 1) (but_last f) out

-- a slot within the table and in use
unfoldable pub in_use : Table → (slot : ℕ) → Bool
in_use t i = ltb i (length t) && yes (at t i).used

-- Open: 1, 9, 10, 11. It fills the lowest free slot, closed ones included, with a fresh record, counters zero.
unfoldable pub open-call : Table → Stream → Act
open-call t s =
    if not (settled s) then refuse SETTING
    else if some_slot (has_key s.dest s.vlan) t then refuse TAKEN
    else if not (some_slot is_free t) then refuse FULL
    else opens (search is_free t) s

-- Each call, once 1 is passed.
unfoldable pub checked : Table → Call → Act
checked t (arriving network f out) = if ltb 1 network then refuse NETWORK else arrival t network f out (admitted f (read_of f))
checked t (linking network f out) = if ltb 1 network then refuse NETWORK else link_arrival t network f out (link_of f)
checked t (opening dest vlan rule window time) = open-call t (opened (dest_of dest) vlan rule window time)
-- Close: 1, 12. A damaged record can be closed.
checked t (closing i) = if in_use t i then closes i else refuse SLOT
-- Reset: 1, 12, then 7 only if the settings are out of range.
checked t (resetting i) =
    if not (in_use t i) then refuse SLOT
    else if not (settled (at t i)) then refuse DAMAGED
    else resets i
-- Tick: 1.
checked t ticking = ticks

-- 1 is the first check of every call.
unfoldable pub act : Table → Call → Act
act t c = if ltb slots_most (length t) then refuse TABLE else checked t c

-- ---- what it does

-- The table after it. Only the slot it is for changes; a tick ages every lawful record.
unfoldable pub after : Table → Act → Table
after t (refuse n) = t
after t (arrive i number network rank bare) = set t i (decided (at t i) number network)
after t (opens i s) = set t i s
after t (closes i) = set t i (closed (at t i))
after t (resets i) = set t i (reset (at t i))
after t ticks = map ticked t

-- An arrival carries the slot, the number and one of three verdicts: handed up with its length, duplicate, rogue; and, with each
-- of them, the priority and whether a VLAN tag was there (order 11). Open tells the slot. Close and reset tell nothing more. A
-- tick tells how many streams it reset and how many records in use are damaged.
pub data Verdict : Type 0 where
  handed_up : (length : ℕ) → Verdict
  duplicate rogue : Verdict

pub data Answer : Type 0 where
  arrived : (slot number : ℕ) → Rank → Verdict → Answer
  placed : (slot : ℕ) → Answer
  done : Answer
  swept : (streams records : ℕ) → Answer

abbrev pub verdict_with : (length : ℕ) → decisions.Verdict → Verdict
verdict_with l decisions.up = handed_up l
verdict_with l decisions.duplicate = duplicate
verdict_with l decisions.rogue = rogue

unfoldable pub answer : Table → Act → Said Answer
answer t (refuse n) = refused n
answer t (arrive i number network rank bare) = answers (arrived i number rank (verdict_with (length bare) (verdict (at t i) number)))
answer t (opens i s) = answers (placed i)
answer t (closes i) = answers done
answer t (resets i) = answers done
answer t ticks = answers (swept (count expires t) (count damaged t))

-- Handed up writes the frame without its tag (a virtual link's without its last byte) to the start of the output; bytes after it
-- keep their values. Duplicate and rogue write nothing.
abbrev pub written_for : decisions.Verdict → (bare out : List ℕ) → List ℕ
written_for decisions.up bare out = overlay bare out
written_for decisions.duplicate bare out = out
written_for decisions.rogue bare out = out

-- the output buffer that a call is lent: an arrival's; the others have none
abbrev pub out_of : Call → List ℕ
out_of (arriving network f out) = out
out_of (linking network f out) = out
out_of (opening dest vlan rule window time) = []
out_of (closing i) = []
out_of (resetting i) = []
out_of ticking = []

unfoldable pub output : Table → (out : List ℕ) → Act → List ℕ
output t out (refuse n) = out
output t out (arrive i number network rank bare) = written_for (verdict (at t i) number) bare out
output t out (opens i s) = out
output t out (closes i) = out
output t out (resets i) = out
output t out ticks = out

-- ---- the contract of every call

-- What a call leaves behind: what it says, the table, and the output bytes.
pub record Result : Type 0 where
  pub said : Said Answer
  pub table : Table
  pub output : List ℕ

-- What a call on a table comes to.
abbrev pub result_of : Table → Call → Result
result_of t c = record { said = answer t (act t c); table = after t (act t c); output = output t (out_of c) (act t c) }

-- A result meets the documents: the answer, the table and the output bytes are those that the rules give.
pub record Meets (t : Table) (c : Call) (r : Result) : Type 0 where
  pub said : r.said ≡ answer t (act t c)
  pub table : r.table ≡ after t (act t c)
  pub output : r.output ≡ output t (out_of c) (act t c)
