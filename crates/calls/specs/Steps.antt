-- Document 01, "Calls and the order of checks", and document 02, orders 1 and 10: the same calls in the steps that the code takes,
-- each on values alone. The laws of `proofs/` put the steps together and show that they come to what `Calls` says. Assumes
-- nothing.
use Rattle.std.specs.Prelude.{ℕ, Bool, ◌&&◌, ◌||◌, not, List, ltb, leb, length}
use Rattle.refusal.specs.Checks.{Said, said}
use Rattle.refusal.specs.Checks.Said.{refused, answers}
use Rattle.refusal.specs.Numbers.{TABLE, NETWORK, number_of}
use Rattle.refusal.specs.declared.Refusal.{Refusal}
use Rattle.refusal.specs.declared.Refusal.TheVariants.{Table, Network, Damaged, Room, Taken, Full, Slot}
use Rattle.std.specs.Prelude.{Option, is_some, ok_or, Result, Ok, Err}
use Rattle.std.specs.Result.{result_ok}
use Rattle.record.specs.declared.Stream.{Stream}
use Rattle.std.specs.Prelude.{if◌then◌else◌}
use Rattle.record.specs.Words.{yes}
use Rattle.record.specs.Sizes.{slots_most}
use Rattle.frame.specs.Frame.{Tag, read_of}
use Rattle.frame.specs.Link.{Link, link_of}
use Rattle.stream.specs.Record.{settled, lawful, closed}
use Rattle.stream.specs.Decisions.{reset}
use Rattle.stream.specs.Steps.{weighed, record_after}
use Rattle.stream.specs.declared.Weighed.{Weighed}
use Rattle.stream.specs.declared.Weighed.TheVariants as weighs
use Rattle.frame.specs.declared.Rank.{Rank}
use Rattle.calls.specs.Calls.{admitted, Answer, Verdict, arrived, handed_up, duplicate, rogue}

-- ---- an arrival

-- 1 and 2, from the number of slots and the network;
unfoldable pub begun : (slots network : ℕ) → Result Unit Refusal
begun slots network = if ltb slots_most slots then Err Table else if ltb 1 network then Err Network else Ok tt

-- 1 to 5 and 14, from these and the frame.
unfoldable pub asked : (slots network : ℕ) (frame : List ℕ) → Said Tag
asked slots network f =
    if ltb slots_most slots then refused TABLE
    else if ltb 1 network then refused NETWORK
    else admitted f (read_of f)

abbrev pub said_asked : Result Tag Refusal → Said Tag
said_asked = said

-- The same of a virtual link's: 1 to 4 and 14.
unfoldable pub link_asked : (slots network : ℕ) (frame : List ℕ) → Said Link
link_asked slots network f =
    if ltb slots_most slots then refused TABLE
    else if ltb 1 network then refused NETWORK
    else link_of f

-- The output holds the bytes that an arrival needs.
abbrev pub has_room : (need : ℕ) (out : List ℕ) → Bool
has_room need out = leb need (length out)

-- What the first step of the decision found: 7 where there is no verdict.
abbrev pub judged_as : Option Weighed → Result Weighed Refusal
judged_as w = ok_or w Damaged

-- 7 and 8, then what the arrival is to its record. The room is known before anything is marked.
unfoldable pub judged : Stream → (number : ℕ) → (room : Bool) → Result Weighed Refusal
judged s number room =
    if not (lawful s) then Err Damaged
    else if not room then Err Room
    else judged_as (weighed s number)

-- The record after it; a refused arrival leaves it, as one without a verdict does.
abbrev pub weighed_in : Result Weighed Refusal → Option Weighed
weighed_in j = result_ok j

abbrev pub record_of : Stream → (network : ℕ) → Result Weighed Refusal → Stream
record_of s network j = record_after s network (weighed_in j)

-- The answer, with the verdict that it tells of a frame of which so many bytes are handed up.
abbrev pub verdict_told : Weighed → (length : ℕ) → Verdict
verdict_told (weighs.HandedUp m) l = handed_up l
verdict_told weighs.Duplicate l = duplicate
verdict_told weighs.Rogue l = rogue

abbrev pub finished : Result Weighed Refusal → (slot number : ℕ) → Rank → (length : ℕ) → Said Answer
finished (Err refusal) slot number rank l = refused (number_of refusal)
finished (Ok w) slot number rank l = answers (arrived slot number rank (verdict_told w l))

-- The output bytes: those that handed up leaves, and nothing else writes.
abbrev pub bytes_of : Result Weighed Refusal → (written out : List ℕ) → List ℕ
bytes_of (Err refusal) w out = out
bytes_of (Ok (weighs.HandedUp m)) w out = w
bytes_of (Ok weighs.Duplicate) w out = out
bytes_of (Ok weighs.Rogue) w out = out

-- ---- open, close and reset, once 1 (and of an open also 9) is passed

-- Open: 10, 11, by the searches for its key, among the rest and among the virtual links, and one for a free slot: the slot that it
-- fills.
unfoldable pub placing_of : (key link free : Option ℕ) → Result ℕ Refusal
placing_of key link free = if is_some key || is_some link then Err Taken else ok_or free Full

-- Close: 12; s is the record in the slot, and it leaves another there.
unfoldable pub close_change : (slots slot : ℕ) → Stream → Result Stream Refusal
close_change slots i s =
    if not (ltb i slots && yes s.used) then Err Slot
    else Ok (closed s)

-- Reset: 12, 7.
unfoldable pub reset_change : (slots slot : ℕ) → Stream → Result Stream Refusal
reset_change slots i s =
    if not (ltb i slots && yes s.used) then Err Slot
    else if not (settled s) then Err Damaged
    else Ok (reset s)
