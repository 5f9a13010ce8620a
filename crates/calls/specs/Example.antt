-- Document 01, "Event file and the program `events`": its worked example, as calls on a table of eight slots. It also shows
-- that the premises of the laws can be met, those of order 1 of document 02 among them. Assumes nothing.
use Rattle.std.specs.Prelude.{ℕ, ◌≡◌, true, false, List, [], ◌∷◌, replicate, set}
use Rattle.refusal.specs.Checks.{Said}
use Rattle.refusal.specs.Checks.Said.{refused, answers}
use Rattle.refusal.specs.Numbers.{SHORT, UNTAGGED, ROOM, GROUP}
use Rattle.record.specs.Sizes.{vector_rule}
use Rattle.frame.specs.Frame.{dest_of, vlan_of, untagged, unranked}
use Rattle.stream.specs.Record.{lawful, damaged, opened}
use Rattle.calls.specs.Table.{Table, blank, at, search, some_slot, hears, is_free}
use Rattle.calls.specs.Calls.{Call, arriving, opening, resetting, ticking, arrive, opens, resets, act, after, answer, Answer, arrived, placed, swept, handed_up, duplicate}
use Rattle.calls.specs.Laws.{for_slot}

-- what calls in turn answer
unfoldable pub answers_of : Table → List Call → List (Said Answer)
answers_of t [] = []
answers_of t (c ∷ cs) = answer t (act t c) ∷ answers_of (after t (act t c)) cs

abbrev pub eight : Table
eight = replicate 8 blank

-- 020000000001
abbrev pub dest : List ℕ
dest = 0x02 ∷ 0 ∷ 0 ∷ 0 ∷ 0 ∷ 0x01 ∷ []

-- 020000000001 020000000002 F1C1 0000 0007 0800
abbrev pub frame : List ℕ
frame =
    0x02 ∷ 0 ∷ 0 ∷ 0 ∷ 0 ∷ 0x01
    ∷ 0x02 ∷ 0 ∷ 0 ∷ 0 ∷ 0 ∷ 0x02
    ∷ 0xF1 ∷ 0xC1 ∷ 0 ∷ 0 ∷ 0 ∷ 0x07 ∷ 0x08 ∷ 0 ∷ []

abbrev pub buffer : List ℕ
buffer = replicate 14 0

abbrev pub example : List Call
example =
    opening dest 0 vector_rule 4 3
    ∷ arriving 0 frame buffer
    ∷ arriving 1 frame buffer
    ∷ ticking
    ∷ ticking
    ∷ ticking
    ∷ arriving 1 frame buffer
    ∷ []

-- 1 O 0, 2 A up 0 7, 3 A dup 0 7, 4 T 0 0, 5 T 0 0, 6 T 1 0, 7 A up 0 7
abbrev pub WorkedExample : Type 0
WorkedExample =
    answers_of eight example
    ≡ answers (placed 0)
    ∷ answers (arrived 0 7 unranked (handed_up 14))
    ∷ answers (arrived 0 7 unranked duplicate)
    ∷ answers (swept 0 0)
    ∷ answers (swept 0 0)
    ∷ answers (swept 1 0)
    ∷ answers (arrived 0 7 unranked (handed_up 14))
    ∷ []

-- The premises of the laws are met. By the table of free slots and the open,
abbrev pub filled : Table
filled = after eight (act eight (opening dest 0 vector_rule 4 3))

abbrev pub slot_for : Table → ℕ
slot_for t = search (hears false (dest_of frame) (vlan_of frame)) t

abbrev pub FreeMet : Type 0
FreeMet =
    ((j : ℕ) → damaged (at eight j) ≡ false)
    × (some_slot is_free eight ≡ true) × (some_slot (hears false (dest_of frame) (vlan_of frame)) eight ≡ false)
    × (act eight (opening dest 0 vector_rule 4 3) ≡ opens 0 (opened (dest_of dest) 0 vector_rule 4 3))
    × (for_slot (opens 0 (opened (dest_of dest) 0 vector_rule 4 3)) 1 ≡ false)

-- and by the table after it: its stream is found and lawful, an arrival gets through, a reset too, and others are refused.
abbrev pub FilledMet : Type 0
FilledMet =
    (some_slot (hears false (dest_of frame) (vlan_of frame)) filled ≡ true) × (lawful (at filled (slot_for filled)) ≡ true)
    × (act filled (arriving 0 frame buffer) ≡ arrive 0 7 0 unranked (untagged frame))
    × (act filled (resetting 0) ≡ resets 0)
    × (answer filled (act filled (arriving 0 dest buffer)) ≡ refused SHORT)
    × (answer filled (act filled (arriving 0 frame [])) ≡ refused ROOM)

-- Order 1: the frame with another first byte of its source, or of its destination.
abbrev pub sent_by : (first : ℕ) → List ℕ
sent_by b = set frame 6 b

abbrev pub sent_to : (first : ℕ) → List ℕ
sent_to b = set frame 0 b

-- A source that begins with 01 or FF is a group's, and one with FE is not. 14 comes after 5, and before 6 and 8: no stream is
-- open in `eight`, and the output there has no room. A group destination is a key like any other.
abbrev pub GroupCases : Type 0
GroupCases =
    (answer filled (act filled (arriving 0 (sent_by 0x01) buffer)) ≡ refused GROUP)
    × (answer filled (act filled (arriving 0 (sent_by 0xFF) buffer)) ≡ refused GROUP)
    × (act filled (arriving 0 (sent_by 0xFE) buffer) ≡ arrive 0 7 0 unranked (untagged (sent_by 0xFE)))
    × (answer filled (act filled (arriving 0 (untagged (sent_by 0x01)) buffer)) ≡ refused UNTAGGED)
    × (answer eight (act eight (arriving 0 (sent_by 0x01) [])) ≡ refused GROUP)
    × (answers_of eight (opening (set dest 0 0x01) 0 vector_rule 4 3 ∷ arriving 0 (sent_to 0x01) buffer ∷ []) ≡ answers (placed 0) ∷ answers (arrived 0 7 unranked (handed_up 14)) ∷ [])
