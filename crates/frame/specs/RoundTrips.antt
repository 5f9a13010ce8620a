-- Document 01, "The frame": what putting a tag in and taking it out give, as statements, for the frames that remain after
-- order 1 of document 02. Assumes nothing.
use Rattle.std.specs.Prelude.{ℕ, ◌≤◌, ◌<◌, ◌≡◌, ◌↔◌, true, false, List, length, take}
use Rattle.refusal.specs.Checks.Said.{refused, answers}
use Rattle.refusal.specs.Numbers.{SHORT, TAGGED}
use Rattle.frame.specs.Bytes.{word, overlay, Bytes}
use Rattle.frame.specs.Frame.{Tag, dest_of, group_source, has_vlan, vlan_of, type_at, rank_of, reserved_of, former_of, read_of, write_of, untagged, tag_at}
use Rattle.frame.specs.TagCalls.{take_tag, write_tag}

-- Putting one in and taking it out gives the frame and number back: of every frame that is accepted, and its key and
-- the place of its type field are those of the frame that it was made from.
abbrev pub PutThenTake : Type 0
PutThenTake =
    (f : List ℕ) (n : ℕ) (g : List ℕ) → n < 65536 → write_of f n ≡ answers g
    → (read_of g ≡ answers (record { header = record { dest = dest_of f; vlan = vlan_of f; at = type_at f; tagged = true; rank = rank_of f }; number = n })) × (untagged g ≡ f)

-- The same of the two calls, with any buffers that have room: what the one wrote, the other takes apart.
abbrev pub WriteThenTake : Type 0
WriteThenTake =
    (f : List ℕ) (n : ℕ) (out back : List ℕ) (m : ℕ) → n < 65536 → (write_tag f n out).said ≡ answers m → length f ≤ length back
    → take_tag (take m (write_tag f n out).bytes) back ≡ record { said = answers (record { number = n; length = length f }); bytes = overlay f back }

-- Every frame that is accepted remains: neither it nor what is made of it has a group source.
abbrev pub NoGroupWritten : Type 0
NoGroupWritten = (f : List ℕ) (n : ℕ) (g : List ℕ) → write_of f n ≡ answers g → (group_source f ≡ false) × (group_source g ≡ false)

-- Taking it out and putting the same number in gives the same frame exactly if it remains, its reserved bytes were zero and
-- the former type is neither F1C1 nor, in a frame with no VLAN tag, 8100.
abbrev pub TakeThenPut : Type 0
TakeThenPut =
    (f : List ℕ) (t : Tag) → Bytes f → read_of f ≡ answers t
    → (write_of (untagged f) t.number ≡ answers f)
    ↔ ((group_source f ≡ false) × (reserved_of f ≡ 0) × (former_of f ≡ 0xF1C1 → ⊥) × (has_vlan f ≡ false → former_of f ≡ 0x8100 → ⊥))

-- With F1C1 the writer refuses;
abbrev pub FormerTag : Type 0
FormerTag = (f : List ℕ) (t : Tag) → read_of f ≡ answers t → former_of f ≡ 0xF1C1 → write_of (untagged f) t.number ≡ refused TAGGED

-- with 8100 a frame of 24 bytes or more, tag included, gets its tag four bytes later
abbrev pub TagLater : (f : List ℕ) → Type 0
TagLater f =
    (t : Tag) → read_of f ≡ answers t → has_vlan f ≡ false → former_of f ≡ 0x8100
    → 24 ≤ length f → (word f 22 ≡ 0xF1C1 → ⊥) → write_of (untagged f) t.number ≡ answers (tag_at (untagged f) 16 t.number)

-- if it remains
abbrev pub FormerVlan : Type 0
FormerVlan = (f : List ℕ) → group_source f ≡ false → TagLater f

-- (of all frames that would be false),
abbrev pub FormerVlanNeeds : Type 0
FormerVlanNeeds = ((f : List ℕ) → TagLater f) → ⊥

-- or 13 if F1C1 then stands there,
abbrev pub FormerVlanTag : Type 0
FormerVlanTag =
    (f : List ℕ) (t : Tag) → read_of f ≡ answers t → has_vlan f ≡ false → former_of f ≡ 0x8100
    → 24 ≤ length f → word f 22 ≡ 0xF1C1 → write_of (untagged f) t.number ≡ refused TAGGED

-- and a shorter one is refused as short.
abbrev pub FormerVlanShort : Type 0
FormerVlanShort =
    (f : List ℕ) (t : Tag) → read_of f ≡ answers t → has_vlan f ≡ false → former_of f ≡ 0x8100
    → length f < 24 → write_of (untagged f) t.number ≡ refused SHORT
