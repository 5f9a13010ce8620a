-- Document 01, "The frame" and "Calls and the order of checks", and document 02, orders 1 and 11: what else holds of one frame's
-- bytes, as statements. Assumes nothing.
use Rattle.std.specs.Prelude.{ℕ, ◌+◌, ◌*◌, ◌≤◌, ◌<◌, ◌≡◌, ◌↔◌, ◌⊎◌, true, List, length, take, get_or}
use Rattle.refusal.specs.Checks.{Said}
use Rattle.refusal.specs.Checks.Said.{refused}
use Rattle.refusal.specs.Numbers.{GROUP}
use Rattle.frame.specs.Bytes.{word, Bytes}
use Rattle.frame.specs.Frame.{dest_of, has_vlan, vlan_of, type_at, rank_of, read_of}
use Rattle.frame.specs.TagCalls.{Outcome, take_tag, write_tag, said_head, said_read, said_place, said_taken, said_written}
use Rattle.frame.specs.Refusals.{short}

-- A word stands at a place of a frame that holds both of its bytes.
abbrev pub Stands : (w : ℕ) (i : ℕ) (f : List ℕ) → Type 0
Stands w i f = (i + 2 ≤ length f) × (word f i ≡ w)

-- "A frame is short below 14 bytes; below 18 if 8100 stands at 12; and, once F1C1 is found at place o, below o + 8",
-- where o is the type field: 16 if 8100 stands at 12, otherwise 12.
abbrev pub ShortWords : Type 0
ShortWords =
    (f : List ℕ) → (short f ≡ true)
    ↔ ((length f < 14)
    ⊎ (Stands 0x8100 12 f × (length f < 18))
    ⊎ (Stands 0x8100 12 f × Stands 0xF1C1 16 f × (length f < 24))
    ⊎ ((Stands 0x8100 12 f → ⊥) × Stands 0xF1C1 12 f × (length f < 20)))

-- Order 11, "the VLAN tag's three priority bits": the two bytes at 14 are the priority, one bit that belongs to neither, and the VLAN
-- id. So the priority is 0 to 7, and that bit has no part in it.
abbrev pub PriorityBits : Type 0
PriorityBits =
    (f : List ℕ) → Bytes f → has_vlan f ≡ true
    → ((rank_of f).vlantag ≡ 1) × ((rank_of f).priority ≤ 7) × (vlan_of f < 4096)
    × ((word f 14 ≡ (rank_of f).priority * 8192 + vlan_of f) ⊎ (word f 14 ≡ (rank_of f).priority * 8192 + 4096 + vlan_of f))

-- Equal destination numbers mean equal six bytes.
abbrev pub DestSix : Type 0
DestSix = (f g : List ℕ) → Bytes f → Bytes g → 6 ≤ length f → 6 ≤ length g → dest_of f ≡ dest_of g → take 6 f ≡ take 6 g

-- Reserved bytes are ignored on reading: frames that differ only there read alike.
abbrev pub ReservedIgnored : Type 0
ReservedIgnored =
    (f g : List ℕ) → length f ≡ length g
    → ((i : ℕ) → (i ≡ type_at f + 2 → ⊥) → (i ≡ type_at f + 3 → ⊥) → get_or f i 0 ≡ get_or g i 0)
    → (read_of f ≡ read_of g) × ((out : List ℕ) → take_tag f out ≡ take_tag g out)

-- A refused call changes no byte of the output.
abbrev pub TakeRefusedKeeps : Type 0
TakeRefusedKeeps = (f out : List ℕ) (n : ℕ) → (take_tag f out).said ≡ refused n → (take_tag f out).bytes ≡ out

abbrev pub WriteRefusedKeeps : Type 0
WriteRefusedKeeps = (f : List ℕ) (number : ℕ) (out : List ℕ) (n : ℕ) → (write_tag f number out).said ≡ refused n → (write_tag f number out).bytes ≡ out

-- Order 1 gives 14 to arrivals and the tag writer: taking a tag out never gives it.
abbrev pub TakeNeverGroup : Type 0
TakeNeverGroup = (f out : List ℕ) → (take_tag f out).said ≡ refused GROUP → ⊥

-- The cases of an answer enum say different things.
abbrev pub Telling : {A B : Type 0} → (A → Said B) → Type 0
Telling {A} said = (r s : A) → said r ≡ said s → r ≡ s

-- Two outcomes that meet a contract coincide: for such an enum, r with the bytes x and s with the bytes y are the same
-- wherever both are what the outcome o gives.
abbrev pub Coincide : Type 1
Coincide =
    (A B : Type 0) (said : A → Said B) → Telling said → (o : Outcome B) (r s : A) (x y : List ℕ)
    → (said r ≡ o.said) × (x ≡ o.bytes) → (said s ≡ o.said) × (y ≡ o.bytes) → (r ≡ s) × (x ≡ y)

-- Each answer enum of this crate is such.
abbrev pub AnswersTell : Type 0
AnswersTell = Telling said_head × Telling said_read × Telling said_place × Telling said_taken × Telling said_written
