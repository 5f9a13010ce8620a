-- Document 01, "The frame", and document 02, order 1: what its bytes mean, how a tag is read, taken out and put in. No buffers
-- here. Assumes nothing.
use Rattle.std.specs.Prelude.{ℕ, ◌+◌, ◌*◌, ◌/◌, ◌%◌, ◌^◌, Bool, ◌&&◌, ◌||◌, not, List, [], ◌∷◌, ◌++◌, length, get_or, take, drop, ltb, eqb}
use Rattle.refusal.specs.Checks.{Said}
use Rattle.refusal.specs.Checks.Said.{refused, answers}
use Rattle.refusal.specs.Numbers.{LONG, SHORT, UNTAGGED, TAGGED, GROUP}
use Rattle.std.specs.Prelude.{if◌then◌else◌}
use Rattle.record.specs.Sizes.{frame_most, untagged_most}
use Rattle.frame.specs.Bytes.{word}
use Rattle.frame.specs.declared.Header.{Header}
use Rattle.frame.specs.declared.Rank.{Rank}
use Rattle.frame.specs.declared.Tag as declared

-- Destination 6 bytes: as one number, high byte first.
abbrev pub dest_of : List ℕ → ℕ
dest_of f = word f 0 * 2 ^ 32 + word f 2 * 2 ^ 16 + word f 4

-- Source 6 bytes: a group source has "the lowest bit of the first source byte set" (order 1).
unfoldable pub group_source : List ℕ → Bool
group_source f = eqb (get_or f 6 0 % 2) 1

-- If the two bytes at 12 are 8100 hex, a VLAN tag of 4 bytes stands there;
unfoldable pub has_vlan : List ℕ → Bool
has_vlan f = eqb (word f 12) 0x8100

-- its VLAN id is the low 12 bits of the bytes at 14 and 15. Without one the VLAN id is 0.
unfoldable pub vlan_of : List ℕ → ℕ
vlan_of f = if has_vlan f then word f 14 % 4096 else 0

-- Behind a VLAN tag the type field is at 16, otherwise at 12.
unfoldable pub type_at : List ℕ → ℕ
type_at f = if has_vlan f then 16 else 12

-- The redundancy tag is 6 bytes at the type field: F1C1 hex,
unfoldable pub is_tagged : List ℕ → Bool
is_tagged f = eqb (word f (type_at f)) 0xF1C1

-- two reserved bytes,
abbrev pub reserved_of : List ℕ → ℕ
reserved_of f = word f (type_at f + 2)

-- the number as two bytes, high byte first.
abbrev pub number_in : List ℕ → ℕ
number_in f = word f (type_at f + 4)

-- The frame's former type field follows.
abbrev pub former_of : List ℕ → ℕ
former_of f = word f (type_at f + 6)

-- Reserved bytes are written zero.
abbrev pub tag_bytes : (number : ℕ) → List ℕ
tag_bytes n = 0xF1 ∷ 0xC1 ∷ 0 ∷ 0 ∷ n / 256 ∷ n % 256 ∷ []

-- A frame is short below 14 bytes; below 18 if 8100 stands at 12;
unfoldable pub head_short : List ℕ → Bool
head_short f = ltb (length f) 14 || (has_vlan f && ltb (length f) 18)

-- and, once F1C1 is found at place o, below o + 8.
unfoldable pub tag_short : List ℕ → Bool
tag_short f = is_tagged f && ltb (length f) (type_at f + 8)

-- "The VLAN tag's three priority bits", the highest of the bytes at 14 and 15, "0 to 7, and whether a tag was there. .. An untagged
-- frame gives 0 and no" (order 11).
abbrev pub unranked : Rank
unranked = record { priority = 0; vlantag = 0 }

unfoldable pub rank_of : List ℕ → Rank
rank_of f = if has_vlan f then record { priority = word f 14 / 8192; vlantag = 1 } else unranked

-- What the reader finds before a frame's data,
unfoldable pub header_of : List ℕ → Header
header_of f = record { dest = dest_of f; vlan = vlan_of f; at = type_at f; tagged = is_tagged f; rank = rank_of f }

-- and with the tag of a tagged frame, the number too.
abbrev pub Tag : Type 0
Tag = declared.Tag

-- The header of a frame that is long enough to have one.
unfoldable pub head_of : List ℕ → Said Header
head_of f = if head_short f then refused SHORT else answers (header_of f)

-- The header and number of a tagged frame: what an arrival and the call that takes a tag out read. The third short rule
-- speaks of tagged frames only, so that it may stand behind 5 here; `take_checks` has 4 before 5, as document 01 has it.
unfoldable pub read_of : List ℕ → Said Tag
read_of f =
    if ltb frame_most (length f) then refused LONG
    else if head_short f then refused SHORT
    else if not (is_tagged f) then refused UNTAGGED
    else if tag_short f then refused SHORT
    else answers (record { header = header_of f; number = number_in f })

-- Taking the tag out removes exactly these six bytes.
unfoldable pub cut_at : (f : List ℕ) (o : ℕ) → List ℕ
cut_at f o = take o f ++ drop (o + 6) f

abbrev pub untagged : List ℕ → List ℕ
untagged f = cut_at f (type_at f)

-- Putting one in.
unfoldable pub tag_at : (f : List ℕ) (o number : ℕ) → List ℕ
tag_at f o n = take o f ++ tag_bytes n ++ drop o f

abbrev pub tagged : (f : List ℕ) (number : ℕ) → List ℕ
tagged f n = tag_at f (type_at f) n

-- Where the writer puts it: 3 above 1994 bytes, 4 by the 14 and 18 byte rules only, 13, 14, or the type field.
unfoldable pub place_of : List ℕ → Said ℕ
place_of f =
    if ltb untagged_most (length f) then refused LONG
    else if head_short f then refused SHORT
    else if is_tagged f then refused TAGGED
    else if group_source f then refused GROUP
    else answers (type_at f)

-- What the writer makes of a frame: the refusal, or the tagged frame.
unfoldable pub put_at : (f : List ℕ) (number : ℕ) → Said ℕ → Said (List ℕ)
put_at f n (refused k) = refused k
put_at f n (answers o) = answers (tag_at f o n)

unfoldable pub write_of : (f : List ℕ) (number : ℕ) → Said (List ℕ)
write_of f n = put_at f n (place_of f)
