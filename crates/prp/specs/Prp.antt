-- Document 02, order 7: the trailer of a PRP frame, and what it is to turn a frame from PRP and to PRP. What a tag is, and how it
-- is read, is `frame`'s. What hangs on the kind of trailer takes it as a parameter. Assumes nothing.
use Rattle.std.specs.Prelude.{ℕ, ◌+◌, ◌-◌, ◌*◌, ◌/◌, ◌%◌, Bool, true, false, ◌&&◌, ◌||◌, not, List, [], ◌∷◌, ◌++◌, length, take, drop, ltb, eqb, Result}
use Rattle.refusal.specs.Checks.{Said, said}
use Rattle.refusal.specs.declared.Refusal.{Refusal}
use Rattle.refusal.specs.Checks.Said.{refused, answers}
use Rattle.refusal.specs.Numbers.{NETWORK, LONG, SHORT, ROOM, TAGGED, TRAILER}
use Rattle.std.specs.Prelude.{if◌then◌else◌}
use Rattle.record.specs.Sizes.{frame_most}
use Rattle.frame.specs.Bytes.{word, overlay}
use Rattle.frame.specs.declared.Tag.{Tag}
use Rattle.frame.specs.Frame.{type_at, is_tagged, head_short, read_of, untagged, tagged}
use Rattle.frame.specs.TagCalls.{Outcome}
use Rattle.prp.specs.declared.Kind.{Kind}
use Rattle.prp.specs.declared.Kind.TheVariants as kinds
use Rattle.prp.specs.declared.Turned.{Turned}

-- ---- the trailer

-- A kind of trailer is known by its last bytes, those behind number, LAN and size:
pub record Trailer : Type 0 where
  pub last : List ℕ

-- "then 88FB hex. The first edition's lacks the last two bytes".
abbrev pub of2012 : Trailer
of2012 = record { last = 0x88 ∷ 0xFB ∷ [] }

abbrev pub first : Trailer
first = record { last = [] }

abbrev pub trailer_of : Kind → Trailer
trailer_of kinds.First = first
trailer_of kinds.Of2012 = of2012

-- "6 bytes"; 4 without the last two.
unfoldable pub width_of : Trailer → ℕ
width_of k = 4 + length k.last

-- "number 16 bits, LAN 4 bits (A or B hex), size 12 bits", then the last bytes. High byte first, as in a tag.
abbrev pub two_words : ℕ → ℕ → List ℕ
two_words a b = a / 256 ∷ a % 256 ∷ b / 256 ∷ b % 256 ∷ []

unfoldable pub trailer_bytes : Trailer → (number lan size : ℕ) → List ℕ
trailer_bytes k n l s = two_words n (l * 4096 + s) ++ k.last

-- It stands "at the frame's end": from here on.
abbrev pub end_at : Trailer → List ℕ → ℕ
end_at k f = length f - width_of k

abbrev pub number_at : (f : List ℕ) (e : ℕ) → ℕ
number_at f e = word f e

abbrev pub lan_at : (f : List ℕ) (e : ℕ) → ℕ
lan_at f e = word f (e + 2) / 4096

abbrev pub size_at : (f : List ℕ) (e : ℕ) → ℕ
size_at f e = word f (e + 2) % 4096

-- Two lists of bytes are the same.
unfoldable pub same : List ℕ → List ℕ → Bool
same [] [] = true
same [] (y ∷ ys) = false
same (x ∷ xs) [] = false
same (x ∷ xs) (y ∷ ys) = eqb x y && same xs ys

-- "Size counts the bytes after the type field": of a frame with its trailer, the trailer is "included".
unfoldable pub after_type : List ℕ → ℕ
after_type f = length f - (type_at f + 2)

-- "the network that LAN gives (A is 0)"
unfoldable pub lan_of : (network : ℕ) → ℕ
lan_of n = 0xA + n

unfoldable pub network_of : (lan : ℕ) → ℕ
network_of l = l - 0xA

-- "LAN 4 bits (A or B hex)"
unfoldable pub is_lan : ℕ → Bool
is_lan l = eqb l 0xA || eqb l 0xB

-- A "trailer of the set kind with a fitting size and a LAN of A or B".
unfoldable pub wears : Trailer → List ℕ → Bool
wears k f =
    is_lan (lan_at f (end_at k f))
    && eqb (size_at f (end_at k f)) (after_type f)
    && same (drop (end_at k f + 4) f) k.last

-- ---- from PRP and to PRP, without buffers

-- A frame as it is turned, with its network and its number.
pub record Turn : Type 0 where
  pub network : ℕ
  pub number : ℕ
  pub frame : List ℕ

-- The frame without its trailer.
unfoldable pub body_of : Trailer → List ℕ → List ℕ
body_of k f = take (end_at k f) f

-- "Turn a PRP frame into a tagged one with the same number and the network that LAN gives". 3: the tagged frame would pass 2000
-- bytes. 4: shorter than its header and trailer together. 13. 16.
unfoldable pub from_of : Trailer → List ℕ → Said Turn
from_of k f =
    if ltb frame_most (length f - width_of k + 6) then refused LONG
    else if ltb (length f) (type_at f + 2 + width_of k) then refused SHORT
    else if is_tagged f then refused TAGGED
    else if not (wears k f) then refused TRAILER
    else answers (record {
      network = network_of (lan_at f (end_at k f));
      number = number_at f (end_at k f);
      frame = tagged (body_of k f) (number_at f (end_at k f));
    })

-- A frame with no tag, and its trailer.
unfoldable pub trailed : Trailer → (network number : ℕ) (bare : List ℕ) → List ℕ
trailed k w n g = g ++ trailer_bytes k n (lan_of w) (after_type g + width_of k)

-- "and back". 2, "3, 4, 5 in an arrival's order, then 4 again if the frame without its tag is short".
unfoldable pub to_as_read : Trailer → (network : ℕ) (f : List ℕ) → Said Tag → Said Turn
to_as_read k w f (refused n) = refused n
to_as_read k w f (answers t) =
    if head_short (untagged f) then refused SHORT
    else answers (record { network = w; number = t.number; frame = trailed k w t.number (untagged f) })

unfoldable pub to_of : Trailer → (network : ℕ) (f : List ℕ) → Said Turn
to_of k w f = if ltb 1 w then refused NETWORK else to_as_read k w f (read_of f)

-- ---- the two calls

-- A call tells network, number, and how many bytes it wrote.
abbrev pub Told : Type 0
Told = Turned

-- 8: "output below the result". "Bytes of the output behind the result keep their values." A refusal changes no byte.
unfoldable pub turn_into : (out : List ℕ) → Said Turn → Outcome Told
turn_into out (refused n) = record { said = refused n; bytes = out }
turn_into out (answers t) =
    if ltb (length out) (length t.frame) then record { said = refused ROOM; bytes = out }
    else record {
      said = answers (record { network = t.network; number = t.number; length = length t.frame });
      bytes = overlay t.frame out;
    }

unfoldable pub from_prp : Trailer → (f out : List ℕ) → Outcome Told
from_prp k f out = turn_into out (from_of k f)

unfoldable pub to_prp : Trailer → (network : ℕ) (f out : List ℕ) → Outcome Told
to_prp k w f out = turn_into out (to_of k w f)

-- What each case of the answer says: the paper's number, or what the call tells.
abbrev pub said_turned : Result Turned Refusal → Said Told
said_turned = said
