-- Document 01, "Calls and the order of checks": write a tag and take a tag out, with their output buffer; and what
-- each case of an answer enum says. Assumes nothing.
use Rattle.std.specs.Prelude.{ℕ, ◌+◌, ◌-◌, Bool, ◌&&◌, ◌||◌, List, length, ltb, leb, eqb, Option, None, Some, Result}
use Rattle.refusal.specs.Checks.{Said, said}
use Rattle.refusal.specs.declared.Refusal.{Refusal}
use Rattle.refusal.specs.Checks.Said.{refused, answers}
use Rattle.refusal.specs.Numbers.{SHORT, ROOM}
use Rattle.std.specs.Prelude.{if◌then◌else◌}
use Rattle.record.specs.Sizes.{frame_most, untagged_most}
use Rattle.frame.specs.Bytes.{overlay}
use Rattle.frame.specs.Frame.{Tag, read_of, write_of, cut_at, tag_at, untagged}
use Rattle.frame.specs.declared.Header.{Header}
use Rattle.frame.specs.declared.Bare as declared

-- A call on one frame comes to this: what it says, and what its output buffer holds then.
pub record Outcome (A : Type 0) : Type 0 where
  pub said : Said A
  pub bytes : List ℕ

-- Take a tag out: it answers number and length. The frame without its tag stands at the start of the output; bytes
-- behind it keep their values. A refusal changes no byte.
abbrev pub Bare : Type 0
Bare = declared.Bare

unfoldable pub take_from : (f out : List ℕ) → Said Tag → Outcome Bare
take_from f out (refused n) = record { said = refused n; bytes = out }
take_from f out (answers t) =
    if ltb (length out) (length f - 6) then record { said = refused ROOM; bytes = out }
    else record { said = answers (record { number = t.number; length = length f - 6 }); bytes = overlay (untagged f) out }

unfoldable pub take_tag : (f out : List ℕ) → Outcome Bare
take_tag f out = take_from f out (read_of f)

-- Write a tag: it answers the length of the tagged frame, which stands at the start of the output; bytes behind it
-- keep their values. A refusal changes no byte.
unfoldable pub write_into : (out : List ℕ) → Said (List ℕ) → Outcome ℕ
write_into out (refused n) = record { said = refused n; bytes = out }
write_into out (answers g) =
    if ltb (length out) (length g) then record { said = refused ROOM; bytes = out }
    else record { said = answers (length g); bytes = overlay g out }

unfoldable pub write_tag : (f : List ℕ) (number : ℕ) (out : List ℕ) → Outcome ℕ
write_tag f n out = write_into out (write_of f n)

-- What each case of an answer says: the paper's number, or the values. A frame with no header is short.
abbrev pub said_head : Option Header → Said Header
said_head None = refused SHORT
said_head (Some h) = answers h

abbrev pub said_read : Result Tag Refusal → Said Tag
said_read = said

abbrev pub said_place : Result ℕ Refusal → Said ℕ
said_place = said

abbrev pub said_taken : Result Bare Refusal → Said Bare
said_taken = said

abbrev pub said_written : Result ℕ Refusal → Said ℕ
said_written = said

-- The two writers that other crates call. They write only where a type field can stand (12 or 16), the frame is no
-- longer than a frame may be, and the bytes fit; otherwise they leave the output as it is.
unfoldable pub type_place : (o : ℕ) → Bool
type_place o = eqb o 12 || eqb o 16

unfoldable pub cut_fits : (f : List ℕ) (o : ℕ) (out : List ℕ) → Bool
cut_fits f o out = type_place o && leb (o + 6) (length f) && leb (length f) frame_most && leb (length f) (length out + 6)

unfoldable pub written_without : (f : List ℕ) (o : ℕ) (out : List ℕ) → List ℕ
written_without f o out = if cut_fits f o out then overlay (cut_at f o) out else out

unfoldable pub tag_fits : (f : List ℕ) (o : ℕ) (out : List ℕ) → Bool
tag_fits f o out = type_place o && leb o (length f) && leb (length f) untagged_most && leb (length f + 6) (length out)

unfoldable pub written_with : (f : List ℕ) (o number : ℕ) (out : List ℕ) → List ℕ
written_with f o n out = if tag_fits f o out then overlay (tag_at f o n) out else out
