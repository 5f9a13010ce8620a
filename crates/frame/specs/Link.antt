-- Document 02, order 10: what an arrival of a virtual link reads of its frame, and what it hands up. Assumes nothing.
use Rattle.std.specs.Prelude.{ℕ, ◌-◌, ◌%◌, Bool, ◌&&◌, List, ltb, leb, length, get_or, take, Result}
use Rattle.refusal.specs.Checks.{Said, said}
use Rattle.refusal.specs.declared.Refusal.{Refusal}
use Rattle.refusal.specs.Checks.Said.{refused, answers}
use Rattle.refusal.specs.Numbers.{LONG, SHORT, GROUP}
use Rattle.std.specs.Prelude.{if◌then◌else◌}
use Rattle.record.specs.Sizes.{frame_most}
use Rattle.frame.specs.Bytes.{overlay}
use Rattle.frame.specs.Frame.{dest_of, group_source}
use Rattle.frame.specs.declared.LinkTag.{LinkTag}

-- "4 (below 15 bytes)": a header of 14, and the number
abbrev pub link_least : ℕ
link_least = 15

-- "the number is the frame's last byte". (Of a list of bytes it is that byte: no byte is above 255.)
unfoldable pub last_byte : List ℕ → ℕ
last_byte f = get_or f (length f - 1) 0 % 256

-- "What is handed up is written without its last byte"
unfoldable pub but_last : List ℕ → List ℕ
but_last f = take (length f - 1) f

-- "The key is the destination with VLAN id 0." Beside it the number.
abbrev pub Link : Type 0
Link = LinkTag

-- 3, 4, 14.
unfoldable pub link_of : List ℕ → Said Link
link_of f =
    if ltb frame_most (length f) then refused LONG
    else if ltb (length f) link_least then refused SHORT
    else if group_source f then refused GROUP
    else answers (record { dest = dest_of f; number = last_byte f })

abbrev pub said_link : Result Link Refusal → Said Link
said_link = said

-- The writer that other crates call. It writes only a frame of 1 byte or more that is no longer than a frame may be, and that fits
-- without its last byte; otherwise it leaves the output as it is.
unfoldable pub shorter_fits : (f out : List ℕ) → Bool
shorter_fits f out = leb 1 (length f) && leb (length f) frame_most && leb (length f - 1) (length out)

unfoldable pub written_shorter : (f out : List ℕ) → List ℕ
written_shorter f out = if shorter_fits f out then overlay (but_last f) out else out
