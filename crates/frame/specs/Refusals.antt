-- Document 01, "Calls and the order of checks", and document 02, order 1: the condition of each refusal number of the two
-- tag calls, in the words of the table (14, group source address, is `group_source`), and each call's list of numbers in its
-- order. They do not mention the calls. Assumes nothing.
use Rattle.std.specs.Prelude.{ℕ, ◌+◌, ◌-◌, ◌≡◌, ◌↔◌, Bool, ◌||◌, not, List, [], ◌∷◌, length, ltb}
use Rattle.refusal.specs.Checks.{Check, First}
use Rattle.refusal.specs.Checks.Said.{refused}
use Rattle.refusal.specs.Numbers.{LONG, SHORT, UNTAGGED, ROOM, TAGGED, GROUP}
use Rattle.record.specs.Sizes.{frame_most, untagged_most}
use Rattle.frame.specs.Frame.{group_source, head_short, tag_short, is_tagged}
use Rattle.frame.specs.TagCalls.{take_tag, write_tag}

-- 3: frame too long
abbrev pub too_long : (most : ℕ) (f : List ℕ) → Bool
too_long most f = ltb most (length f)

-- 4: frame short, by all three rules
abbrev pub short : (f : List ℕ) → Bool
short f = head_short f || tag_short f

-- 5: no F1C1 at the type field
abbrev pub no_tag : (f : List ℕ) → Bool
no_tag f = not (is_tagged f)

-- 8: output too small
abbrev pub too_small : (need : ℕ) (out : List ℕ) → Bool
too_small need out = ltb (length out) need

-- 13: frame already carries F1C1
abbrev pub carries_tag : (f : List ℕ) → Bool
carries_tag f = is_tagged f

-- Take a tag out: 3, 4, 5, 8.
unfoldable pub take_checks : (f out : List ℕ) → List Check
take_checks f out =
    record { number = LONG; holds = too_long frame_most f }
    ∷ record { number = SHORT; holds = short f }
    ∷ record { number = UNTAGGED; holds = no_tag f }
    ∷ record { number = ROOM; holds = too_small (length f - 6) out }
    ∷ []

-- Write a tag: 3 (above 1994), 4 (only the 14 and 18 byte rules), 13, 14, 8 (output below length + 6).
unfoldable pub write_checks : (f out : List ℕ) → List Check
write_checks f out =
    record { number = LONG; holds = too_long untagged_most f }
    ∷ record { number = SHORT; holds = head_short f }
    ∷ record { number = TAGGED; holds = carries_tag f }
    ∷ record { number = GROUP; holds = group_source f }
    ∷ record { number = ROOM; holds = too_small (length f + 6) out }
    ∷ []

-- A call is refused with n exactly if n is the first number of its list whose condition holds.
abbrev pub TakeRefusedExactly : Type 0
TakeRefusedExactly = (f out : List ℕ) (n : ℕ) → ((take_tag f out).said ≡ refused n) ↔ First n (take_checks f out)

abbrev pub WriteRefusedExactly : Type 0
WriteRefusedExactly = (f : List ℕ) (number : ℕ) (out : List ℕ) (n : ℕ) → ((write_tag f number out).said ≡ refused n) ↔ First n (write_checks f out)
