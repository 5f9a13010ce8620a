-- Document 02, order 6: "Refusals: those of the tag writer, with 8 given if either output is too small." The list in its
-- order; each condition is one of the tag writer's own list, and does not mention the call. Assumes nothing.
use Rattle.std.specs.Prelude.{ℕ, ◌+◌, ◌≡◌, ◌↔◌, Bool, ◌||◌, List, [], ◌∷◌, length}
use Rattle.refusal.specs.Checks.{Check, First}
use Rattle.refusal.specs.Checks.Said.{refused}
use Rattle.refusal.specs.Numbers.{LONG, SHORT, ROOM, TAGGED, GROUP}
use Rattle.record.specs.Sizes.{untagged_most}
use Rattle.frame.specs.Frame.{group_source, head_short}
use Rattle.frame.specs.Refusals.{too_long, too_small, carries_tag}
use Rattle.sender.specs.declared.Sender.{Sender}
use Rattle.sender.specs.Sender.{send_of}

-- 8: either output too small
abbrev pub either_too_small : (need : ℕ) (out0 out1 : List ℕ) → Bool
either_too_small need out0 out1 = too_small need out0 || too_small need out1

-- Send: 3 (above 1994), 4 (only the 14 and 18 byte rules), 13, 14, 8 (either output below length + 6).
unfoldable pub send_checks : (f out0 out1 : List ℕ) → List Check
send_checks f out0 out1 =
    record { number = LONG; holds = too_long untagged_most f }
    ∷ record { number = SHORT; holds = head_short f }
    ∷ record { number = TAGGED; holds = carries_tag f }
    ∷ record { number = GROUP; holds = group_source f }
    ∷ record { number = ROOM; holds = either_too_small (length f + 6) out0 out1 }
    ∷ []

-- It is refused with n exactly if n is the first number of the list whose condition holds.
abbrev pub SendRefusedExactly : Type 0
SendRefusedExactly = (s : Sender) (f out0 out1 : List ℕ) (n : ℕ) → ((send_of s f out0 out1).said ≡ refused n) ↔ First n (send_checks f out0 out1)
