-- The two tag calls for C: how what they say is told in plain fields. Assumes nothing.
use Rattle.std.specs.Prelude.{ℕ, ◌≡◌, List}
use Rattle.refusal.specs.Checks.{Said}
use Rattle.refusal.specs.Checks.Said.{refused, answers}
use Rattle.frame.specs.TagCalls.{Bare, take_tag, write_tag}
use Rattle.port.specs.declared.TagAnswer.{TagAnswer}

-- Take a tag out tells its number and the length, write a tag the number that it was given and the length. A refusal tells
-- its number, and 0 in all other fields.
abbrev pub tell_taken : Said Bare → TagAnswer
tell_taken (refused n) = record { length = 0; number = 0; refusal = n }
tell_taken (answers b) = record { length = b.length; number = b.number; refusal = 0 }

abbrev pub tell_written : (number : ℕ) → Said ℕ → TagAnswer
tell_written number (refused n) = record { length = 0; number = 0; refusal = n }
tell_written number (answers l) = record { length = l; number = number; refusal = 0 }

-- Nothing is lost: calls that are told alike said the same.
abbrev pub TakenTold : Type 0
TakenTold =
    (f out g back : List ℕ) → tell_taken (take_tag f out).said ≡ tell_taken (take_tag g back).said
    → (take_tag f out).said ≡ (take_tag g back).said

abbrev pub WrittenTold : Type 0
WrittenTold =
    (f : List ℕ) (m : ℕ) (out g : List ℕ) (n : ℕ) (back : List ℕ)
    → tell_written m (write_tag f m out).said ≡ tell_written n (write_tag g n back).said
    → (write_tag f m out).said ≡ (write_tag g n back).said
