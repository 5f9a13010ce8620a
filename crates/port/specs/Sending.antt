-- The sending side for C: how what a send says is told in plain fields. Assumes nothing.
use Rattle.std.specs.Prelude.{ℕ, ◌≡◌, List}
use Rattle.refusal.specs.Checks.{Said}
use Rattle.refusal.specs.Checks.Said.{refused, answers}
use Rattle.sender.specs.declared.Sender.{Sender}
use Rattle.sender.specs.Sender.{Numbered, send_of}
use Rattle.port.specs.declared.TagAnswer.{TagAnswer}

-- A send tells the number that the frame got, and the length. A refusal tells its number, and 0 in all other fields.
abbrev pub tell_sent : Said Numbered → TagAnswer
tell_sent (refused n) = record { length = 0; number = 0; refusal = n }
tell_sent (answers a) = record { length = a.length; number = a.number; refusal = 0 }

-- The sender with this next number.
abbrev pub sender_at : (next : ℕ) → Sender
sender_at next = record { next = next }

-- The contract of the exported send: what order 6 says of the call is told, and the next number and both outputs are those that
-- it gives.
pub record SendsInC (next : ℕ) (f out0 out1 : List ℕ) (told : TagAnswer) (next_then : ℕ) (bytes0 bytes1 : List ℕ) : Type 0 where
  pub said : told ≡ tell_sent (send_of (sender_at next) f out0 out1).said
  pub number : next_then ≡ (send_of (sender_at next) f out0 out1).sender.next
  pub first : bytes0 ≡ (send_of (sender_at next) f out0 out1).out0
  pub second : bytes1 ≡ (send_of (sender_at next) f out0 out1).out1

-- Two outcomes that meet it coincide.
abbrev pub SendsCoincide : Type 0
SendsCoincide =
    (m : ℕ) (f out0 out1 : List ℕ) (a b : TagAnswer) (k l : ℕ) (x0 x1 y0 y1 : List ℕ)
    → SendsInC m f out0 out1 a k x0 x1 → SendsInC m f out0 out1 b l y0 y1 → (a ≡ b) × (k ≡ l) × (x0 ≡ y0) × (x1 ≡ y1)

-- Nothing is lost: sends that are told alike said the same.
abbrev pub SentTold : Type 0
SentTold =
    (m : ℕ) (f out0 out1 : List ℕ) (n : ℕ) (g back0 back1 : List ℕ)
    → tell_sent (send_of (sender_at m) f out0 out1).said ≡ tell_sent (send_of (sender_at n) g back0 back1).said
    → (send_of (sender_at m) f out0 out1).said ≡ (send_of (sender_at n) g back0 back1).said
