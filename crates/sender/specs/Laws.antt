-- Document 02, order 6: what else holds of one send, as statements. Assumes nothing.
use Rattle.std.specs.Prelude.{ℕ, ◌≡◌, List}
use Rattle.refusal.specs.Checks.Said.{refused, answers}
use Rattle.frame.specs.TagCalls.{write_tag}
use Rattle.frame.specs.Laws.{Telling}
use Rattle.sender.specs.declared.Sender.{Sender}
use Rattle.sender.specs.declared.Sending.{Sending}
use Rattle.sender.specs.Sender.{Numbered, Sends, refuses, following, send_of, said_sent, comes_to}

-- "or to neither. A refused frame uses up no number": the sender and every byte of both outputs stay.
abbrev pub RefusedKeeps : (send : Sender → (f out0 out1 : List ℕ) → Sends) → Type 0
RefusedKeeps send = (s : Sender) (f out0 out1 : List ℕ) (n : ℕ) → (send s f out0 out1).said ≡ refused n → send s f out0 out1 ≡ refuses s out0 out1 n

-- A send that is answered is two tags written with the next number, one into each output; and that number is used up.
pub record TwoWrites (s : Sender) (f out0 out1 : List ℕ) (a : Numbered) : Type 0 where
  pub number : a.number ≡ s.next
  pub next : (send_of s f out0 out1).sender.next ≡ following s.next
  pub first : write_tag f s.next out0 ≡ record { said = answers a.length; bytes = (send_of s f out0 out1).out0 }
  pub second : write_tag f s.next out1 ≡ record { said = answers a.length; bytes = (send_of s f out0 out1).out1 }

abbrev pub SendIsTwoWrites : Type 0
SendIsTwoWrites = (s : Sender) (f out0 out1 : List ℕ) (a : Numbered) → (send_of s f out0 out1).said ≡ answers a → TwoWrites s f out0 out1 a

-- Two outcomes that meet the contract coincide: the cases of the answer say different things, so that answer, sender and both
-- outputs are the same.
abbrev pub SentTells : Type 0
SentTells = Telling said_sent

abbrev pub Coincide : Type 0
Coincide =
    (o : Sends) (r s : Sending) (x0 x1 y0 y1 : List ℕ) → comes_to r x0 x1 ≡ o → comes_to s y0 y1 ≡ o
    → (r ≡ s) × (x0 ≡ y0) × (x1 ≡ y1)
