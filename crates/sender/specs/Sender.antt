-- Document 02, order 6: a sender stream, the call that sends a frame, and the reset. What the tag is, and where it is put, is
-- `write_of` of `frame`. Assumes nothing.
use Rattle.std.specs.Prelude.{ℕ, ◌+◌, ◌||◌, List, length, ltb, eqb, Result}
use Rattle.refusal.specs.Checks.{Said, said}
use Rattle.refusal.specs.declared.Refusal.{Refusal}
use Rattle.refusal.specs.Checks.Said.{refused, answers}
use Rattle.refusal.specs.Numbers.{ROOM}
use Rattle.std.specs.Prelude.{if◌then◌else◌}
use Rattle.frame.specs.Bytes.{overlay}
use Rattle.frame.specs.Frame.{write_of}
use Rattle.sender.specs.declared.Sender.{Sender}
use Rattle.sender.specs.declared.Sending.{Sending}
use Rattle.sender.specs.declared.Sent.{Sent}

-- "A sender stream has a next number, 0 at first
abbrev pub sender_at_first : Sender
sender_at_first = record { next = 0 }

-- and after a reset,
abbrev pub reset_of : Sender → Sender
reset_of s = sender_at_first

-- and 0 again after 65535."
unfoldable pub following : (number : ℕ) → ℕ
following n = if eqb n 65535 then 0 else n + 1

-- A send answers the number that the frame got, and the length of the tagged frame.
abbrev pub Numbered : Type 0
Numbered = Sent

-- It comes to this: what it says, the sender then, and what the two outputs then hold.
pub record Sends : Type 0 where
  pub said : Said Numbered
  pub sender : Sender
  pub out0 : List ℕ
  pub out1 : List ℕ

-- "or to neither. A refused frame uses up no number."
abbrev pub refuses : Sender → (out0 out1 : List ℕ) → (number : ℕ) → Sends
refuses s out0 out1 n = record { said = refused n; sender = s; out0 = out0; out1 = out1 }

-- "writes the same tagged frame to both": bytes behind it keep their values. "8 given if either output is too small".
unfoldable pub send_into : Sender → (out0 out1 : List ℕ) → Said (List ℕ) → Sends
send_into s out0 out1 (refused n) = refuses s out0 out1 n
send_into s out0 out1 (answers g) =
    if ltb (length out0) (length g) || ltb (length out1) (length g) then refuses s out0 out1 ROOM
    else record {
      said = answers (record { number = s.next; length = length g });
      sender = record { next = following s.next };
      out0 = overlay g out0;
      out1 = overlay g out1;
    }

-- "One call takes an untagged frame and two output buffers." "Refusals: those of the tag writer".
unfoldable pub send_of : Sender → (f out0 out1 : List ℕ) → Sends
send_of s f out0 out1 = send_into s out0 out1 (write_of f s.next)

-- What each case of the answer says: the paper's number, or the values;
abbrev pub said_sent : Result Sent Refusal → Said Numbered
said_sent = said

-- and what the code's call comes to.
abbrev pub comes_to : Sending → (out0 out1 : List ℕ) → Sends
comes_to r out0 out1 = record { said = said_sent r.answer; sender = r.sender; out0 = out0; out1 = out1 }
