-- Document 02, order 6: "Two customers have written bad senders." Senders that look right, each as a sending side, and what each
-- of them fails. Assumes nothing.
use Rattle.std.specs.Prelude.{eqb}
use Rattle.refusal.specs.Checks.{Said}
use Rattle.refusal.specs.Checks.Said.{refused, answers}
use Rattle.std.specs.Prelude.{if◌then◌else◌}
use Rattle.frame.specs.TagCalls.{write_tag}
use Rattle.sender.specs.declared.Sender.{Sender}
use Rattle.sender.specs.Sender.{Numbered, Sends, following, reset_of, send_of}
use Rattle.sender.specs.Laws.{RefusedKeeps}
use Rattle.sender.specs.Runs.{Side, SentFrom}

-- the number rises on a refusal
unfoldable pub risen : Sender → Sends → Said Numbered → Sends
risen s r (refused n) = record { said = refused n; sender = record { next = following s.next }; out0 = r.out0; out1 = r.out1 }
risen s r (answers a) = r

unfoldable pub rises_on_refusal : Side
rises_on_refusal = record { send = λ s f out0 out1. risen s (send_of s f out0 out1) (send_of s f out0 out1).said; reset = reset_of }

-- the second output gets the next number
unfoldable pub second_gets_next : Side
second_gets_next = record {
  send = λ s f out0 out1. record {
    said = (send_of s f out0 out1).said;
    sender = (send_of s f out0 out1).sender;
    out0 = (send_of s f out0 out1).out0;
    out1 = (send_of (record { next = following s.next }) f out0 out1).out1;
  };
  reset = reset_of;
}

-- the first output is written before the second's room is known
unfoldable pub first_too_soon : Side
first_too_soon = record {
  send = λ s f out0 out1. record {
    said = (send_of s f out0 out1).said;
    sender = (send_of s f out0 out1).sender;
    out0 = (write_tag f s.next out0).bytes;
    out1 = (send_of s f out0 out1).out1;
  };
  reset = reset_of;
}

-- 65535 is followed by 1
unfoldable pub wraps_to_one : Side
wraps_to_one = record {
  send = λ s f out0 out1. record {
    said = (send_of s f out0 out1).said;
    sender = if eqb s.next 65535 then record { next = 1 } else (send_of s f out0 out1).sender;
    out0 = (send_of s f out0 out1).out0;
    out1 = (send_of s f out0 out1).out1;
  };
  reset = reset_of;
}

-- "Frames sent without a reset carry their index modulo 65536" fails of three of them, and of the other "to both, or to neither".
pub record RuledOut : Type 0 where
  pub rises-on-refusal : SentFrom rises_on_refusal → ⊥
  pub second-gets-next : SentFrom second_gets_next → ⊥
  pub first-too-soon : RefusedKeeps first_too_soon.send → ⊥
  pub wraps-to-one : SentFrom wraps_to_one → ⊥
