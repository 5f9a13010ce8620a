-- `sender::send` meets its contract: the next number is used up by a frame that is sent, and stays with one that is refused.
use Rattle.std.proofs.Common.{ℕ, List, ◌≡◌, sym, ap, ◌∙◌}
use Rattle.refusal.specs.Checks.{said}
use Rattle.sender.specs.declared.Sender.{Sender}
use Rattle.sender.specs.declared.Sending.{Sending}
use Rattle.sender.specs.Sender.{send_of, said_sent, comes_to}
use Rattle.sender.proofs.Laws.{refused-keeps, send-is-two-writes}
use Rattle.sender.proofs.send.Goals as goal

-- what is written, and the sender then
together : (s : Sender) (f out0 out1 : List ℕ) (r : Sending) {new0 new1 : List ℕ}
    → said_sent r.answer ≡ (send_of s f out0 out1).said → r.sender.next ≡ (send_of s f out0 out1).sender.next
    → new0 ≡ (send_of s f out0 out1).out0 → new1 ≡ (send_of s f out0 out1).out1 → comes_to r new0 new1 ≡ send_of s f out0 out1
together s f out0 out1 r a n x y = λ i. record { said = a i; sender = record { next = n i }; out0 = x i; out1 = y i }

pub returns-in-Ok : goal.returns-in-Ok
returns-in-Ok c =
    let w = c.write_both-answer.ensures in
    let two = send-is-two-writes c.args.sender c.args.frame.now c.args.out0.now c.args.out1.now _ (sym w.said ∙ ap said c.in-Ok.is) in
    together c.args.sender c.args.frame.now c.args.out0.now c.args.out1.now _ w.said (c.after.ensures ∙ sym two.next) w.out0_after w.out1_after

pub returns-in-Err : goal.returns-in-Err
returns-in-Err c =
    let w = c.write_both-answer.ensures in
    let same = refused-keeps c.args.sender c.args.frame.now c.args.out0.now c.args.out1.now _ (sym w.said ∙ ap said c.in-Err.is) in
    together c.args.sender c.args.frame.now c.args.out0.now c.args.out1.now _ w.said (ap (λ x. x.sender.next) (sym same)) w.out0_after w.out1_after
