-- What ends the proof of the send for C, and that nothing is lost in what it tells: no refusal has the number 0. Assumes nothing.
use mathlib.Core.Path.{◌≡◌, ap, sym, ◌∙◌}
use Prim.Native.Nat.{ℕ}
use native.Mathlib.Omega.{arith}
use mathlib.Core.List.{List}
use Rattle.refusal.specs.Checks.{Said}
use Rattle.refusal.specs.Checks.Said.{refused, answers}
use Rattle.refusal.proofs.Checks.{first-positive}
use Rattle.sender.specs.declared.Sending.{Sending}
use Rattle.sender.specs.Sender.{Numbered, send_of, said_sent, comes_to}
use Rattle.sender.specs.Refusals.{send_checks}
use Rattle.sender.proofs.Laws.{send-refused-exactly}
use Rattle.port.specs.declared.TagAnswer.{TagAnswer}
use Rattle.port.specs.Sending.{tell_sent, sender_at, SendsInC, SendsCoincide, SentTold}

-- a send that meets the order is told
pub sends-told : {m : ℕ} {f out0 out1 bytes0 bytes1 : List ℕ} (r : Sending) {told : TagAnswer}
    → comes_to r bytes0 bytes1 ≡ send_of (sender_at m) f out0 out1 → told ≡ tell_sent (said_sent r.answer)
    → SendsInC m f out0 out1 told r.sender.next bytes0 bytes1
sends-told r e t = record {
  said = t ∙ ap (λ x. tell_sent x.said) e;
  number = ap (λ x. x.sender.next) e;
  first = ap (λ x. x.out0) e;
  second = ap (λ x. x.out1) e;
}

pub sends-coincide : SendsCoincide
sends-coincide m f out0 out1 a b k l x0 x1 y0 y1 p q = (p.said ∙ sym q.said, p.number ∙ sym q.number, p.first ∙ sym q.first, p.second ∙ sym q.second)

-- what was told as a refusal was not told as an answer
sent-told : (x y : Said Numbered) → (x ≡ refused 0 → ⊥) → (y ≡ refused 0 → ⊥) → tell_sent x ≡ tell_sent y → x ≡ y
sent-told (refused n) (refused m) p q e = ap refused (ap (λ a. a.refusal) e)
sent-told (refused n) (answers b) p q e = absurd (p (ap refused (ap (λ a. a.refusal) e)))
sent-told (answers b) (refused m) p q e = absurd (q (ap refused (sym (ap (λ a. a.refusal) e))))
sent-told (answers b) (answers d) p q e = ap answers (λ i. record { number = (e i).number; length = (e i).length })

never-sent : (m : ℕ) (f out0 out1 : List ℕ) → (send_of (sender_at m) f out0 out1).said ≡ refused 0 → ⊥
unfolding send_checks
never-sent m f out0 out1 e =
    let z = first-positive 0 (send_checks f out0 out1) (omega arith, (omega arith, (omega arith, (omega arith, (omega arith, tt))))) ((send-refused-exactly (sender_at m) f out0 out1 0).0 e) in
    omega arith

pub sent-all-told : SentTold
sent-all-told m f out0 out1 n g back0 back1 e = sent-told _ _ (never-sent m f out0 out1) (never-sent n g back0 back1) e
