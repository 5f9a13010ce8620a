-- `sender::write_both` meets its contract: at each return a law says what the call comes to.
use Rattle.std.proofs.Common.{refl, sym, ap, ◌∙◌}
use Rattle.refusal.specs.Checks.{said}
use Rattle.refusal.proofs.Checks.{passed-on}
use Rattle.sender.proofs.Sends.{send-refused, send-small0, send-small1, send-done}
use Rattle.sender.proofs.write_both.Goals as goal

pub returns-in_err-at : goal.returns-in_err-at
returns-in_err-at c =
    let e = send-refused c.args.sender c.args.frame.now c.args.out0.now c.args.out1.now refl (sym c.place_of.ensures ∙ ap said c.in_err-at.was) in
    let p = passed-on c.from_residual.result c.from_residual.ensures.1 in
    record { said = ap said p ∙ ap (λ x. x.said) e; out0_after = ap (λ x. x.out0) e; out1_after = ap (λ x. x.out1) e }

pub returns-then-out0-length : goal.returns-then-out0-length
returns-then-out0-length c =
    let e = send-small0 c.args.sender c.args.frame.now c.args.out0.now c.args.out1.now (sym c.place_of.ensures ∙ ap said c.in_ok-at.was) refl c.if-out0-length.true in
    record { said = ap (λ x. x.said) e; out0_after = ap (λ x. x.out0) e; out1_after = ap (λ x. x.out1) e }

pub returns-then-out1-length : goal.returns-then-out1-length
returns-then-out1-length c =
    let e = send-small1 c.args.sender c.args.frame.now c.args.out0.now c.args.out1.now (sym c.place_of.ensures ∙ ap said c.in_ok-at.was) refl c.if-out0-length.false c.if-out1-length.true in
    record { said = ap (λ x. x.said) e; out0_after = ap (λ x. x.out0) e; out1_after = ap (λ x. x.out1) e }

pub returns : goal.returns
returns c =
    let e =
    send-done c.args.sender c.args.frame.now c.args.out0.now c.args.out1.now (sym c.place_of.ensures ∙ ap said c.in_ok-at.was) refl refl
    c.if-out0-length.false c.if-out1-length.false c.write_with.ensures c.write_with-2.ensures in
    record { said = ap (λ x. x.said) e; out0_after = ap (λ x. x.out0) e; out1_after = ap (λ x. x.out1) e }
