-- `frame::write_tag` meets its contract: at each return a law says what the call comes to.
use Rattle.std.proofs.Common.{sym, ap, ◌∙◌}
use Rattle.refusal.specs.Checks.{said}
use Rattle.refusal.proofs.Checks.{passed-on}
use Rattle.frame.specs.TagCalls.{said_place}
use Rattle.frame.proofs.Writes.{write-refused, write-small, write_done}
use Rattle.frame.proofs.write_tag.Goals as goal

pub returns-then-out-len-clause-result_value : goal.returns-then-out-len-clause-result_value
returns-then-out-len-clause-result_value c = (write-small _ _ _ (sym c.place_of.ensures ∙ ap said_place c.in_ok-at.was) c.if-out-len.true).0

pub returns-then-out-len-clause-out_after : goal.returns-then-out-len-clause-out_after
returns-then-out-len-clause-out_after c = (write-small _ _ _ (sym c.place_of.ensures ∙ ap said_place c.in_ok-at.was) c.if-out-len.true).1

pub returns-in_err-at-clause-result_value : goal.returns-in_err-at-clause-result_value
returns-in_err-at-clause-result_value c =
    ap said (passed-on _ c.from_residual.ensures.1) ∙ (write-refused _ _ _ (sym c.place_of.ensures ∙ ap said_place c.in_err-at.was)).0

pub returns-in_err-at-clause-out_after : goal.returns-in_err-at-clause-out_after
returns-in_err-at-clause-out_after c = (write-refused _ _ _ (sym c.place_of.ensures ∙ ap said_place c.in_err-at.was)).1

pub returns-clause-result_value : goal.returns-clause-result_value
returns-clause-result_value c =
    (write_done _ _ _ (sym c.place_of.ensures ∙ ap said_place c.in_ok-at.was) c.if-out-len.false c.write_with.ensures).0

pub returns-clause-out_after : goal.returns-clause-out_after
returns-clause-out_after c =
    (write_done _ _ _ (sym c.place_of.ensures ∙ ap said_place c.in_ok-at.was) c.if-out-len.false c.write_with.ensures).1
