-- `frame::take_tag` meets its contract: at each return a law says what the call comes to.
use Rattle.std.proofs.Common.{arith, ap, ◌∙◌}
use Rattle.refusal.specs.Checks.{said}
use Rattle.refusal.proofs.Checks.{passed-on}
use Rattle.frame.proofs.Heads.{tag_is}
use Rattle.frame.proofs.Writes.{take-refused, take-small, take_done}
use Rattle.frame.proofs.take_tag.Goals as goal

pub returns-in_err-tag-clause-result_value : goal.returns-in_err-tag-clause-result_value
returns-in_err-tag-clause-result_value c = ap said (passed-on _ c.from_residual.ensures.1) ∙ (take-refused _ _ _ c.read_tag.ensures c.in_err-tag.was).0

pub returns-in_err-tag-clause-out_after : goal.returns-in_err-tag-clause-out_after
returns-in_err-tag-clause-out_after c = (take-refused _ _ _ c.read_tag.ensures c.in_err-tag.was).1

pub overflow_sub-length : goal.overflow_sub-length
overflow_sub-length c = let k = tag_is _ _ c.read_tag.ensures c.in_ok-tag.was in omega arith

pub returns-then-out-length-clause-result_value : goal.returns-then-out-length-clause-result_value
returns-then-out-length-clause-result_value c = (take-small _ _ _ c.read_tag.ensures c.in_ok-tag.was c.if-out-length.true).0

pub returns-then-out-length-clause-out_after : goal.returns-then-out-length-clause-out_after
returns-then-out-length-clause-out_after c = (take-small _ _ _ c.read_tag.ensures c.in_ok-tag.was c.if-out-length.true).1

pub returns-clause-result_value : goal.returns-clause-result_value
returns-clause-result_value c =
    (take_done _ _ _ c.read_tag.ensures c.in_ok-tag.was c.if-out-length.false c.write_without.ensures).0

pub returns-clause-out_after : goal.returns-clause-out_after
returns-clause-out_after c = (take_done _ _ _ c.read_tag.ensures c.in_ok-tag.was c.if-out-length.false c.write_without.ensures).1
