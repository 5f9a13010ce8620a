-- `calls::arrival::ask` meets its contract: at each return a law says which refusal it is.
use Rattle.std.proofs.Common.{ap, sym, ◌∙◌}
use Rattle.refusal.specs.Checks.{said}
use Rattle.refusal.proofs.Checks.{passed-on}
use Rattle.calls.proofs.Steps.{ask-many, ask-refused, ask-group, ask-tagged}
use Rattle.calls.proofs.arrival.ask.Goals as goal

pub returns-in_err-begin : goal.returns-in_err-begin
returns-in_err-begin c = ap said (passed-on _ c.from_residual.ensures.1) ∙ ask-many _ _ _ (sym c.begin.ensures ∙ c.in_err-begin.was)

pub returns-in_err-tag : goal.returns-in_err-tag
returns-in_err-tag c =
    ap said (passed-on _ c.from_residual-in_err-tag.ensures.1)
    ∙ ask-refused _ _ _ (sym c.begin.ensures ∙ c.in_ok-begin.was) _ c.read_tag.ensures c.in_err-tag.was

pub returns-then-group_source : goal.returns-then-group_source
returns-then-group_source c =
    ask-group _ _ _ (sym c.begin.ensures ∙ c.in_ok-begin.was) c.read_tag.ensures c.in_ok-tag.was c.group_source.ensures c.if-group_source.true

pub returns : goal.returns
returns c =
    ask-tagged _ _ _ (sym c.begin.ensures ∙ c.in_ok-begin.was) c.read_tag.ensures c.in_ok-tag.was c.group_source.ensures c.if-group_source.false
