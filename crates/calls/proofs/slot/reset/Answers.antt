-- `calls::slot::reset` meets its contract: at each return a law says which refusal it is.
use Rattle.std.proofs.Common.{◌∙◌, sym}
use Rattle.calls.proofs.Steps.{reset-none, reset-unsettled, reset-done}
use Rattle.calls.proofs.slot.reset.Goals as goal

pub returns-then-not-in_use : goal.returns-then-not-in_use
returns-then-not-in_use c = reset-none _ _ _ c.in_use.ensures c.if-not-in_use.true

pub returns-then-not-settled : goal.returns-then-not-settled
returns-then-not-settled c =
    reset-unsettled _ _ _ c.in_use.ensures c.if-not-in_use.false (sym c.settled.ensures ∙ c.if-not-settled.true)

pub returns : goal.returns
returns c =
    reset-done _ _ _ c.in_use.ensures c.if-not-in_use.false (sym c.settled.ensures ∙ c.if-not-settled.false)
    c.reset.ensures
