-- `receiver::decide_at` meets its contract.
use Rattle.std.proofs.Common.{ap, ◌∙◌, Ok}
use Rattle.refusal.proofs.Checks.{passed-on}
use Rattle.receiver.proofs.Deciding.{refused-stays, marked-right}
use Rattle.receiver.proofs.decide_at.Goals as goal

pub returns-in_err-weighed : goal.returns-in_err-weighed
returns-in_err-weighed c =
    let e = passed-on _ c.from_residual.ensures.1 in
    refused-stays _ _ _ c.requires _ _ _ (e ∙ c.in_err-weighed.ensures) e

pub returns-in-HandedUp : goal.returns-in-HandedUp
returns-in-HandedUp c = marked-right _ _ _ c.requires _ _ _ c.judge.ensures (c.in_ok-weighed.was ∙ ap Ok c.in-HandedUp.is) c.mark_at.ensures
