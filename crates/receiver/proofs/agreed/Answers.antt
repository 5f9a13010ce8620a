-- `receiver::agreed` meets its contract: what is sure agrees.
use Rattle.std.proofs.Common.{◌∙◌}
use Rattle.receiver.proofs.Agreeing.{all-sure-agree}
use Rattle.receiver.proofs.agreed.Goals as goal

pub returns-then-all_sure : goal.returns-then-all_sure
returns-then-all_sure c = c.if-all_sure.true ∙ all-sure-agree _ _ c.all_sure.ensures c.if-all_sure.true
