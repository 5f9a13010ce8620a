-- `receiver::follow` meets its contract.
use Rattle.std.proofs.Common.{◌∙◌}
use Rattle.receiver.proofs.Following.{all_left, none_left, none-left, hit, missed}
use Rattle.receiver.proofs.follow.Goals as goal

pub loop-k-init : goal.loop-k-init
loop-k-init c = all_left c.args.index.now c.args.t.now c.args.key _ c.home-from.ensures.0

pub returns-in_err-i : goal.returns-in_err-i
returns-in_err-i c = c.from_residual.ensures ∙ none_left c.args.index.now c.args.t.now c.args.key c.home-from.result c.loop-k.k c.loop-k.invariant c.in_err-i.ensures

pub returns-then-keyed_at : goal.returns-then-keyed_at
returns-then-keyed_at c = hit c.args.index.now c.args.t.now c.args.key _ _ _ c.loop-k.invariant c.in_ok-i.ensures c.keyed_at.ensures c.if-keyed_at.true

pub loop-k-preserved : goal.loop-k-preserved
loop-k-preserved c = missed c.args.index.now c.args.t.now c.args.key _ _ _ c.loop-k.invariant c.in_ok-i.ensures c.keyed_at.ensures c.if-keyed_at.false

pub returns : goal.returns
returns c = none-left c.args.index.now c.args.t.now c.args.key c.home-from.result c.loop-k.k c.loop-k.invariant c.loop-k-test.false
