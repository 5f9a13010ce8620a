-- `receiver::places::vacant_from` meets its contract.
use Rattle.std.proofs.Common.{arith}
use Rattle.receiver.proofs.Rebuilding.{vacant-hit, vacant-on, vacant-none}
use Rattle.receiver.proofs.places.vacant_from.Goals as goal

pub returns-then-index-p-eq0 : goal.returns-then-index-p-eq0
returns-then-index-p-eq0 c = vacant-hit c.args.index.now c.args.from c.loop-k.k c.loop-k.invariant c.loop-k-test.true c.if-index-p-eq0.true

pub loop-k-preserved : goal.loop-k-preserved
loop-k-preserved c = vacant-on c.args.index.now c.args.from c.loop-k.k c.loop-k.invariant c.loop-k-test.true (omega arith)

pub returns : goal.returns
returns c = vacant-none c.args.index.now c.args.from c.loop-k.k c.loop-k.invariant c.loop-k-test.false (omega arith)
