-- `receiver::places::sure_from` meets its contract.
use Rattle.std.proofs.Common.{inl, inr}
use Rattle.receiver.proofs.Agreeing.{sure-out, sure-hit, sure-empty, sure-above, sure-on}
use Rattle.receiver.proofs.places.sure_from.Goals as goal

pub returns-then-name-i : goal.returns-then-name-i
returns-then-name-i c = sure-hit c.args.index.now c.args.i c.args.from c.loop-k.k c.loop-k.invariant c.loop-k-test.true c.from-name.ensures c.if-name-i.true

pub returns-then-name-eq0 : goal.returns-then-name-eq0
returns-then-name-eq0 c = elim c.then-name-eq0.either [
  | inl e ↦ sure-empty c.args.index.now c.args.i c.args.from c.loop-k.k c.loop-k.invariant c.loop-k-test.true c.from-name.ensures e
  | inr e ↦ sure-above c.args.index.now c.args.i c.args.from c.loop-k.k c.loop-k.invariant c.loop-k-test.true c.from-name.ensures c.if-name-i.false e.1
]

pub loop-k-preserved : goal.loop-k-preserved
loop-k-preserved c =
    sure-on c.args.index.now c.args.i c.args.from c.loop-k.k c.loop-k.invariant c.loop-k-test.true c.from-name.ensures c.if-name-i.false c.if-name-eq0.false c.if-name-i-2.false

pub returns : goal.returns
returns c = sure-out c.args.index.now c.args.i c.args.from c.loop-k.k c.loop-k.invariant c.loop-k-test.false
