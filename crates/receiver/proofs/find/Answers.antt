-- `receiver::find` meets its contract.
use Rattle.std.proofs.Common.{arith, ◌∙◌}
use Rattle.calls.proofs.Search.{found-nil}
use Rattle.receiver.proofs.Finding.{found-passed, found-hit, found-none}
use Rattle.receiver.proofs.find.Goals.{then-t-i, else-t-i+then-passes}
use Rattle.receiver.proofs.find.Goals as goal

pub loop-i-init : goal.loop-i-init
loop-i-init g c = record { within = omega arith; before = λ p same. found-nil p }

pub loop-i-preserved : goal.loop-i-preserved
loop-i-preserved g c = record {
  within = omega arith;
  before = λ p same. found-passed p _ _ (c.loop-i.invariant.before p same) c.if-t-i.false _ _ (same _ _ c.passes.ensures) c.if-passes.false;
}

pub returns : goal.returns
returns g c p same = elim c.if-t-i.branch [
  | then-t-i w ↦ w.result-is ∙ found-none p _ _ (c.loop-i.invariant.before p same) w.if-t-i.true
  | else-t-i+then-passes w ↦ w.result-is ∙ found-hit p _ _ (c.loop-i.invariant.before p same) w.if-t-i.false _ _ (same _ _ w.passes.ensures) w.if-passes.true
]
