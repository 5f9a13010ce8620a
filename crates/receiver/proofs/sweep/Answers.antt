-- `receiver::sweep` meets its contract.
use Rattle.std.proofs.Common.{arith, ◌≡◌, sym, ◌∙◌}
use Rattle.calls.specs.Ticks.{no_sums}
use Rattle.calls.proofs.Visits.{sums-nil}
use Rattle.receiver.proofs.Sweeping.{sweep-starts, sweep-next}
use Rattle.receiver.proofs.sweep.Goals as goal

pub loop-s-init : goal.loop-s-init
loop-s-init c =
    let none : c.default-sums.result ≡ no_sums = λ i. record { resets = c.default-sums.ensures.0 i; damaged = c.default-sums.ensures.1 i } in
    record { counted = none ∙ sym sums-nil; ticked = sweep-starts _ }

pub loop-s-preserved : goal.loop-s-preserved
loop-s-preserved c =
    let w = c.loop-s.invariant in
    let n = sweep-next _ _ _ _ w.counted w.ticked c.loop-s-test.true (omega arith) _ (omega arith) _ c.visit-visited.ensures in
    record { counted = n.0; ticked = n.1 }
