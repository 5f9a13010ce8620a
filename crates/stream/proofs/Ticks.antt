-- A tick, case by case as the code goes. Assumes nothing.
use Rattle.std.proofs.Common.{◌≡◌, ◌-◌, arith, ne_eqb}
use Rattle.stream.specs.Decisions.{with, expires, ticked}
use Rattle.stream.specs.Laws.{TickLeaves, TickNoneLeft}

pub tick-leaves : TickLeaves
unfolding ticked expires
tick-leaves s l = rw l

pub tick-none-left : TickNoneLeft
unfolding ticked expires
tick-none-left s l e =
    let z : s.state.remaining - 1 ≡ s.state.remaining = omega arith in
    rw (l, ne_eqb s.state.remaining 1 (λ o. omega arith))
    (λ i. with s (record { history = s.state.history; anchor = s.state.anchor; remaining = z i; early = s.state.early; any = s.state.any }) s.counts)
