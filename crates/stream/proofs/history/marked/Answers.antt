-- `stream::history::marked` meets its contract. Assumes nothing.
use Rattle.std.proofs.Common.{◌≡◌, sym, ap, ◌∙◌, arith}
use Rattle.stream.specs.History.{set_bit, pushes, marked}
use Rattle.stream.proofs.Moves.{pushes-at-once}
use Rattle.stream.proofs.history.marked.Goals as goal

pub returns-then-shift-eq0 : goal.returns-then-shift-eq0
unfolding marked pushes
returns-then-shift-eq0 c =
    let a = c.args in
    let d : a.shift.up ≡ 0 = omega arith in
    rw d c.set_bit.ensures

pub returns : goal.returns
unfolding marked
returns c =
    let a = c.args in
    c.set_bit-2.ensures ∙ ap (set_bit a.k) (c.moved.ensures ∙ sym (pushes-at-once a.shift.window a.shift.up a.h (omega arith) (omega arith)))
