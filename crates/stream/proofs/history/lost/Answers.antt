-- `stream::history::lost` meets its contract. Assumes nothing.
use Rattle.std.proofs.Common.{◌≡◌, ◌-◌, Bool, true, false, not, refl, sym, ◌∙◌, arith}
use Rattle.std.specs.Int.{from_bool}
use Rattle.stream.specs.History.{value, bit, one}
use Rattle.stream.proofs.Moves.{set-le, leaving-none, leaving-one, leaving-at-once}
use Rattle.stream.proofs.history.lost.Goals as goal

-- a test as a number
byte : (b : Bool) → from_bool (not b) ≡ one (not b)
byte true = refl
byte false = refl

pub returns-then-d-n : goal.returns-then-d-n
returns-then-d-n c =
    let a = c.args in
    sym (leaving-none a.shift.window a.shift.up a.n a.h (omega arith) (omega arith) (omega arith))

pub returns-then-d-eq1 : goal.returns-then-d-eq1
returns-then-d-eq1 c =
    let a = c.args in
    let d : a.shift.up ≡ 1 = omega arith in
    let n : a.n ≡ 0 = omega arith in
    rw (d, n, leaving-one a.shift.window a.h) (c.from.ensures ∙ rw (c.has_bit.ensures) (byte (bit (a.shift.window - 1) a.h)))

pub overflow_sub-from : goal.overflow_sub-from
overflow_sub-from c =
    let a = c.args in
    let le = set-le (a.shift.window - a.n) (a.shift.up - a.n) (value a.h) in
    let e = c.gone.ensures in
    let f = c.from-2.ensures in
    omega (arith, le, e, f)

pub returns : goal.returns
returns c =
    let a = c.args in
    c.from-3.ensures ∙ rw (c.from-2.ensures, c.gone.ensures) (sym (leaving-at-once a.shift.window a.shift.up a.n a.h (omega arith) (omega arith)))
