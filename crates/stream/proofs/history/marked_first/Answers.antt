-- `stream::history::marked_first` meets its contract. Assumes nothing.
use Rattle.std.proofs.Common.{ℕ, ◌*◌, ◌%◌, ◌^◌, ◌<◌, ◌≤◌, bit_or, get_or, set, ap, ◌∙◌, ap₂, lt_of_lt_of_le, mod-lt, arith, pow_pos, pow_mono, w64, Fits, rules}
use lib.Bits.{or_lt}
use lib.Pow.{pow-lt}
use Rattle.stream.specs.History.{value, marked_first}
use Rattle.stream.proofs.Digits.{one_shl}
use Rattle.stream.proofs.Words.{Small, set_first}
use Rattle.stream.proofs.Moves.{top_shift}
use Rattle.stream.proofs.AnyWords.{any-words, first_alone}
use Rattle.stream.proofs.history.marked_first.Goals as goal

pub returns : goal.returns
unfolding marked_first
returns c =
    let a = c.args in
    let h = a.h in
    let less : a.shift.window ≤ 64 = omega arith in
    let bit : a.k < 64 = omega arith in
    let s : Small h = λ i. let f : Fits w64 (get_or h i 0) = search rules in f.fits in
    let m : ℕ = value h * 2 ^ a.shift.up % 2 ^ a.shift.window in
    let v : ℕ = bit_or m (2 ^ a.k) in
    let moved = top_shift (get_or h 0 0) a.shift.window a.shift.up less ∙ first_alone h (any-words 8 h (record { many = search rules; each = s })) (omega arith) a.shift.window a.shift.up less (omega arith) in
    let small : m < 2 ^ 64 = lt_of_lt_of_le (mod-lt (value h * 2 ^ a.shift.up) (pow_pos a.shift.window)) (pow_mono less) in
    let one : 2 ^ a.k < 2 ^ 64 = pow-lt bit in
    ap (set h 0) (ap₂ bit_or moved (one_shl a.k bit))
    ∙ set_first h s 7 v (search rules) (or_lt 64 m (2 ^ a.k) small one)
