-- `stream::history::gone_words` meets its contract. Assumes nothing.
use Rattle.std.proofs.Common.{◌≡◌, ℕ, ◌+◌, ◌-◌, ◌*◌, ◌/◌, ◌%◌, ◌^◌, count_ones, get_or, ◌∙◌, ap₂, arith, w64, Fits, rules}
use Rattle.stream.specs.History.{value}
use Rattle.stream.proofs.Words.{Small}
use Rattle.stream.proofs.Shifts.{ones-span-le, ones-word-le}
use Rattle.stream.proofs.AnyWords.{any-words, count_word, count-last}
use Rattle.stream.proofs.history.gone_words.Goals as goal

pub overflow_add-n : goal.overflow_add-n
overflow_add-n c =
    let a = c.args in
    let l = c.loop-i in
    let f : Fits w64 (get_or a.h l.i 0) = search rules in
    let le = ones-span-le (value a.h) (64 * l.i + l.from) (a.shift.window - a.shift.up) l.invariant.1.0 in
    let more = ones-word-le (get_or a.h l.i 0) l.from f.fits in
    let n = l.invariant.1.1.1 in
    let e = c.count-n.ensures in
    omega (arith, le, more, n, e)

pub loop-i-preserved : goal.loop-i-preserved
loop-i-preserved c =
    let a = c.args in
    let l = c.loop-i in
    let s : Small a.h = λ i. let f : Fits w64 (get_or a.h i 0) = search rules in f.fits in (
      omega arith,
      (
        omega arith,
        (
          omega arith,
          ap₂ (λ (n m : ℕ). n + m) l.invariant.1.1.1 c.count-n.ensures
              ∙ count_word a.h (any-words 8 a.h (record { many = search rules; each = s })) s l.i l.from (a.shift.window - a.shift.up) l.invariant.0 l.invariant.1.0,
        ),
      ),
    )

pub overflow_add-result : goal.overflow_add-result
overflow_add-result c =
    let a = c.args in
    let l = c.loop-i in
    let le = ones-span-le (value a.h) (64 * l.i + l.from) (a.shift.window - a.shift.up) l.invariant.1.0 in
    let f : Fits w64 c.cut.result = search rules in
    let more = ones-word-le c.cut.result l.from f.fits in
    let n = l.invariant.1.1.1 in
    let e = c.count.ensures in
    omega (arith, le, more, n, e)

pub returns : goal.returns
returns c =
    let a = c.args in
    let l = c.loop-i in
    let s : Small a.h = λ i. let f : Fits w64 (get_or a.h i 0) = search rules in f.fits in
    let from : l.from ≡ (64 * l.i + l.from) % 64 = omega arith in
    ap₂ (λ (n m : ℕ). n + m) l.invariant.1.1.1 (c.count.ensures ∙ ap₂ (λ (x r : ℕ). count_ones (x / 2 ^ r)) c.cut.ensures from)
    ∙ count-last a.h (any-words 8 a.h (record { many = search rules; each = s })) (64 * l.i + l.from) a.shift.window a.shift.up (omega arith) l.invariant.1.0 l.invariant.1.1.0 (omega arith)
