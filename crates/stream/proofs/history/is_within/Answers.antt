-- `stream::history::is_within` meets its contract. Assumes nothing.
use Rattle.std.proofs.Common.{◌≡◌, ℕ, ◌+◌, ◌-◌, ◌*◌, ◌/◌, ◌^◌, ◌≤◌, true, false, ltb, get_or, sym, ap, ◌∙◌, le_trans, arith, pow_mono, w64, Fits, rules, ltb-false, ltb-true, le-ltb}
use Rattle.stream.specs.History.{value, within}
use Rattle.stream.proofs.Digits.{top-clear}
use Rattle.stream.proofs.Words.{last_word}
use Rattle.stream.proofs.history.is_within.Goals as goal

pub returns-then-not-is_short : goal.returns-then-not-is_short
unfolding within
returns-then-not-is_short c =
    let a = c.args in
    let b : within 64 a.h ≡ false = cc in
    let less : a.w ≤ 64 = omega arith in
    sym (le-ltb (value a.h) (2 ^ a.w) (le_trans (pow_mono less) (ltb-false (value a.h) (2 ^ 64) b)))

pub returns : goal.returns
unfolding within
returns c =
    let a = c.args in
    let b : within 64 a.h ≡ true = cc in
    let place : 64 * 0 + (a.w - 1) ≡ a.w - 1 = omega arith in
    ap (λ (x : ℕ). ltb x 2) (last_word a.h (λ i. let f : Fits w64 (get_or a.h i 0) = search rules in f.fits) 0 (a.w - 1) (ltb-true (value a.h) (2 ^ 64) b)
    ∙ ap (λ (n : ℕ). value a.h / 2 ^ n) place)
    ∙ top-clear (value a.h) a.w (omega arith)
