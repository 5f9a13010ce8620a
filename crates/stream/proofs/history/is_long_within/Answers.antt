-- `stream::history::is_long_within` meets its contract. Assumes nothing.
use Rattle.std.proofs.Common.{◌≡◌, ℕ, ◌+◌, ◌-◌, ◌*◌, ◌/◌, ◌%◌, ◌^◌, ◌≤◌, ltb, get_or, sym, ap, ◌∙◌, le_trans, arith, pow_mono, w64, Fits, rules, ltb-false, ltb-true, le-ltb}
use Rattle.stream.specs.History.{value, within}
use Rattle.stream.proofs.Digits.{top-clear}
use Rattle.stream.proofs.Words.{rest-clear, last_word}
use Rattle.stream.proofs.history.is_long_within.Goals as goal

pub returns-else-is_clear : goal.returns-else-is_clear
unfolding within
returns-else-is_clear c =
    let a = c.args in
    let i : ℕ = (a.w - 1) / 64 in
    let b : c.is_clear.result ≡ ltb (value a.h) (2 ^ (64 * (i + 1))) =
    rest-clear a.h (λ j. let f : Fits w64 (get_or a.h j 0) = search rules in f.fits) 8 (i + 1) _ (search rules) c.is_clear.ensures in
    let less : a.w ≤ 64 * (i + 1) = omega arith in
    c.if-is_clear.false
    ∙ sym (le-ltb (value a.h) (2 ^ a.w) (le_trans (pow_mono less) (ltb-false (value a.h) (2 ^ (64 * (i + 1))) (sym b ∙ c.if-is_clear.false))))

pub returns-then-is_clear : goal.returns-then-is_clear
unfolding within
returns-then-is_clear c =
    let a = c.args in
    let i : ℕ = (a.w - 1) / 64 in
    let b : c.is_clear.result ≡ ltb (value a.h) (2 ^ (64 * (i + 1))) =
    rest-clear a.h (λ j. let f : Fits w64 (get_or a.h j 0) = search rules in f.fits) 8 (i + 1) _ (search rules) c.is_clear.ensures in
    let place : 64 * i + (a.w - 1) % 64 ≡ a.w - 1 = omega arith in
    ap (λ (x : ℕ). ltb x 2) (last_word a.h (λ j. let f : Fits w64 (get_or a.h j 0) = search rules in f.fits) i ((a.w - 1) % 64) (ltb-true (value a.h) (2 ^ (64 * (i + 1))) (sym b ∙ c.if-is_clear.true))
    ∙ ap (λ (n : ℕ). value a.h / 2 ^ n) place)
    ∙ top-clear (value a.h) a.w (omega arith)
