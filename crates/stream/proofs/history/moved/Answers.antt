-- `stream::history::moved` meets its contract. Assumes nothing.
use Rattle.std.proofs.Common.{ℕ, ◌*◌, ◌%◌, ◌^◌, ◌<◌, ◌≤◌, List, get_or, set, replicate, sym, ap, ◌∙◌, lt_of_lt_of_le, mod-lt, arith, pow_pos, pow_mono, w64, Fits, rules}
use Rattle.stream.specs.History.{value, words_of}
use Rattle.stream.proofs.Words.{one_word, cut_up}
use Rattle.stream.proofs.Moves.{top_shift}
use Rattle.stream.proofs.AnyWords.{any-words, first_alone}
use Rattle.stream.proofs.history.moved.Goals as goal

pub returns-then-w-le-WORD : goal.returns-then-w-le-WORD
returns-then-w-le-WORD c =
    let a = c.args in
    let v : ℕ = (value a.h * 2 ^ a.shift.up) % 2 ^ a.shift.window in
    let less : a.shift.window ≤ 64 = omega arith in
    let small : v < 2 ^ 64 = lt_of_lt_of_le (mod-lt (value a.h * 2 ^ a.shift.up) (pow_pos a.shift.window)) (pow_mono less) in
    ap (λ (x : ℕ). set (replicate 8 0) 0 x) (top_shift (get_or a.h 0 0) a.shift.window a.shift.up less ∙ first_alone a.h (any-words 8 a.h (record { many = search rules; each = λ i. let f : Fits w64 (get_or a.h i 0) = search rules in f.fits })) (omega arith) a.shift.window a.shift.up less (omega arith))
    ∙ sym (one_word 7 v small)

pub returns-then-d-lt-WORD : goal.returns-then-d-lt-WORD
returns-then-d-lt-WORD c =
    let a = c.args in
    c.cut_at.ensures ∙ ap (λ (l : List ℕ). words_of 8 (value l % 2 ^ a.shift.window)) c.bits_up.ensures
    ∙ cut_up 8 (value a.h * 2 ^ a.shift.up) a.shift.window (omega arith)
