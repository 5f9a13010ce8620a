-- `stream::history::gone` meets its contract. Assumes nothing.
use Rattle.std.proofs.Common.{get_or, count_ones, ap, ◌∙◌, arith, w64, Fits, rules}
use Rattle.stream.proofs.Moves.{top_field}
use Rattle.stream.proofs.AnyWords.{any-words, count-first}
use Rattle.stream.proofs.history.gone.Goals as goal

pub returns-then-w-le-WORD : goal.returns-then-w-le-WORD
returns-then-w-le-WORD c =
    let a = c.args in
    ap count_ones (top_field (get_or a.h 0 0) a.shift.window a.shift.up (omega arith) (omega arith))
    ∙ count-first a.h (any-words 8 a.h (record { many = search rules; each = λ i. let f : Fits w64 (get_or a.h i 0) = search rules in f.fits })) a.shift.window a.shift.up (omega arith) (omega arith)
