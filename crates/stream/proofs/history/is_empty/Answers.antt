-- `stream::history::is_empty` meets its contract. Assumes nothing.
use Rattle.std.proofs.Common.{get_or, sym, ◌∙◌, w64, Fits, rules, ne_eqb}
use Rattle.stream.proofs.Past.{first-empty, first-not}
use Rattle.stream.proofs.history.is_empty.Goals as goal

pub returns-then-h-eq0 : goal.returns-then-h-eq0
returns-then-h-eq0 c =
    let a = c.args in
    c.is_short.ensures ∙ first-empty a.h (λ i. let f : Fits w64 (get_or a.h i 0) = search rules in f.fits) (search rules) (search rules)

pub returns-else-h-eq0 : goal.returns-else-h-eq0
returns-else-h-eq0 c =
    let a = c.args in
    ne_eqb _ _ (search rules) ∙ sym (first-not a.h (λ i. let f : Fits w64 (get_or a.h i 0) = search rules in f.fits) (search rules) (search rules))
