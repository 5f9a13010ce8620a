-- `stream::history::is_short` meets its contract. Assumes nothing.
use Rattle.std.proofs.Common.{get_or, w64, Fits, rules}
use Rattle.stream.specs.History.{within}
use Rattle.stream.proofs.Eight.{short}
use Rattle.stream.proofs.history.is_short.Goals as goal

pub returns : goal.returns
unfolding within
returns c =
    let a = c.args in
    rw (c.any_of.ensures) (short a.h (λ i. let f : Fits w64 (get_or a.h i 0) = search rules in f.fits) (search rules))
