-- `stream::history::has_above` meets its contract. Assumes nothing.
use Rattle.std.proofs.Common.{get_or, w64, Fits, rules}
use Rattle.stream.specs.History.{bit_of, bit}
use Rattle.stream.proofs.AnyWords.{any-words}
use Rattle.stream.proofs.history.has_above.Goals as goal

pub returns : goal.returns
unfolding bit bit_of
returns c =
    let a = c.args in
    (any-words 8 a.h (record { many = search rules; each = λ i. let f : Fits w64 (get_or a.h i 0) = search rules in f.fits })).test a.k
