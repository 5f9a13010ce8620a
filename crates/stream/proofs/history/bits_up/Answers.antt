-- `stream::history::bits_up` meets its contract. Assumes nothing.
use Rattle.std.proofs.Common.{◌+◌, ◌-◌, ◌*◌, ◌/◌, ◌%◌, ◌^◌, ◌∷◌, get_or, ◌∙◌, w64, Fits, rules}
use Rattle.stream.specs.History.{value}
use Rattle.stream.proofs.Words.{words-tab}
use Rattle.stream.proofs.Filled.{filled}
use Rattle.stream.proofs.AnyWords.{any-words, bits_up}
use Rattle.stream.proofs.history.bits_up.Goals as goal

pub returns : goal.returns
returns c =
    let a = c.args in
    filled _ _ (λ i. (get_or a.h i 0 * 2 ^ a.b) % 2 ^ 64 + get_or (0 ∷ a.h) i 0 / 2 ^ (64 - a.b)) c.from_fn.result 8 (λ i y q p k. search rules) c.from_fn.ensures.items
    ∙ words-tab 8 (value a.h * 2 ^ a.b) _ (bits_up a.h (any-words 8 a.h (record { many = search rules; each = λ i. let f : Fits w64 (get_or a.h i 0) = search rules in f.fits })) a.b c.requires)
