-- `stream::history::cut_at` meets its contract. Assumes nothing.
use Rattle.std.proofs.Common.{◌≡◌, ℕ, ◌-◌, ◌*◌, ◌%◌, ◌^◌, get_or, sym, ap, ◌∙◌, w64, Fits, rules}
use Rattle.stream.specs.History.{value, words_of}
use Rattle.stream.proofs.Words.{as-held, words-tab}
use Rattle.stream.proofs.AnyWords.{any-words}
use Rattle.stream.proofs.Filled.{filled}
use Rattle.stream.proofs.history.cut_at.Goals as goal

pub returns-then-w-eq-WINDOW_MOST : goal.returns-then-w-eq-WINDOW_MOST
returns-then-w-eq-WINDOW_MOST c =
    let a = c.args in
    let w : 512 ≡ a.w = sym (search rules) in
    as-held 8 a.h (λ i. let f : Fits w64 (get_or a.h i 0) = search rules in f.fits) (search rules) ∙ ap (λ (n : ℕ). words_of 8 (value a.h % 2 ^ n)) w

pub returns : goal.returns
returns c =
    let a = c.args in
    filled _ _ (λ i. get_or a.h i 0 % 2 ^ (a.w - 64 * i)) c.from_fn.result 8 (λ i y q p k. search rules) c.from_fn.ensures.items
    ∙ words-tab 8 (value a.h % 2 ^ a.w) _ ((any-words 8 a.h (record { many = search rules; each = λ i. let f : Fits w64 (get_or a.h i 0) = search rules in f.fits })).cut a.w)
