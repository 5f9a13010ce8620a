-- `stream::history::set_bit` meets its contract. Assumes nothing.
use Rattle.std.proofs.Common.{◌≡◌, ℕ, ◌*◌, ◌/◌, ◌%◌, ◌^◌, bit_or, get_or, set, ◌∙◌, ap₂, arith, w64, Fits, rules}
use Rattle.stream.specs.History.{bit, set_bit}
use Rattle.stream.proofs.Words.{set_word}
use Rattle.stream.proofs.history.set_bit.Goals as goal

pub returns-then-k-lt-WORD : goal.returns-then-k-lt-WORD
unfolding set_bit bit
returns-then-k-lt-WORD c =
    let a = c.args in
    let j : 0 ≡ a.k / 64 = omega arith in
    let r : a.k ≡ a.k % 64 = omega arith in
    ap₂ (λ (i n : ℕ). set a.h i (bit_or (get_or a.h i 0) ((1 * 2 ^ n) % 2 ^ 64))) j r
    ∙ set_word a.h (λ i. let f : Fits w64 (get_or a.h i 0) = search rules in f.fits) 8 a.k (search rules) (omega arith)

pub returns : goal.returns
unfolding set_bit bit
returns c =
    let a = c.args in
    set_word a.h (λ i. let f : Fits w64 (get_or a.h i 0) = search rules in f.fits) 8 a.k (search rules) c.requires
