-- `stream::history::has_bit` meets its contract. Assumes nothing.
use Rattle.std.proofs.Common.{◌≡◌, ℕ, ◌/◌, ◌%◌, ◌^◌, eqb, get_or, ◌∙◌, ap₂, arith, w64, Fits, rules}
use Rattle.stream.specs.History.{bit_of, bit}
use Rattle.stream.proofs.AnyWords.{any-words}
use Rattle.stream.proofs.history.has_bit.Goals as goal

pub returns-then-k-lt-WORD : goal.returns-then-k-lt-WORD
unfolding bit bit_of
returns-then-k-lt-WORD c =
    let a = c.args in
    let i : 0 ≡ a.k / 64 = omega arith in
    let r : a.k ≡ a.k % 64 = omega arith in
    ap₂ (λ (j n : ℕ). eqb (get_or a.h j 0 / 2 ^ n % 2) 1) i r
    ∙ (any-words 8 a.h (record { many = search rules; each = λ i. let f : Fits w64 (get_or a.h i 0) = search rules in f.fits })).test a.k
