-- `stream::number::difference` meets its contract. Assumes nothing.
use Rattle.std.proofs.Common.{◌≡◌, ◌+◌, ◌-◌, ◌%◌, ℕ, ap, ◌∙◌, arith, w32, to_z, of_z, rules}
use Rattle.stream.specs.Decisions.{as_int, signed, difference}
use Rattle.stream.proofs.number.difference.Goals as goal

pub returns : goal.returns
unfolding difference
returns c =
    let a = c.args in
    let back : to_z w32 (of_z w32 c.signed.result) ≡ c.signed.result = search rules in
    let same : (a.number + (65536 - a.anchor)) % 65536 ≡ (a.number + 65536 - a.anchor) % 65536 = omega arith in
    back ∙ c.signed.ensures ∙ ap (λ (w : ℕ). as_int (signed w)) same
