-- `stream::cases::by_vector` meets its contract: a difference of 0 or less is no step ahead. Assumes nothing.
use Rattle.std.proofs.Common.{◌≡◌, ◌<◌, true, ℤ, pos, nat_abs, sym, ap, ◌∙◌, w32, to_z, of_z, rules, eq-eqb}
use lib.Signed.{le_z}
use Rattle.record.specs.Sizes.{vector_rule}
use Rattle.stream.specs.Decisions.{difference, as_int}
use Rattle.stream.proofs.Flags.{is-no}
use Rattle.stream.proofs.Reading.{forward}
use Rattle.stream.proofs.Sorts.{case-vector, in-past}
use Rattle.stream.proofs.cases.by_vector.Goals as goal

pub returns-then-d-le0 : goal.returns-then-d-le0
returns-then-d-le0 c =
    let s = c.args.s in
    let back : to_z w32 (of_z w32 c.difference-d.result) ≡ c.difference-d.result = search rules in
    let z : to_z w32 (of_z w32 c.difference-d.result) ≡ as_int (difference c.args.number s.state.anchor) = back ∙ c.difference-d.ensures in
    let k : c.unsigned_abs-k.result ≡ nat_abs (as_int (difference c.args.number s.state.anchor)) = c.unsigned_abs-k.ensures.value ∙ ap nat_abs z in
    let near : c.unsigned_abs-k.result < s.window = search rules in
    let low : le_z (as_int (difference c.args.number s.state.anchor)) (pos 0) ≡ true = ap (λ (d : ℤ). le_z d (pos 0)) (sym z) ∙ c.if-d-le0.true in
    rw (c.behind.ensures c.args.number, k) (rw (case-vector s c.args.number (is-no s.state.any c.if-s-ne0.false) (eq-eqb s.rule vector_rule c.requires.1.1)
    ∙ in-past s.window s.state.history _ (forward c.args.number s.state.anchor) (rw k at near) low))
