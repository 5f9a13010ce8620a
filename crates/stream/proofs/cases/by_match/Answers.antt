-- `stream::cases::by_match` meets its contract: a difference of 0 is no step ahead. Assumes nothing.
use Rattle.std.proofs.Common.{◌≡◌, true, ℤ, sym, ap, ◌∙◌, arith, w32, SFits, of_z, rules, eq-eqb}
use Rattle.stream.specs.Decisions.{Signed, difference, as_int}
use Rattle.stream.specs.Steps.{weighed_as}
use Rattle.stream.proofs.Flags.{is-no}
use Rattle.stream.proofs.Reading.{forward, isℤ, bits_are}
use Rattle.stream.proofs.Sorts.{case-match, match-same}
use Rattle.stream.proofs.cases.by_match.Goals as goal

pub returns-then-d-eq0 : goal.returns-then-d-eq0
unfolding weighed_as
returns-then-d-eq0 c =
    let s = c.args.s in
    let d : Signed = difference c.args.number s.state.anchor in
    let fits : SFits w32 c.difference-d.result = search rules in
    let e : isℤ (as_int d) 0 ≡ true =
    sym (bits_are c.difference-d.result 0 fits (omega arith) ∙ ap (λ (z : ℤ). isℤ z 0) c.difference-d.ensures) ∙ eq-eqb (of_z w32 c.difference-d.result) 0 c.if-d-eq0.true in
    rw (case-match s c.args.number (is-no s.state.any c.if-s-ne0.false) c.requires.0 c.requires.1 ∙ match-same d (forward c.args.number s.state.anchor) e)
