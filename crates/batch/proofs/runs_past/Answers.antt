-- `batch::runs_past` meets its contract.
use Rattle.std.proofs.Common.{ℕ, ◌≡◌, ◌+◌, ◌-◌, ap, ◌∙◌, arith, inl, inr}
use Rattle.std.proofs.lemmas.List.{take_rest}
use Rattle.batch.specs.Batch.{runs_past}
use Rattle.batch.proofs.Lengths.{past-nought, past-short, past-cut, past-kept}
use Rattle.batch.proofs.runs_past.Goals as goal

pub returns-in_default : goal.returns-in_default
returns-in_default c = past-short c.loop.rest.now _ (omega arith) c.in_default.ensures.cases ∙ c.loop.invariant

pub returns-in_default-get : goal.returns-in_default-get
returns-in_default-get c =
    let w = c.in-Some.ensures.cases in
    past-cut c.loop.rest.now _ _ _ w.0 w.1 w.2 (c.from.ensures ∙ c.from_be_bytes.ensures) _ (omega arith) (elim c.in_default-get.ensures.lookup.0 [
      | inl l ↦ l
      | inr l ↦ omega (arith, l)
    ]) ∙ c.loop.invariant

pub loop-preserved : goal.loop-preserved
loop-preserved c =
    let w = c.in-Some.ensures.cases in
    let l = c.in-Some-get.ensures.lookup in
    let e : c.args.count - (c.loop.counter + 1) ≡ c.args.count - c.loop.counter - 1 = omega arith in
    ap (λ (n : ℕ). runs_past n c.in-Some-get.behind.now) e
    ∙ past-kept c.loop.rest.now _ _ _ w.0 w.1 w.2 (c.from.ensures ∙ c.from_be_bytes.ensures) _ (omega arith) l.0.0 _ (l.0.2 ∙ take_rest c.in-Some.behind.now c.from.result) ∙ c.loop.invariant

pub returns : goal.returns
returns c = past-nought c.loop.rest.now _ (omega arith) ∙ c.loop.invariant
