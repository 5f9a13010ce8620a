-- `batch::advance` meets its contract.
use Rattle.std.proofs.Common.{◌≡◌, ◌+◌, refl, sym, ◌∙◌}
use borrow.Author.Tests.{eqb-true, eqb-false}
use Rattle.batch.specs.Steps.{told, added}
use Rattle.batch.proofs.Bodies.{used-some, used_none, ends-here, goes_on}
use Rattle.batch.proofs.advance.Goals.{in-Some, in-None}
use Rattle.batch.proofs.advance.Goals as goal

pub returns-then-ends : goal.returns-then-ends
returns-then-ends c =
    let e = told c.args.answer in
    let used : c.match-handed_up.used ≡ c.args.c.used + added e = elim c.match-handed_up.branch [
      | in-Some w ↦ used-some e _ (sym c.handed_up.ensures ∙ w.in-Some.is) w.used-is
      | in-None w ↦ used_none e _ (sym c.handed_up.ensures ∙ w.in-None.is) w.used-is
    ] in
    ends-here e c.args.c _ used (eqb-true e.refusal _ (sym c.if-ends.ensures)) refl

pub returns : goal.returns
returns c =
    let e = told c.args.answer in
    let used : c.match-handed_up.used ≡ c.args.c.used + added e = elim c.match-handed_up.branch [
      | in-Some w ↦ used-some e _ (sym c.handed_up.ensures ∙ w.in-Some.is) w.used-is
      | in-None w ↦ used_none e _ (sym c.handed_up.ensures ∙ w.in-None.is) w.used-is
    ] in
    goes_on e c.args.c _ used (eqb-false e.refusal _ (sym c.if-ends.ensures))
