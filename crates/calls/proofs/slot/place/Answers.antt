-- `calls::slot::place` meets its contract.
use Rattle.std.proofs.Common.{sym, ◌∙◌}
use Rattle.calls.proofs.Steps.{place-taken, place-link-taken, place-free}
use Rattle.calls.proofs.slot.place.Goals as goal
use Rattle.calls.proofs.slot.place.Goals.{then-is_some-via-then-is_some, then-is_some-via-else-is_some+then-is_some-2}

pub returns-then-is_some : goal.returns-then-is_some
returns-then-is_some c =
    elim c.then-is_some.branch [
      | then-is_some-via-then-is_some w ↦ place-taken _ _ _ (sym c.is_some.ensures ∙ w.if-is_some.true)
      | then-is_some-via-else-is_some+then-is_some-2 w ↦
          place-link-taken _ _ _ (sym c.is_some.ensures ∙ w.if-is_some.false) (sym w.is_some-else-is_some.ensures ∙ w.if-is_some-2.true)
    ]

pub returns : goal.returns
returns c =
    c.ok_or.ensures.value
    ∙ place-free _ _ _ (sym c.is_some.ensures ∙ c.if-is_some.false) (sym c.is_some-else-is_some.ensures ∙ c.if-is_some-2.false)
