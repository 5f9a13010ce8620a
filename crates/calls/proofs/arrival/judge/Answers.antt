-- `calls::arrival::judge` meets its contract: in each verdict's arm the room decides.
use Rattle.std.proofs.Common.{sym, ap, ◌∙◌, Some}
use Rattle.calls.proofs.Steps.{granted-none, judge-granted}
use Rattle.calls.proofs.arrival.judge.Goals as goal

pub returns-in-None : goal.returns-in-None
returns-in-None c = granted-none _ _ _ (sym c.weigh.ensures ∙ c.in-None.is)

pub returns-in-Some-HandedUp : goal.returns-in-Some-HandedUp
returns-in-Some-HandedUp c = c.granted.ensures ∙ judge-granted _ _ _ (sym c.weigh.ensures ∙ c.in-Some-HandedUp.is ∙ ap Some c.in-Some-HandedUp.field-0-is)

pub returns-in-Some-Duplicate : goal.returns-in-Some-Duplicate
returns-in-Some-Duplicate c = c.granted-in-Some-Duplicate.ensures ∙ judge-granted _ _ _ (sym c.weigh.ensures ∙ c.in-Some-Duplicate.is ∙ ap Some c.in-Some-Duplicate.field-0-is)

pub returns-in-Some-Rogue : goal.returns-in-Some-Rogue
returns-in-Some-Rogue c = c.granted-in-Some-Rogue.ensures ∙ judge-granted _ _ _ (sym c.weigh.ensures ∙ c.in-Some-Rogue.is ∙ ap Some c.in-Some-Rogue.field-0-is)
