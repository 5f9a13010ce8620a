-- `event_file::line::priority` meets its contract: nothing is written of an arrival that is not handed up. Assumes nothing.
use Rattle.std.proofs.Common.{ℕ, ◌≡◌, [], refl}
use Rattle.calls.specs.Said.{said_verdict}
use Rattle.calls.specs.declared.Verdict.{Verdict}
use Rattle.calls.specs.declared.Verdict.TheVariants.{HandedUp, Duplicate, Rogue}
use Rattle.event_file.specs.Lines.{priority_of}
use Rattle.event_file.proofs.Writing.{adds_joined, adds_nothing}
use Rattle.event_file.proofs.line.priority.Goals as goal

none : (v : Verdict) (n : ℕ) → ((l : ℕ) → v ≡ HandedUp l → ⊥) → priority_of (said_verdict v) n ≡ []
none (HandedUp l) n f = absurd (f l refl)
none Duplicate n f = refl
none Rogue n f = refl

pub returns-in-HandedUp : goal.returns-in-HandedUp
returns-in-HandedUp c = rw c.in-HandedUp.is (adds_joined c.text.ensures (rw c.from.ensures at c.number.ensures))

pub returns-in_default : goal.returns-in_default
returns-in_default c = rw (none c.args.a.verdict c.args.a.rank.priority c.in_default.not-HandedUp) (adds_nothing 21 c.args.to.now)
