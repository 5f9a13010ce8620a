-- `receiver::places::holder_of` meets its contract.
use Rattle.std.proofs.Common.{Bool, true, false, ◌≡◌, ◌∙◌, refl, cond, Some, None}
use Rattle.std.specs.Bool.{then_some}
use Rattle.record.specs.Words.{yes}
use Rattle.calls.specs.Table.{of_links}
use Rattle.receiver.proofs.places.holder_of.Goals as goal

by-cases : {A : Type 0} (b : Bool) (x : A) → then_some b x ≡ cond b (Some x) None
by-cases true x = refl
by-cases false x = refl

pub returns : goal.returns
unfolding yes of_links
returns c = c.then_some.ensures ∙ by-cases _ _
