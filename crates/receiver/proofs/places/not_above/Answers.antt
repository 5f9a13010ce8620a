-- `receiver::places::not_above` meets its contract.
use Rattle.std.proofs.Common.{rules, tests, leb, ◌∙◌, ◌≡◌, ℕ, Option, Some, None, refl}
use Rattle.receiver.specs.Seek.{not_above}
use Rattle.receiver.proofs.Lists.{some_and, some_and-made}
use Rattle.receiver.proofs.places.not_above.Goals as goal

by-cases : (f : Option ℕ) (i : ℕ) → some_and (λ j. leb j i) f ≡ not_above f i
unfolding not_above
by-cases None i = refl
by-cases (Some j) i = refl

pub returns : goal.returns
returns c = some_and-made c.args.found _ _ (λ j. leb j c.args.i) c.is_some_and.ensures (λ j p. search (rules, tests)) ∙ by-cases c.args.found c.args.i
