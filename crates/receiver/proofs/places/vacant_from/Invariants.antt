-- `receiver::places::vacant_from`: what is left to look at comes to what all comes to.
use Rattle.receiver.proofs.Rebuilding.{VacantLeft}
use Rattle.receiver.proofs.places.vacant_from.Given as goal

abbrev pub invariant-loop-k : goal.invariant-loop-k
invariant-loop-k l = VacantLeft l.index l.from l.k
