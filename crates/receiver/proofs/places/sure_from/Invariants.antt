-- `receiver::places::sure_from`: what is left to look at comes to what all comes to.
use Rattle.receiver.proofs.Agreeing.{SureLeft}
use Rattle.receiver.proofs.places.sure_from.Given as goal

abbrev pub invariant-loop-k : goal.invariant-loop-k
invariant-loop-k l = SureLeft l.index l.i l.from l.k
