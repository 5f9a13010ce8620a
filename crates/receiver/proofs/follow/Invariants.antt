-- `receiver::follow`: what is left to follow comes to what all comes to.
use Rattle.receiver.proofs.Following.{Left-of}
use Rattle.receiver.proofs.follow.Given as goal

abbrev pub invariant-loop-k : goal.invariant-loop-k
invariant-loop-k l = Left-of l.index l.t l.key l.from l.k
