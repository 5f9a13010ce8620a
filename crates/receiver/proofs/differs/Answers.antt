-- `receiver::differs` meets its contract.
use Rattle.receiver.specs.Seek.{differs}
use Rattle.receiver.proofs.differs.Goals as goal

pub returns-then-not-ok : goal.returns-then-not-ok
unfolding differs
returns-then-not-ok c = rw c.if-not-ok.true

pub returns : goal.returns
unfolding differs
returns c = rw c.if-not-ok.false
