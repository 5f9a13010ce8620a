-- `calls::arrival::begin` meets its contract.
use Rattle.calls.proofs.Steps.{begin-many, begin-network, begin-passed}
use Rattle.calls.proofs.arrival.begin.Goals as goal

pub returns-then-slots-gt-SLOTS_MOST : goal.returns-then-slots-gt-SLOTS_MOST
returns-then-slots-gt-SLOTS_MOST c = begin-many _ _ c.if-slots-gt-SLOTS_MOST.true

pub returns-then-network-gt1 : goal.returns-then-network-gt1
returns-then-network-gt1 c = begin-network _ _ c.if-slots-gt-SLOTS_MOST.false c.if-network-gt1.true

pub returns : goal.returns
returns c = begin-passed _ _ c.if-slots-gt-SLOTS_MOST.false c.if-network-gt1.false
