-- `calls::slot::in_use` meets its contract.
use borrow.Author.Tests.{lt-ltb}
use Rattle.record.specs.Words.{yes}
use Rattle.calls.proofs.slot.in_use.Goals as goal

pub returns-then-slot-slots : goal.returns-then-slot-slots
unfolding yes
returns-then-slot-slots c = simp (lt-ltb _ _ c.if-slot-slots.true)
