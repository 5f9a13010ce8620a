-- `frame::write_without` meets its contract: elsewhere nothing is written.
use Rattle.frame.proofs.Writes.{place-12, place-16, without-elsewhere}
use Rattle.frame.proofs.write_without.Goals as goal

pub take_out-requires-clause-place : goal.take_out-requires-clause-place
take_out-requires-clause-place c = place-12

pub take_out-requires-then-at-eq16-clause-place : goal.take_out-requires-then-at-eq16-clause-place
take_out-requires-then-at-eq16-clause-place c = place-16

pub returns-else-at-eq16 : goal.returns-else-at-eq16
returns-else-at-eq16 c = without-elsewhere _ _ _ c.if-at-eq12.false c.if-at-eq16.false
