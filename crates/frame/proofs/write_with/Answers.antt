-- `frame::write_with` meets its contract: elsewhere nothing is written.
use Rattle.frame.proofs.Writes.{place-12, place-16, with-elsewhere}
use Rattle.frame.proofs.write_with.Goals as goal

pub put_in-requires-clause-place : goal.put_in-requires-clause-place
put_in-requires-clause-place c = place-12

pub put_in-requires-then-at-eq16-clause-place : goal.put_in-requires-then-at-eq16-clause-place
put_in-requires-then-at-eq16-clause-place c = place-16

pub returns-else-at-eq16 : goal.returns-else-at-eq16
returns-else-at-eq16 c = with-elsewhere _ _ _ _ c.if-at-eq12.false c.if-at-eq16.false
