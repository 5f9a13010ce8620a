-- `receiver::decide_in` meets its contract: beyond the table 7 is given, and nothing is stored.
use Rattle.receiver.proofs.Deciding.{none-judged, none-stored}
use Rattle.receiver.proofs.decide_in.Goals as goal

pub returns-then-t-i : goal.returns-then-t-i
returns-then-t-i c = (none-judged _ _ c.if-t-i.true c.args.number c.args.room, none-stored _ _ c.if-t-i.true _)
