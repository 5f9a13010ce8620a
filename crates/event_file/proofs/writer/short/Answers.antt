-- `short` meets its contract: one digit, two, three or four. Assumes nothing.
use Rattle.event_file.proofs.Decimals.{decimal-small}
use Rattle.event_file.proofs.Writing.{two-put, three-put, four-put}
use Rattle.event_file.proofs.writer.short.Goals as goal

pub returns-then-n-lt10-clause-put : goal.returns-then-n-lt10-clause-put
returns-then-n-lt10-clause-put c = rw (decimal-small c.args.n c.if-n-lt10.true) c.put.ensures.put

pub returns-then-n-lt100-clause-put : goal.returns-then-n-lt100-clause-put
returns-then-n-lt100-clause-put c = two-put c.args.n c.if-n-lt100.true c.if-n-lt10.false c.two.ensures.put

pub returns-then-n-lt1000-clause-put : goal.returns-then-n-lt1000-clause-put
returns-then-n-lt1000-clause-put c = three-put c.args.n c.if-n-lt1000.true c.if-n-lt100.false c.put-behind.ensures.put c.two-then-n-lt1000.ensures.put

pub returns-clause-put : goal.returns-clause-put
returns-clause-put c = four-put c.args.n c.requires.1 c.if-n-lt1000.false c.four.ensures.put
