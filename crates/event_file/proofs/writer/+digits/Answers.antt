-- `digits` meets its contract: the digits of the front of the number, if it has any, and four behind it. Assumes nothing.
use Rattle.std.proofs.Common.{arith}
use Rattle.event_file.proofs.Writing.{digits-put}
use Rattle.event_file.proofs.writer.+digits.Goals as goal

pub returns-then-n-lt100000000-clause-put : goal.returns-then-n-lt100000000-clause-put
returns-then-n-lt100000000-clause-put t c = digits-put c.args.n (omega arith) c.if-n-lt10000.false c.short-behind.ensures.put c.four.ensures.put

pub returns-clause-put : goal.returns-clause-put
returns-clause-put t c = digits-put c.args.n (omega arith) (omega arith) c.digits-behind.ensures.put c.four-2.ensures.put
