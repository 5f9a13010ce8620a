-- `four` meets its contract: two digits, and two behind them. Assumes nothing.
use Rattle.event_file.proofs.Writing.{twice-put}
use Rattle.event_file.proofs.writer.four.Goals as goal

pub returns-clause-put : goal.returns-clause-put
returns-clause-put c = twice-put c.args.n c.two-behind.ensures.put c.two.ensures.put
