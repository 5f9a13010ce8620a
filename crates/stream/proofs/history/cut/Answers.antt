-- `stream::history::cut` meets its contract. Assumes nothing.
use Rattle.stream.proofs.Shifts.{cut-is}
use Rattle.stream.proofs.history.cut.Goals as goal

pub returns : goal.returns
returns c = cut-is c.args.x c.args.up c.requires
