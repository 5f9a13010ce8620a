-- `stream::history::joined` meets its contract. Assumes nothing.
use Rattle.stream.proofs.Shifts.{join-or}
use Rattle.stream.proofs.history.joined.Goals as goal

pub returns : goal.returns
returns c = join-or c.args.hi c.args.lo c.args.b c.requires c.ranges.lo.fits
