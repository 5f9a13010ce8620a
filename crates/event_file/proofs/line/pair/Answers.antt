-- `event_file::line::pair` meets its contract: three writes, one behind the other. Assumes nothing.
use Rattle.event_file.proofs.Writing.{adds_joined}
use Rattle.event_file.proofs.line.pair.Goals as goal

pub returns : goal.returns
returns c = adds_joined (adds_joined c.number.ensures c.text.ensures) c.number-2.ensures
