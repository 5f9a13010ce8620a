-- `event_file::line::line` meets its contract: of a bad record it writes the number and a word. Assumes nothing.
use Rattle.std.proofs.Common.{arith, refl}
use Rattle.event_file.specs.Lines.{line_of}
use Rattle.event_file.proofs.Writing.{adds_joined, adds_within}
use Rattle.event_file.proofs.line.line.Goals as goal

pub returns-in-None : goal.returns-in-None
unfolding line_of
returns-in-None c = rw c.in-None.is (adds_within 92 (omega arith) refl (adds_joined c.number.ensures c.text.ensures))
