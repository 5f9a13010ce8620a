-- A slot is printed as a number. Assumes nothing.
use Rattle.std.proofs.Common.{arith, refl}
use Rattle.event_file.specs.Lines.{answer_of}
use Rattle.event_file.proofs.Writing.{adds_within}
use Rattle.event_file.proofs.line.UsizeWorded.print.Goals as goal

pub returns : goal.returns
unfolding answer_of
returns c = adds_within 68 (omega arith) refl c.number.ensures
