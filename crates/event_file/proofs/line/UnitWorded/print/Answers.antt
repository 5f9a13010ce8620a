-- A call that is done is printed as a word. Assumes nothing.
use Rattle.std.proofs.Common.{arith, refl}
use Rattle.event_file.specs.Lines.{answer_of}
use Rattle.event_file.proofs.Writing.{adds_within}
use Rattle.event_file.proofs.line.UnitWorded.print.Goals as goal

pub returns : goal.returns
unfolding answer_of
returns c = adds_within 68 (omega arith) refl c.text.ensures
