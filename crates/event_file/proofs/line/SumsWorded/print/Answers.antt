-- The sums of a tick are printed as two numbers. Assumes nothing.
use Rattle.std.proofs.Common.{arith, refl}
use Rattle.event_file.specs.Lines.{answer_of}
use Rattle.event_file.proofs.Writing.{adds_within}
use Rattle.event_file.proofs.line.SumsWorded.print.Goals as goal

pub returns : goal.returns
unfolding answer_of
returns c = adds_within 68 (omega arith) refl c.pair.ensures
