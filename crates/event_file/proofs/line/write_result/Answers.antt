-- `event_file::line::write_result` meets its contract: a word, and the number of the refusal. Assumes nothing.
use Rattle.std.proofs.Common.{arith, refl}
use Rattle.event_file.specs.Lines.{answer_of}
use Rattle.event_file.proofs.Writing.{adds_joined, adds_within}
use Rattle.event_file.proofs.line.write_result.Goals as goal

pub returns-in-Err : goal.returns-in-Err
unfolding answer_of
returns-in-Err g c = rw c.in-Err.is (adds_within 68 (omega arith) refl (adds_joined c.text.ensures c.in_digits.ensures))
