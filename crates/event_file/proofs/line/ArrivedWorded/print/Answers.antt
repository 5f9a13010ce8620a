-- An arrival is printed by four writes, one behind the other. Assumes nothing.
use Rattle.event_file.specs.Lines.{answer_of}
use Rattle.event_file.proofs.Writing.{adds_joined}
use Rattle.event_file.proofs.line.ArrivedWorded.print.Goals as goal

pub returns : goal.returns
unfolding answer_of
returns c = adds_joined (adds_joined (adds_joined c.verdict_word.ensures c.text.ensures) (rw c.from.ensures at c.pair.ensures)) c.priority.ensures
