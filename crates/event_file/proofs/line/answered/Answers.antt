-- `event_file::line::answered` meets its contract: its parts are written one behind the other. Assumes nothing.
use Rattle.std.proofs.Common.{ℕ, ◌∷◌, List, ◌++◌, arith, ap, append_assoc}
use Rattle.event_file.specs.Text.{text, decimal_of}
use Rattle.event_file.specs.Lines.{answer_of, line_of, said_by}
use Rattle.event_file.proofs.Writing.{adds_joined, adds_within}
use Rattle.event_file.proofs.line.answered.Goals as goal

pub returns : goal.returns
unfolding line_of
returns g c =
    let parts = adds_joined (adds_joined (adds_joined c.number.ensures c.text.ensures) c.write_result.ensures) c.text-2.ensures in
    let e = ap (λ (l : List ℕ). (l ++ answer_of (said_by g.A.Worded.said c.args.a)) ++ text "\n") (append_assoc (decimal_of c.args.number) (text " ") (c.args.letter ∷ text " ")) in
    adds_within 92 (omega arith) e parts
