-- `batch::put_length` meets its contract.
use Rattle.std.proofs.Common.{ℕ, List, get_or, sym, ap, ◌∙◌}
use Rattle.batch.proofs.Bodies.{puts-length, puts-none}
use Rattle.batch.specs.Steps.{told}
use Rattle.batch.proofs.put_length.Goals as goal

pub returns-in-Some : goal.returns-in-Some
returns-in-Some c =
    puts-length (told c.args.answer) _ _ (sym c.handed_up.ensures ∙ c.in-Some.is)
    (ap (λ (bytes : List ℕ). get_or bytes 6 0) c.to_be_bytes.ensures) (ap (λ (bytes : List ℕ). get_or bytes 7 0) c.to_be_bytes.ensures)

pub returns-in_default : goal.returns-in_default
returns-in_default c = puts-none (told c.args.answer) _ _ (sym c.handed_up.ensures ∙ c.in_default.is)
