-- Demand 1 of the sending side: "refuses bad input itself with the number that the rules give. A refused call claims nothing".
-- (A reset refuses nothing.) Assumes nothing.
use Rattle.std.specs.Prelude.{ℕ, ◌≡◌, ◌↔◌, List}
use Rattle.refusal.specs.Checks.{First}
use Rattle.refusal.specs.Checks.Said.{refused}
use Rattle.sender.specs.declared.Sender.{Sender}
use Rattle.sender.specs.Refusals.{send_checks}
use Rattle.sender.specs.Laws.{RefusedKeeps}
use Rattle.sender.specs.Runs.{Side}

pub record Demand1Sent (side : Side) : Type 0 where
  -- with n exactly if n is the first number of the send's list whose condition holds;
  pub number : (s : Sender) (f out0 out1 : List ℕ) (n : ℕ) → ((side.send s f out0 out1).said ≡ refused n) ↔ First n (send_checks f out0 out1)
  -- then no number is used up, and every byte of both outputs stays as it was.
  pub keeps : RefusedKeeps side.send
