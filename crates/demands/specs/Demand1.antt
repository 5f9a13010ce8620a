-- Demand 1. "Every entry point takes any frame, table, setting or order of calls, ends, and refuses bad input itself with
-- the number that the rules give. A refused call claims nothing: every stream record and every byte of the output buffer
-- stay as they were."
-- Assumes nothing. A receiver is a function, so each call on each table has an answer; that the functions of the code
-- end and do nothing undefined is the checker's verdict on each of them, and none that is public has a `requires`.
use Rattle.std.specs.Prelude.{ℕ, ◌≡◌, ◌↔◌, List}
use Rattle.refusal.specs.Checks.{Check, First}
use Rattle.refusal.specs.Checks.Said.{refused}
use Rattle.frame.specs.TagCalls.{Outcome}
use Rattle.frame.specs.Refusals.{take_checks, write_checks}
use Rattle.calls.specs.Table.{Table}
use Rattle.calls.specs.Calls.{Call, out_of}
use Rattle.calls.specs.Refusals.{checks_of}
use Rattle.demands.specs.Receiver.{Receiver, Throughout, Tagger}

-- One call on a table.
pub record Refuses (receive : Receiver) (t : Table) (c : Call) : Type 0 where
  -- "refuses bad input itself with the number that the rules give": with n exactly if n is the first number of the
  -- call's list whose condition holds;
  pub number : (n : ℕ) → ((receive t c).said ≡ refused n) ↔ First n (checks_of t c)
  -- "a refused call claims nothing: every stream record ..
  pub records : (n : ℕ) → (receive t c).said ≡ refused n → (receive t c).table ≡ t
  -- .. and every byte of the output buffer stay as they were".
  pub bytes : (n : ℕ) → (receive t c).said ≡ refused n → (receive t c).output ≡ out_of c

-- "Any frame, table, setting or order of calls": each call of each run from each table.
abbrev pub Demand1 : Receiver → Type 0
Demand1 receive = (t : Table) (calls : List Call) → Throughout receive (Refuses receive) t calls

-- The same of the two calls that have no table: an outcome, the call's list of checks, and the buffer that it was lent.
pub record RefusesTag {A : Type 0} (outcome : Outcome A) (checks : List Check) (out : List ℕ) : Type 0 where
  pub number : (n : ℕ) → (outcome.said ≡ refused n) ↔ First n checks
  pub bytes : (n : ℕ) → outcome.said ≡ refused n → outcome.bytes ≡ out

pub record Demand1Tags (tagger : Tagger) : Type 0 where
  pub take : (frame out : List ℕ) → RefusesTag (tagger.take frame out) (take_checks frame out) out
  pub write : (frame : List ℕ) (number : ℕ) (out : List ℕ) → RefusesTag (tagger.write frame number out) (write_checks frame out) out
