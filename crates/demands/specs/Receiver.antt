-- Document 01, "What the contracts have to say": a receiver as a value, its contract and its runs. Assumes nothing.
use Rattle.std.specs.Prelude.{ℕ, ◌≡◌, List, [], ◌∷◌}
use Rattle.frame.specs.TagCalls.{Outcome, Bare, take_tag, write_tag}
use Rattle.calls.specs.Table.{Table}
use Rattle.calls.specs.Calls.{Call, Result, result_of, Meets}

-- A receiver: from a table and a call to an answer, a table and the output bytes. Any function of this type is one,
-- right or wrong.
abbrev pub Receiver : Type 0
Receiver = Table → Call → Result

-- It meets document 01 if each call on each table does: the same `Meets` by name that the public calls ensure (`CodeMeets`).
abbrev pub MeetsContract : Receiver → Type 0
MeetsContract receive = (t : Table) (c : Call) → Meets t c (receive t c)

-- The receiver that the definitions give.
unfoldable pub the_receiver : Receiver
the_receiver t c = result_of t c

-- The table after a run of calls.
unfoldable pub run : Receiver → Table → List Call → Table
run receive t [] = t
run receive t (c ∷ cs) = run receive (receive t c).table cs

-- Something holds at each call of a run, of the table that the call meets.
unfoldable pub Throughout : Receiver → (Table → Call → Type 0) → Table → List Call → Type 0
Throughout receive P t [] = Unit {0}
Throughout receive P t (c ∷ cs) = P t c × Throughout receive P (receive t c).table cs

-- The results of a run, one for each call,
unfoldable pub results : Receiver → Table → List Call → List Result
results receive t [] = []
results receive t (c ∷ cs) = receive t c ∷ results receive (receive t c).table cs

-- and results of which each meets the contract of its call on the table that the call before it left: this is what the
-- public calls ensure to a program that makes these calls.
unfoldable pub Ensured : Table → List Call → List Result → Type 0
Ensured t [] [] = Unit {0}
Ensured t [] (r ∷ rs) = ⊥
Ensured t (c ∷ cs) [] = ⊥
Ensured t (c ∷ cs) (r ∷ rs) = Meets t c r × Ensured r.table cs rs

-- There are no others than those of the definitions' receiver. So what is shown of it, and of every receiver that meets
-- the contract, holds of the runs of every such program.
abbrev pub RunsCoincide : Type 0
RunsCoincide = (t : Table) (calls : List Call) (rs : List Result) → Ensured t calls rs → rs ≡ results the_receiver t calls

-- The two calls that have no table: take a tag out, and write one.
pub record Tagger : Type 0 where
  pub take : (frame out : List ℕ) → Outcome Bare
  pub write : (frame : List ℕ) (number : ℕ) (out : List ℕ) → Outcome ℕ

pub record MeetsTags (tagger : Tagger) : Type 0 where
  pub take : (frame out : List ℕ) → tagger.take frame out ≡ take_tag frame out
  pub write : (frame : List ℕ) (number : ℕ) (out : List ℕ) → tagger.write frame number out ≡ write_tag frame number out
