-- Document 02, order 3: "Demands 1 and 3 read each frame that a batch reaches as a call, and a frame not reached as none."
-- The steps of a program are single calls and batches: the calls that a run of steps is read as, and the two demands of it.
-- Assumes nothing.
use Rattle.std.specs.Prelude.{ℕ, ◌-◌, ◌≡◌, ◌↔◌, length, replicate}
use Rattle.std.proofs.Math.Option.{Option, none, some}
use mathlib.Core.List.{List, [], ◌∷◌, ◌++◌, map, flat_map}
use Rattle.refusal.specs.Checks.{Said, First}
use Rattle.refusal.specs.Checks.Said.{refused, answers}
use Rattle.frame.specs.Bytes.{overlay}
use Rattle.calls.specs.Table.{Table, at}
use Rattle.calls.specs.Calls.{Call, Answer, Result, Meets}
use Rattle.batch.specs.Batch.{Batch, Bundle, frames_most, adds, reached, batch_of}
use Rattle.batch.specs.Refusals.{batch_checks}
use Rattle.batch.specs.Told.{tell_batch, MeetsBatch}
use Rattle.batch.specs.declared.Batched.{Batched}
use Rattle.demands.specs.Receiver.{Receiver, MeetsContract, the_receiver, run, results, Throughout}
use Rattle.demands.specs.Seen.{Seen, nothing, heard, seen, log, verdicts}
use Rattle.demands.specs.Unlimited.{unlimited}
use Rattle.demands.specs.Demand1.{Refuses}
use Rattle.demands.specs.Demand3.{Premises}

-- ---- steps

pub data Step : Type 0 where
  single : Call → Step
  batch : Batch → Step

-- A receiver with the batch beside it. Any two functions of these types are one, right or wrong.
pub record Machine : Type 0 where
  pub receive : Receiver
  pub batch : Table → Batch → Bundle

-- It meets the documents if each single call and each batch on each table does.
pub record MeetsAll (m : Machine) : Type 0 where
  pub receive : MeetsContract m.receive
  pub batch : (t : Table) (b : Batch) → m.batch t b ≡ batch_of t b

-- The machine that the definitions give.
unfoldable pub the_machine : Machine
the_machine = record { receive = the_receiver; batch = batch_of }

-- The table after a step, and after a run of steps.
unfoldable pub table_of : Machine → Table → Step → Table
table_of m t (single c) = (m.receive t c).table
table_of m t (batch b) = (m.batch t b).table

unfoldable pub ran_steps : Machine → Table → List Step → Table
ran_steps m t [] = t
ran_steps m t (s ∷ ss) = ran_steps m (table_of m t s) ss

-- ---- as calls

-- "each frame that a batch reaches as a call, and a frame not reached as none"
unfoldable pub calls_of : Table → Step → List Call
calls_of t (single c) = c ∷ []
calls_of t (batch b) = reached t b

-- The calls that a run of steps is read as.
unfoldable pub read_as : Machine → Table → List Step → List Call
read_as m t [] = []
read_as m t (s ∷ ss) = calls_of t s ++ read_as m (table_of m t s) ss

-- It leaves the table that these calls leave.
abbrev pub StepsAreCalls : Machine → Type 0
StepsAreCalls m = (t : Table) (ss : List Step) → ran_steps m t ss ≡ run m.receive t (read_as m t ss)

-- "Answers, table and output bytes equal those of single arrivals made in turn": of a batch and the calls that it is read as.
pub record AsCalls (m : Machine) (t : Table) (b : Batch) (rs : List Result) : Type 0 where
  -- their answers in their order, and then the mark;
  pub answers : (m.batch t b).answers ≡ map (λ (r : Result). some r.said) rs ++ replicate (frames_most - length rs) none
  pub table : (m.batch t b).table ≡ run m.receive t (reached t b)
  -- what they hand up, packed at the start of the output, and behind it the bytes that stood there
  pub output : (m.batch t b).output ≡ overlay (flat_map adds rs) b.out

abbrev pub BatchesAreCalls : Machine → Type 0
BatchesAreCalls m = (t : Table) (b : Batch) → AsCalls m t b (results m.receive t (reached t b))

-- ---- demand 1

-- One batch on a table.
pub record RefusesBatch (m : Machine) (t : Table) (b : Batch) : Type 0 where
  -- "refuses bad input itself with the number that the rules give";
  pub number : (n : ℕ) → ((m.batch t b).said ≡ refused n) ↔ First n (batch_checks t b)
  -- "a refused call claims nothing: every stream record ..
  pub records : (n : ℕ) → (m.batch t b).said ≡ refused n → (m.batch t b).table ≡ t
  -- .. and every byte of the output buffer stay as they were",
  pub bytes : (n : ℕ) → (m.batch t b).said ≡ refused n → (m.batch t b).output ≡ b.out
  -- and no frame is reached;
  pub none-reached : (n : ℕ) → (m.batch t b).said ≡ refused n → reached t b ≡ []
  -- and each frame that is reached is refused as a call is.
  pub frames : Throughout m.receive (Refuses m.receive) t (reached t b)

abbrev pub RefusesStep : Machine → Table → Step → Type 0
RefusesStep m t (single c) = Refuses m.receive t c
RefusesStep m t (batch b) = RefusesBatch m t b

-- "Any frame, table, setting or order of calls": each step of each run from each table.
unfoldable pub EachStep : Machine → (Table → Step → Type 0) → Table → List Step → Type 0
EachStep m P t [] = Unit {0}
EachStep m P t (s ∷ ss) = P t s × EachStep m P (table_of m t s) ss

abbrev pub Demand1Steps : Machine → Type 0
Demand1Steps m = (t : Table) (ss : List Step) → EachStep m (RefusesStep m) t ss

-- ---- demand 3

-- What the stream in slot i sees of a batch, read from the answers alone: what is reached is an arrival, and a mark is no call.
abbrev pub heard_of : (slot : ℕ) → Said Answer → Seen
heard_of i (refused n) = nothing
heard_of i (answers a) = heard i a

unfoldable pub seen_in : (slot : ℕ) → List (Option (Said Answer)) → List Seen
seen_in i [] = []
seen_in i (none ∷ rest) = seen_in i rest
seen_in i (some s ∷ rest) = heard_of i s ∷ seen_in i rest

-- What it sees of a step, and of a run of steps.
unfoldable pub seen_of_step : Machine → (slot : ℕ) → Table → Step → List Seen
seen_of_step m i t (single c) = seen i t c (m.receive t c) ∷ []
seen_of_step m i t (batch b) = seen_in i (m.batch t b).answers

unfoldable pub log_steps : Machine → (slot : ℕ) → Table → List Step → List Seen
log_steps m i t [] = []
log_steps m i t (s ∷ ss) = seen_of_step m i t s ++ log_steps m i (table_of m t s) ss

-- It sees what it would see of the calls.
abbrev pub SeenAsCalls : Machine → Type 0
SeenAsCalls m = (t : Table) (i : ℕ) (ss : List Step) → log_steps m i t ss ≡ log m.receive i t (read_as m t ss)

-- Demand 3: its premises are those of the calls that the steps are read as, and its verdicts those that the machine tells.
abbrev pub Demand3Steps : Machine → Type 0
Demand3Steps m =
    (t : Table) (i : ℕ) (gap later : List Step) (indices : List ℕ)
    → Premises m.receive t i (read_as m t gap) (read_as m (ran_steps m t gap) later) indices
    → verdicts (log_steps m i (ran_steps m t gap) later) ≡ unlimited (at t i).window [] indices

-- ---- what a program gets

-- From a single call its result; from a batch what it tells, the table and the output bytes.
pub data Got : Type 0 where
  result : Result → Got
  told : Batched → (rows : Table) (bytes : List ℕ) → Got

abbrev pub left_by : Got → Table
left_by (result r) = r.table
left_by (told a rows bytes) = rows

-- What such steps ensure to a program: a single call by `Meets`, a batch by `MeetsBatch`. (The public open, close and batch take an index
-- too: `Indexed` reads the runs of a program that keeps one as runs of these steps.)
abbrev pub EnsuredStep : Table → Step → Got → Type 0
EnsuredStep t (single c) (result r) = Meets t c r
EnsuredStep t (single c) (told a rows bytes) = ⊥
EnsuredStep t (batch b) (result r) = ⊥
EnsuredStep t (batch b) (told a rows bytes) = MeetsBatch t b a rows bytes

unfoldable pub EnsuredSteps : Table → List Step → List Got → Type 0
EnsuredSteps t [] [] = Unit {0}
EnsuredSteps t [] (g ∷ gs) = ⊥
EnsuredSteps t (s ∷ ss) [] = ⊥
EnsuredSteps t (s ∷ ss) (g ∷ gs) = EnsuredStep t s g × EnsuredSteps (left_by g) ss gs

-- What a machine gives to it.
unfoldable pub given : Machine → Table → Step → Got
given m t (single c) = result (m.receive t c)
given m t (batch b) = told (tell_batch (m.batch t b)) (m.batch t b).table (m.batch t b).output

unfoldable pub given_all : Machine → Table → List Step → List Got
given_all m t [] = []
given_all m t (s ∷ ss) = given m t s ∷ given_all m (table_of m t s) ss

-- There is nothing else to get than what the definitions' machine gives. So what is shown of it, and of every machine that
-- meets the documents, holds of the runs of every such program. (In what a batch tells no answer is lost: `EachTold` of `batch`.)
abbrev pub StepsCoincide : Type 0
StepsCoincide = (t : Table) (ss : List Step) (gs : List Got) → EnsuredSteps t ss gs → gs ≡ given_all the_machine t ss
