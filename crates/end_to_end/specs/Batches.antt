-- From bytes to bytes, of a program that makes batches too (order 3). Assumes nothing.
use Rattle.std.specs.Prelude.{ℕ, ◌+◌, ◌<◌, ◌≡◌, Bool, true, ◌&&◌, ◌||◌, List, [], ◌∷◌, ◌++◌, eqb, drop}
use Rattle.std.proofs.Math.Option.{Option, none, some}
use Rattle.refusal.specs.Checks.{Said}
use Rattle.refusal.specs.Checks.Said.{refused, answers}
use Rattle.frame.specs.Bytes.{word}
use Rattle.calls.specs.Table.{Table, at}
use Rattle.calls.specs.Calls.{Answer, arrived, placed, done, swept, handed_up, duplicate, rogue}
use Rattle.batch.specs.Batch.{Batch}
use Rattle.demands.specs.Missed.{FreshVector}
use Rattle.demands.specs.Steps.{Step, single, batch, Machine, table_of, ran_steps, read_as, log_steps}
use Rattle.sender.specs.declared.Sender.{Sender}
use Rattle.sender.specs.Runs as sends
use Rattle.sender.specs.Runs.{Side, sent}
use Rattle.delays.specs.Formulas.{span}
use Rattle.delays.specs.Line.{Known, J, Event, came}
use Rattle.delays.specs.OnceEach.{Silence}
use Rattle.end_to_end.specs.Bytes.{given_at, got_of, got, once_each, Between}

-- how many bytes an answer of a batch has in the output: none, or a frame behind its two length bytes
unfoldable pub takes : Said Answer → ℕ
takes (refused n) = 0
takes (answers (arrived j n x (handed_up length))) = 2 + length
takes (answers (arrived j n x duplicate)) = 0
takes (answers (arrived j n x rogue)) = 0
takes (answers (placed j)) = 0
takes (answers done) = 0
takes (answers (swept streams records)) = 0

-- What the application gets from a batch: it goes through the answers, and along the output by what each has there.
unfoldable pub got_in : (slot : ℕ) → List (Option (Said Answer)) → (output : List ℕ) → List (List ℕ)
got_in i [] output = []
got_in i (none ∷ rest) output = got_in i rest output
got_in i (some s ∷ rest) output = got_of i s (drop 2 output) ++ got_in i rest (drop (takes s) output)

unfoldable pub got_from : Machine → (slot : ℕ) → Table → Step → List (List ℕ)
got_from m i t (single c) = got_of i (m.receive t c).said (m.receive t c).output
got_from m i t (batch b) = got_in i (m.batch t b).answers (m.batch t b).output

unfoldable pub got_steps : Machine → (slot : ℕ) → Table → List Step → List (List ℕ)
got_steps m i t [] = []
got_steps m i t (s ∷ ss) = got_from m i t s ++ got_steps m i (table_of m t s) ss

-- It gets what it would get from the calls that the steps are read as.
abbrev pub GotAsCalls : Machine → Type 0
GotAsCalls m = (t : Table) (i : ℕ) (ss : List Step) → got_steps m i t ss ≡ got m.receive i t (read_as m t ss)

-- The two bytes in front of each frame that it finds so are its length: it may as well go along the output by them. (How many frames
-- there are, and of which stream, the answers tell.)
unfoldable pub lengths_stand : List (Option (Said Answer)) → (output : List ℕ) → Bool
lengths_stand [] output = true
lengths_stand (none ∷ rest) output = lengths_stand rest output
lengths_stand (some s ∷ rest) output = (eqb (takes s) 0 || eqb (takes s) (2 + word output 0)) && lengths_stand rest (drop (takes s) output)

abbrev pub LengthsStand : Machine → Type 0
LengthsStand m = (t : Table) (b : Batch) → lengths_stand (m.batch t b).answers (m.batch t b).output ≡ true

abbrev pub BytesToBytesSteps : Machine → Side → Type 0
BytesToBytesSteps m side =
    (k : Known) (b : ℕ) (still : List ℕ) (before es : List Event) (s : Sender) (sending : List sends.Call) (t : Table) (i : ℕ) (steps : List Step) (places : List ℕ)
    → FreshVector (at t i)
    → Between m.receive side k b still before es s sending t i (read_as m t steps) places
    → got_steps m i t steps ≡ given_at (sent side s sending) (once_each [] places)

abbrev pub BytesToBytesRestartedSteps : Machine → Side → Type 0
BytesToBytesRestartedSteps m side =
    (k : Known) (b : ℕ) (still : List ℕ) (start last x a : ℕ) (was es : List Event) (s : Sender) (sending : List sends.Call) (t : Table) (i : ℕ) (old new : List Step) (places : List ℕ)
    → Silence (log_steps m) k start last x a was t i old
    → last + span (at t i).time k.tau_most (J k) < k.sent x
    → Between m.receive side k b still [] (came x a ∷ es) s sending (ran_steps m t old) i (read_as m (ran_steps m t old) new) places
    → got_steps m i (ran_steps m t old) new ≡ given_at (sent side s sending) (once_each [] places)
