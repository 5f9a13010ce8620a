-- Demand 3 with our sender: its first premise, `numbered`, follows where the frames are copies of what that sender sent. Assumes
-- nothing.
use Rattle.std.specs.Prelude.{ℕ, ◌≡◌, true, List, []}
use Rattle.record.specs.Sizes.{vector_rule}
use Rattle.calls.specs.Table.{Table, at}
use Rattle.calls.specs.Calls.{Call}
use Rattle.demands.specs.Receiver.{Receiver, run}
use Rattle.demands.specs.Seen.{log, verdicts, lasting, every}
use Rattle.demands.specs.Unlimited.{unlimited, all_near}
use Rattle.demands.specs.Demand3.{Silent, Premises}
use Rattle.demands.specs.Corollaries.{distinct, handed}
use Rattle.demands.specs.Steps.{Step, Machine, ran_steps, read_as, log_steps}
use Rattle.sender.specs.declared.Sender.{Sender}
use Rattle.sender.specs.Runs as sends
use Rattle.sender.specs.Runs.{Side}
use Rattle.both_sides.specs.Copies.{FromSender, counted_from}

-- Demand 3's premises (`Premises`), but that the arrivals behind the gap are frames of the sender in place of `numbered`.
pub record PremisesSent (receive : Receiver) (side : Side) (s : Sender) (calls : List sends.Call) (t : Table) (i : ℕ) (gap later : List Call) (indices : List ℕ) : Type 0 where
  pub vector : (at t i).rule ≡ vector_rule
  pub silent : Silent receive t i gap
  pub lasts : every lasting (log receive i (run receive t gap) later) ≡ true
  pub from-sender : FromSender receive side s calls (run receive t gap) i later indices
  pub near : all_near (at t i).window [] (counted_from s indices) ≡ true

-- They are demand 3's, with the indices of the sends. So it holds, and all that follows from it: here that it decides as the
-- receiver with unlimited memory would,
abbrev pub PremisesMet : Receiver → Side → Type 0
PremisesMet receive side =
    (s : Sender) (calls : List sends.Call) (t : Table) (i : ℕ) (gap later : List Call) (indices : List ℕ)
    → PremisesSent receive side s calls t i gap later indices → Premises receive t i gap later (counted_from s indices)

abbrev pub Demand3Sent : Receiver → Side → Type 0
Demand3Sent receive side =
    (s : Sender) (calls : List sends.Call) (t : Table) (i : ℕ) (gap later : List Call) (indices : List ℕ)
    → PremisesSent receive side s calls t i gap later indices
    → verdicts (log receive i (run receive t gap) later) ≡ unlimited (at t i).window [] (counted_from s indices)

-- that no send is handed up twice,
abbrev pub NeverTwiceSent : Receiver → Side → Type 0
NeverTwiceSent receive side =
    (s : Sender) (calls : List sends.Call) (t : Table) (i : ℕ) (gap later : List Call) (indices : List ℕ)
    → PremisesSent receive side s calls t i gap later indices
    → distinct (handed receive t i gap later (counted_from s indices)) ≡ true

-- and the first of a program that makes batches too.
abbrev pub Demand3StepsSent : Machine → Side → Type 0
Demand3StepsSent m side =
    (s : Sender) (calls : List sends.Call) (t : Table) (i : ℕ) (gap later : List Step) (indices : List ℕ)
    → PremisesSent m.receive side s calls t i (read_as m t gap) (read_as m (ran_steps m t gap) later) indices
    → verdicts (log_steps m i (ran_steps m t gap) later) ≡ unlimited (at t i).window [] (counted_from s indices)
