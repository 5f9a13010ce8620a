-- Document 02, order 10, over runs of calls: what holds of a virtual link as its slot sees them, read as in demand 3.
-- Assumes nothing.
use Rattle.std.specs.Prelude.{ℕ, ◌≡◌, Bool, true, List, map}
use Rattle.std.proofs.Math.Option.{Option}
use Rattle.std.specs.Prelude.{if◌then◌else◌}
use Rattle.record.specs.Sizes.{link_rule}
use Rattle.stream.specs.Record.{lawful}
use Rattle.stream.specs.Decisions.{Verdict, up, duplicate, is_up}
use Rattle.calls.specs.Table.{Table, at}
use Rattle.calls.specs.Calls.{Call}
use Rattle.demands.specs.Receiver.{Receiver}
use Rattle.demands.specs.Seen.{log, numbers, verdicts, lasting, every}
use Rattle.demands.specs.Corollaries.{handed_of}
use Rattle.demands.specs.Steps.{Step, Machine, read_as, log_steps}
use Rattle.links.specs.Links.{last_of, link_number, last_number, ups, all_within, rises, ascending}

-- As long as it is neither reset nor closed, the verdicts on its arrivals are what its record gives on their numbers, one after the
-- other: ticks, refused calls, other streams and the network change nothing. So what `Links` says of `ups` holds of every run.
abbrev pub verdict_if : Bool → Verdict
verdict_if b = if b then up else duplicate

abbrev pub LinkSeen : Receiver → Type 0
LinkSeen receive =
    (t : Table) (i : ℕ) (calls : List Call)
    → (at t i).rule ≡ link_rule → lawful (at t i) ≡ true → every lasting (log receive i t calls) ≡ true
    → verdicts (log receive i t calls) ≡ map verdict_if (ups (at t i) (numbers (log receive i t calls)))

-- The premises of `LinkRises`, of the stream in slot i, a run of calls from a table t and the indices of its arrivals. Every other
-- record of the table may hold anything.
pub record Rising (receive : Receiver) (t : Table) (i : ℕ) (calls : List Call) (h : Option ℕ) (indices : List ℕ) : Type 0 where
  pub link : (at t i).rule ≡ link_rule
  pub lawful : lawful (at t i) ≡ true
  -- it handed up the frame with index h last, or it is fresh
  pub last : last_of (at t i) ≡ last_number h
  -- neither reset, by call or by tick, nor closed
  pub lasts : every lasting (log receive i t calls) ≡ true
  pub numbered : numbers (log receive i t calls) ≡ map link_number indices
  pub within : all_within h indices ≡ true

-- What then holds of the verdicts:
pub record Rises (vs : List Verdict) (h : Option ℕ) (indices : List ℕ) : Type 0 where
  -- the arrivals above all before are handed up, and no other,
  pub each : map is_up vs ≡ rises h indices
  -- and what is handed up rises: in order, and none twice.
  pub order : ascending h (handed_of vs indices) ≡ true

abbrev pub LinkRisesSeen : Receiver → Type 0
LinkRisesSeen receive =
    (t : Table) (i : ℕ) (calls : List Call) (h : Option ℕ) (indices : List ℕ)
    → Rising receive t i calls h indices → Rises (verdicts (log receive i t calls)) h indices

-- The same of a program that makes batches too. (A batch reaches no virtual link.)
abbrev pub LinkRisesSteps : Machine → Type 0
LinkRisesSteps m =
    (t : Table) (i : ℕ) (steps : List Step) (h : Option ℕ) (indices : List ℕ)
    → Rising m.receive t i (read_as m t steps) h indices → Rises (verdicts (log_steps m i t steps)) h indices
