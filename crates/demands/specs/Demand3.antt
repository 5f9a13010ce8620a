-- Demand 3. "Take a vector stream with window L and reset time R, its record lawful but otherwise holding anything. Let R
-- ticks pass in which nothing of that stream is handed up and it is neither closed nor reset by call. Refused calls don't
-- count here or below. From then until its next reset or closing it decides as a receiver with unlimited memory would.
-- That receiver hands up the first arrival, and later exactly those whose true index in the sender's count lies less than
-- L from the highest handed up and was not handed up before. Two premises: a frame's number is its index modulo 65536,
-- and each arrival after the first is at most 65536 - L from that highest index."
-- Assumes nothing. `Unlimited` has that receiver, and `Seen` says what a stream sees of the calls of a run.
use Rattle.std.specs.Prelude.{ℕ, ◌%◌, ◌≤◌, ◌≡◌, true, List, [], map}
use Rattle.record.specs.Sizes.{vector_rule}
use Rattle.stream.specs.Record.{lawful}
use Rattle.calls.specs.Table.{Table, at}
use Rattle.calls.specs.Calls.{Call}
use Rattle.demands.specs.Receiver.{Receiver, run}
use Rattle.demands.specs.Seen.{log, numbers, verdicts, ticks, calm, lasting, every}
use Rattle.demands.specs.Unlimited.{unlimited, all_near}

-- "A frame's number is its index modulo 65536."
abbrev pub number_of : (index : ℕ) → ℕ
number_of index = index % 65536

-- The gap: a run of calls from a table t, for the stream in its slot i. Every other record of the table may hold anything,
-- be damaged or free or have the same key.
pub record Silent (receive : Receiver) (t : Table) (i : ℕ) (gap : List Call) : Type 0 where
  -- "its record lawful but otherwise holding anything": so the slot is one of the table, and in use;
  pub lawful : lawful (at t i) ≡ true
  -- "let R ticks pass": R or more, refused ones not counted,
  pub long : (at t i).time ≤ ticks (log receive i t gap)
  -- "in which nothing of that stream is handed up and it is neither closed nor reset by call".
  pub calm : every calm (log receive i t gap) ≡ true

-- The premises: a vector stream, a gap, a run `later` from where the gap ends, and the true indices of the stream's
-- arrivals in it.
pub record Premises (receive : Receiver) (t : Table) (i : ℕ) (gap later : List Call) (indices : List ℕ) : Type 0 where
  -- "take a vector stream"
  pub vector : (at t i).rule ≡ vector_rule
  pub silent : Silent receive t i gap
  -- "until its next reset or closing": in `later` it is neither reset, by call or by tick, nor closed;
  pub lasts : every lasting (log receive i (run receive t gap) later) ≡ true
  -- "a frame's number is its index modulo 65536",
  pub numbered : numbers (log receive i (run receive t gap) later) ≡ map number_of indices
  -- "and each arrival after the first is at most 65536 - L from that highest index".
  pub near : all_near (at t i).window [] indices ≡ true

-- "It decides as a receiver with unlimited memory would": verdict by verdict, all three kinds, as the answers tell them.
abbrev pub Demand3 : Receiver → Type 0
Demand3 receive =
    (t : Table) (i : ℕ) (gap later : List Call) (indices : List ℕ)
    → Premises receive t i gap later indices
    → verdicts (log receive i (run receive t gap) later) ≡ unlimited (at t i).window [] indices
