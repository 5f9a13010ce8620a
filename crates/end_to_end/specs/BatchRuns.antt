-- Against vacuity: what the application gets from a batch for two streams and a call behind it, of the machine that the definitions
-- give; and the statement with batches applied to a run. Assumes nothing.
use Rattle.std.specs.Prelude.{ℕ, ◌≡◌, true, false, take, drop, replicate}
use Rattle.std.proofs.Math.Option.{none, some}
use mathlib.Core.List.{List, [], ◌∷◌, ◌++◌, map, flat_map}
use Rattle.refusal.specs.Checks.Said.{refused, answers}
use Rattle.refusal.specs.Numbers.{UNKNOWN}
use Rattle.frame.specs.Frame.{unranked}
use Rattle.calls.specs.Table.{Table, at}
use Rattle.calls.specs.Calls.{arriving, ticking, arrived, handed_up, duplicate}
use Rattle.batch.specs.Batch.{Batch, batch_of}
use Rattle.batch.specs.Laws.{preceded}
use Rattle.demands.specs.Receiver.{the_receiver}
use Rattle.demands.specs.Missed.{FreshVector}
use Rattle.demands.specs.Steps.{Step, single, batch, Machine, the_machine, ran_steps, read_as}
use Rattle.demands.specs.Examples.{address, frame, start}
use Rattle.sender.specs.Sender.{sender_at_first}
use Rattle.sender.specs.Runs.{Side, the_side, sent}
use Rattle.delays.specs.Line.{Event}
use Rattle.delays.specs.ByNumber.{line, b, L, R}
use Rattle.end_to_end.specs.Bytes.{got, given_at, once_each, Between}
use Rattle.end_to_end.specs.Runs.{message, on_way, into, comes, new, near, seven_sent, old_run, copy, beat}
use Rattle.end_to_end.specs.Batches.{lengths_stand, got_steps}

-- A frame to destination k as it is given to a sender, and with number n in its tag.
unfoldable pub plain : (k : ℕ) (payload : List ℕ) → List ℕ
plain k payload = address k ++ (2 ∷ 0 ∷ 0 ∷ 0 ∷ 0 ∷ 9 ∷ 8 ∷ 0 ∷ payload)

unfoldable pub numbered : (k n : ℕ) (payload : List ℕ) → List ℕ
numbered k n payload = frame k n ++ payload

-- On the table `start` of `demands`, which has destination 1 in slot 0 and destination 3 in slot 3: a frame for slot 0, one that no
-- stream has the key of, the first again, and a frame for slot 3. Three bytes of the output are left.
unfoldable pub four : Batch
four = record {
  network = 0;
  count = 4;
  frames = flat_map preceded (numbered 1 10 (21 ∷ 22 ∷ []) ∷ numbered 7 5 [] ∷ numbered 1 10 (21 ∷ 22 ∷ []) ∷ numbered 3 77 (31 ∷ 32 ∷ 33 ∷ []) ∷ []);
  out = replicate 40 9;
}

-- Then a single call for slot 0, which is lent more room than the frame needs.
unfoldable pub four_and_one : List Step
four_and_one = batch four ∷ single (arriving 1 (numbered 1 11 (23 ∷ [])) (replicate 20 9)) ∷ []

pub record BatchGot : Type 0 where
  pub answered : (batch_of start four).answers
      ≡ some (answers (arrived 0 10 unranked (handed_up 16)))
      ∷ some (refused UNKNOWN)
      ∷ some (answers (arrived 0 10 unranked duplicate))
      ∷ some (answers (arrived 3 77 unranked (handed_up 17)))
      ∷ replicate 28 none
  pub output : (batch_of start four).output ≡ preceded (plain 1 (21 ∷ 22 ∷ [])) ++ preceded (plain 3 (31 ∷ 32 ∷ 33 ∷ [])) ++ (9 ∷ 9 ∷ 9 ∷ [])
  -- The length bytes tell 16 and 17; with another length in front of either frame it would be seen.
  pub lengths : lengths_stand (batch_of start four).answers (batch_of start four).output ≡ true
  pub first-wrong : lengths_stand (batch_of start four).answers (0 ∷ 15 ∷ drop 2 (batch_of start four).output) ≡ false
  pub second-wrong : lengths_stand (batch_of start four).answers (take 18 (batch_of start four).output ++ 17 ∷ 0 ∷ drop 20 (batch_of start four).output) ≡ false
  -- of a longer frame too: 300 is 1 and 44
  pub long : lengths_stand (some (answers (arrived 0 0 unranked (handed_up 300))) ∷ []) (1 ∷ 44 ∷ []) ≡ true
  pub long-wrong : lengths_stand (some (answers (arrived 0 0 unranked (handed_up 300))) ∷ []) (0 ∷ 44 ∷ []) ≡ false
  -- Each stream gets its own frames, each once: the frame for slot 3 stands behind the one for slot 0.
  pub slot-0 : got_steps the_machine 0 start four_and_one ≡ plain 1 (21 ∷ 22 ∷ []) ∷ plain 1 (23 ∷ []) ∷ []
  pub slot-3 : got_steps the_machine 3 start four_and_one ≡ plain 3 (31 ∷ 32 ∷ 33 ∷ []) ∷ []
  -- The calls that these steps are read as give the same.
  pub calls-0 : got the_receiver 0 start (read_as the_machine start four_and_one) ≡ plain 1 (21 ∷ 22 ∷ []) ∷ plain 1 (23 ∷ []) ∷ []
  pub calls-3 : got the_receiver 3 start (read_as the_machine start four_and_one) ≡ plain 3 (31 ∷ 32 ∷ 33 ∷ []) ∷ []

-- ---- from bytes to bytes

-- On the line of `BothMeet`, and of its sends: 0 comes on network 0. Then 1 and 2 come in one batch on network 1, and 1 once more, with
-- just enough room for it; then 3, which has the number 0, on network 0.
unfoldable pub three_at_once : Batch
three_at_once = record {
  network = 1;
  count = 3;
  frames = flat_map preceded (on_way 1 65534 ∷ on_way 2 65535 ∷ on_way 1 65534 ∷ []);
  out = replicate 52 0;
}

unfoldable pub steps_come : List Step
steps_come =
    single (comes 0 0 65533) ∷ single ticking ∷ single ticking ∷ single ticking ∷ batch three_at_once ∷ single ticking ∷ single (comes 0 3 0) ∷ []

unfoldable pub steps_seen : List Event
steps_seen = copy 0 2 ∷ beat 2 ∷ beat 4 ∷ beat 6 ∷ copy 1 8 ∷ copy 2 8 ∷ copy 1 8 ∷ beat 8 ∷ copy 3 9 ∷ []

unfoldable pub step_places : List ℕ
step_places = 0 ∷ 1 ∷ 2 ∷ 1 ∷ 3 ∷ []

pub record StepsMeet : Type 0 where
  pub fresh : FreshVector (at (new L R) 0)
  pub between : Between the_receiver the_side line b [] [] steps_seen near seven_sent (new L R) 0 (read_as the_machine (new L R) steps_come) step_places
  pub got : got_steps the_machine 0 (new L R) steps_come ≡ message 0 ∷ message 1 ∷ message 2 ∷ message 3 ∷ []
  pub promised : given_at (sent the_side near seven_sent) (once_each [] step_places) ≡ message 0 ∷ message 1 ∷ message 2 ∷ message 3 ∷ []

-- The statements applied, of every machine and every sending side that meet the contracts: to this run, to the sender of `RestartMeets`,
-- and to any batch.
pub record StepsApplied (m : Machine) (side : Side) : Type 0 where
  pub in-batch : got_steps m 0 (new L R) steps_come ≡ given_at (sent side near seven_sent) (once_each [] step_places)
  pub restarted : got_steps m 0 (ran_steps m (new L R) (map single (old_run 4))) (single (comes 0 2 0) ∷ [])
      ≡ given_at (sent side sender_at_first (into 32 2 ∷ [])) (once_each [] (0 ∷ []))
  pub lengths : (t : Table) (b : Batch) → lengths_stand (m.batch t b).answers (m.batch t b).output ≡ true
