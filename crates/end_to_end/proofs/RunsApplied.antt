-- The statements applied to the runs of `specs/Runs`: by the theorems, not by computing. Assumes nothing.
use mathlib.Core.Path.{◌≡◌, refl, sym, subst}
use mathlib.Core.Logic.{inr}
use mathlib.Core.List.{[], ◌∷◌, map}
use lib.Dec.{lit≤}
use lib.ListN.{replicate}
use Rattle.demands.specs.Receiver.{Receiver, MeetsContract, the_receiver}
use Rattle.demands.specs.Examples.{frame}
use Rattle.demands.specs.Steps.{single, Machine, MeetsAll, the_machine, table_of, ran_steps, calls_of, read_as, seen_in, seen_of_step, log_steps}
use Rattle.demands.proofs.Alike.{carried, the-receiver-meets}
use Rattle.demands.proofs.Stepping as stepping
use Rattle.demands.proofs.Stepping.{the-machine-meets}
use Rattle.sender.specs.Sender.{sender_at_first}
use Rattle.sender.specs.Runs.{Side, MeetsSide, the_side}
use Rattle.sender.proofs.Numbers.{the-side-meets}
use Rattle.delays.specs.Line.{least, most, J, came, ticked}
use Rattle.delays.specs.ByNumber.{line, b, L, R}
use Rattle.end_to_end.specs.Runs.{into, comes, new, near, seven_sent, they_come, it_sees, places, line_from, old_run, came_before, rest_comes, rest_seen, rest_places, in_traffic, other, other_sent, EndApplied}
use Rattle.end_to_end.specs.Batches.{BytesToBytesSteps, BytesToBytesRestartedSteps, LengthsStand}
use Rattle.end_to_end.specs.BatchRuns.{steps_come, steps_seen, step_places, StepsApplied}
use Rattle.end_to_end.specs.Theorems.{EndToEnd}
use Rattle.end_to_end.proofs.Runs.{computing, both_meet, restart-meets, traffic-meets}
use Rattle.end_to_end.proofs.BatchRuns.{steps-meet}

-- A sending side that meets order 6 is the definitions' side.
same-side : {side : Side} → MeetsSide side → side ≡ the_side
unfolding the_side
same-side m = λ i. record { send = λ s f out0 out1. m.send s f out0 out1 i; reset = λ s. m.reset s i }

-- Of the receiver and the side that the definitions give,
of-the-two : EndToEnd the_receiver the_side → EndApplied the_receiver the_side
unfolding new line line_from least most J computing other other_sent
of-the-two d = record {
  both = d.bytes-to-bytes line b [] [] it_sees near seven_sent (new L R) 0 they_come places both_meet.fresh both_meet.between;
  restarted = d.bytes-to-bytes-restarted (line_from 22) b [] 15 8 0 24 (came 0 15 ∷ ticked 17 ∷ ticked 19 ∷ ticked 21 ∷ ticked 23 ∷ []) [] sender_at_first
      (into 32 2 ∷ []) (new L R) 0 (old_run 4) (comes 0 2 0 ∷ []) (0 ∷ []) restart-meets.silence restart-meets.longer restart-meets.between;
  in-traffic = d.bytes-to-bytes line b [] came_before rest_seen near seven_sent (new in_traffic R) 0 rest_comes rest_places traffic-meets.fresh
      traffic-meets.between;
  heard = d.copies-are-heard sender_at_first other_sent 0 _ (new L R) 1 they_come
      (ticked 0 ∷ ticked 0 ∷ came 0 0 ∷ ticked 0 ∷ ticked 0 ∷ ticked 0 ∷ ticked 0 ∷ ticked 0 ∷ []) 1 (frame 3 0) (replicate 14 0)
      (record { sixteen = lit≤ tt; whole = refl }) refl (inr refl) (record { some = refl; lowest = refl }) refl refl
      (record { slots = lit≤ tt; network = lit≤ tt; room = lit≤ tt });
}

-- and so of all.
pub applied : ((receive : Receiver) → MeetsContract receive → (side : Side) → MeetsSide side → EndToEnd receive side)
    → (receive : Receiver) → MeetsContract receive → (side : Side) → MeetsSide side → EndApplied receive side
applied both receive k side m =
    let d = of-the-two (both the_receiver the-receiver-meets the_side the-side-meets) in
    subst (EndApplied receive) (sym (same-side m)) (carried (λ (r : Receiver). EndApplied r the_side) d k)

-- With batches the same.
pub record WithBatches (m : Machine) (side : Side) : Type 0 where
  pub steps : BytesToBytesSteps m side
  pub restarted : BytesToBytesRestartedSteps m side
  pub lengths : LengthsStand m

of-the-machine : WithBatches the_machine the_side → StepsApplied the_machine the_side
unfolding computing line_from the_machine table_of ran_steps calls_of read_as seen_in seen_of_step log_steps
of-the-machine d = record {
  in-batch = d.steps line b [] [] steps_seen near seven_sent (new L R) 0 steps_come step_places steps-meet.fresh steps-meet.between;
  restarted = d.restarted (line_from 22) b [] 15 8 0 24 (came 0 15 ∷ ticked 17 ∷ ticked 19 ∷ ticked 21 ∷ ticked 23 ∷ []) [] sender_at_first (into 32 2 ∷ []) (new L R) 0
      (map single (old_run 4)) (single (comes 0 2 0) ∷ []) (0 ∷ [])
      (record { vector = refl; lawful = refl; order = refl; begun = lit≤ tt; over = refl; ticks = refl }) restart-meets.longer restart-meets.between;
  lengths = d.lengths;
}

pub applied-steps : ((m : Machine) → MeetsAll m → (side : Side) → MeetsSide side → WithBatches m side)
    → (m : Machine) → MeetsAll m → (side : Side) → MeetsSide side → StepsApplied m side
applied-steps both m k side s =
    let d = of-the-machine (both the_machine the-machine-meets the_side the-side-meets) in
    subst (StepsApplied m) (sym (same-side s)) (stepping.carried (λ (r : Machine). StepsApplied r the_side) d k)
