-- By the theorems, not by computing. Assumes nothing.
use Prim.Native.Nat.{◌+◌}
use mathlib.Core.Path.{refl}
use mathlib.Core.List.{[], ◌∷◌, ◌++◌, map}
use lib.Dec.{lit≤}
use Rattle.calls.specs.Table.{blank}
use Rattle.demands.specs.Receiver.{Receiver, MeetsContract, the_receiver}
use Rattle.demands.specs.Steps.{single, Machine, MeetsAll, the_machine}
use Rattle.demands.specs.Examples.{address}
use Rattle.demands.proofs.Alike.{carried, the-receiver-meets}
use Rattle.demands.proofs.Stepping.{the-machine-meets}
use Rattle.demands.proofs.Stepping as steps-proofs
use Rattle.delays.specs.Formulas.{least_window}
use Rattle.delays.specs.Line.{came, ticked, indices}
use Rattle.delays.specs.StartedAgain.{Among}
use Rattle.delays.specs.ByNumber.{new, calls, time_of, line, traffic, b, L, R, busy, missed, caught, in_traffic, up_to, behind, old_life, new_life, wait_ticks, again_window}
use Rattle.delays.proofs.ByNumber.{sharp, traffic-sharp, again-sharp}
use Rattle.delays.proofs.Losing.{loses-by}
use Rattle.delays.proofs.Theorems as delays
use Rattle.delays_runs.specs.DelaysRuns.{slow, outage, around, slow_window, bursts, burst, volleys, hush, volley_window, old, again, pause, wide, far, wide_window, steps}
use Rattle.delays_runs.specs.AgainRuns.{again_steps}
use Rattle.delays_runs.specs.DelaysNeeded.{twice}
use Rattle.delays_runs.specs.Applied.{from_zero, Applied, AppliedSteps}
use Rattle.delays_runs.proofs.DelaysRuns.{round-sharp, bursts-shown, bursts-round, restart, wide-shown, in-batches}
use Rattle.delays_runs.proofs.DelaysNeeded.{fewer-needed}
use Rattle.delays_runs.proofs.Computing.{running, stepping}

-- What the old life of `AgainSharp` handed up came in it.
came-in-old : Among (65534 ∷ 65535 ∷ []) (indices old_life)
unfolding running
came-in-old x i = i

of-the-receiver : Applied the_receiver
unfolding running
of-the-receiver =
    let d = (delays.theorems).delays the_receiver the-receiver-meets in
    let j = d.none-for-another (slow 1) (around 1 10) 0 (outage 1) (new (slow_window 1) 10) 0 (calls (slow 1) (outage 1))
    round-sharp.right.gives.fresh round-sharp.right.gives.timed round-sharp.right.keeps round-sharp.right.often
    round-sharp.right.long round-sharp.right.sends (lit≤ tt) in
    record {
      sharp = d.once-each line b [] [] traffic (new L R) 0 (calls line traffic) sharp.right.fresh sharp.right.timed
          sharp.lawful.sends sharp.lawful.keeps sharp.lawful.loses (lit≤ tt) (lit≤ tt);
      in-traffic = d.once-each busy 1 [] missed caught (new in_traffic (time_of busy)) 0 (calls busy caught) traffic-sharp.right.fresh
          traffic-sharp.right.timed traffic-sharp.lawful.sends traffic-sharp.lawful.keeps traffic-sharp.lawful.loses (lit≤ tt) (lit≤ tt);
      in-bursts = d.once-each bursts 5 [] [] burst (new (least_window 5 bursts.m) (time_of bursts)) 0 (calls bursts burst) bursts-shown.right.fresh
          bursts-shown.right.timed bursts-shown.lawful.sends bursts-shown.lawful.keeps bursts-shown.lawful.loses (lit≤ tt) (lit≤ tt);
      widest = d.once-each wide 0 [] [] far (new wide_window (time_of wide)) 0 (calls wide far) wide-shown.right.fresh
          wide-shown.right.timed wide-shown.lawful.sends wide-shown.lawful.keeps wide-shown.lawful.loses (lit≤ tt) (lit≤ tt);
      round = j;
      bursts-round = d.none-for-another (volleys 0) 65531 0 hush (new (volley_window 0) 5) 0 (calls (volleys 0) hush) bursts-round.right.gives.fresh
          bursts-round.right.gives.timed bursts-round.right.keeps bursts-round.right.often bursts-round.right.long
          bursts-round.right.sends (lit≤ tt);
      one-tick-more = d.none-twice (new L (R + 1)) 0 (calls line (twice 7 7)) (twice 7 7) fewer-needed.right.fresh fewer-needed.right.timed
          fewer-needed.fewer fewer-needed.near;
      opened = d.once-each-opened busy 1 [] missed caught (address 1) 0 in_traffic (time_of busy) (blank ∷ []) (new in_traffic (time_of busy)) 0 (calls busy caught)
          refl refl traffic-sharp.right.timed traffic-sharp.lawful.sends traffic-sharp.lawful.keeps traffic-sharp.lawful.loses
          (lit≤ tt) (lit≤ tt);
      restart = d.once-each-restarted (again (pause + 1)) b [] 5 (line.sent 2) 0 20 (old ++ (ticked 19 ∷ [])) (ticked 21 ∷ came 1 22 ∷ came 0 25 ∷ []) (new L R) 0
          (calls line (old ++ (ticked 19 ∷ []))) (calls (again (pause + 1)) (came 0 20 ∷ ticked 21 ∷ came 1 22 ∷ came 0 25 ∷ []))
          restart.right.silence restart.longer restart.right.timed restart.right.lawful.sends restart.right.lawful.keeps
          restart.right.lawful.loses (lit≤ tt) (lit≤ tt);
      again = d.once-each-started-again line b [] (65534 ∷ 65535 ∷ []) old_life (up_to wait_ticks new_life) (behind wait_ticks new_life) again_window R (new again_window R) 0
          (calls line (behind wait_ticks new_life))
          (record { dest = address 1; vlan = 0; table = blank ∷ []; answered = refl; left = refl; timed = again-sharp.right.gives.timed })
          refl came-in-old again-sharp.lawful.sends again-sharp.lawful.keeps again-sharp.lawful.loses (lit≤ tt) (lit≤ tt) (lit≤ tt);
      both-lives = d.once-each-both-lives line b [] [] old_life (up_to wait_ticks new_life) (behind wait_ticks new_life) L R (new L R) 0 (calls line old_life)
          again_window R (new again_window R) 0 (calls line (behind wait_ticks new_life))
          (record { dest = address 1; vlan = 0; table = blank ∷ []; answered = refl; left = refl; timed = again-sharp.old.timed })
          (record { dest = address 1; vlan = 0; table = blank ∷ []; answered = refl; left = refl; timed = again-sharp.right.gives.timed })
          again-sharp.lawful.sends (record { some = lit≤ tt; kept = refl }) (record { some = lit≤ tt; kept = refl })
          (loses-by line [] (old_life ++ up_to wait_ticks new_life ++ behind wait_ticks new_life) refl refl) (lit≤ tt) (lit≤ tt) (lit≤ tt) (lit≤ tt) (lit≤ tt);
    }

pub applied : {receive : Receiver} → MeetsContract receive → Applied receive
applied m = carried Applied of-the-receiver m

of-the-machine : AppliedSteps the_machine
unfolding stepping
of-the-machine =
    let d = (delays.theorems).delays-steps the_machine the-machine-meets in
    record {
      in-batches = d.once-each line b [] [] traffic (new L R) 0 steps in-batches.fresh in-batches.timed sharp.lawful.sends sharp.lawful.keeps
          sharp.lawful.loses (lit≤ tt) (lit≤ tt);
      opened = d.once-each-opened line b [] [] traffic (address 1) 0 L R (blank ∷ []) (new L R) 0 steps refl refl in-batches.timed sharp.lawful.sends
          sharp.lawful.keeps sharp.lawful.loses (lit≤ tt) (lit≤ tt);
      restart = d.once-each-restarted (again (pause + 1)) b [] 5 (line.sent 2) 0 20 (old ++ (ticked 19 ∷ [])) (ticked 21 ∷ came 1 22 ∷ came 0 25 ∷ []) (new L R) 0
          (map single (calls line (old ++ (ticked 19 ∷ [])))) (map single (calls (again (pause + 1)) from_zero))
          (record { vector = refl; lawful = refl; order = refl; begun = lit≤ tt; over = refl; ticks = refl }) restart.longer
          (record { order = refl; numbered = refl }) restart.right.lawful.sends restart.right.lawful.keeps restart.right.lawful.loses
          (lit≤ tt) (lit≤ tt);
      again = d.once-each-started-again line b [] (65534 ∷ 65535 ∷ []) old_life (up_to wait_ticks new_life) (behind wait_ticks new_life) again_window R (new again_window R) 0
          again_steps
          (record { dest = address 1; vlan = 0; table = blank ∷ []; answered = refl; left = refl; timed = record { order = refl; numbered = refl } })
          refl came-in-old again-sharp.lawful.sends again-sharp.lawful.keeps again-sharp.lawful.loses (lit≤ tt) (lit≤ tt) (lit≤ tt);
      both-lives = d.once-each-both-lives line b [] [] old_life (up_to wait_ticks new_life) (behind wait_ticks new_life) L R (new L R) 0 (map single (calls line old_life))
          again_window R (new again_window R) 0 again_steps
          (record { dest = address 1; vlan = 0; table = blank ∷ []; answered = refl; left = refl; timed = record { order = refl; numbered = refl } })
          (record { dest = address 1; vlan = 0; table = blank ∷ []; answered = refl; left = refl; timed = record { order = refl; numbered = refl } })
          again-sharp.lawful.sends (record { some = lit≤ tt; kept = refl }) (record { some = lit≤ tt; kept = refl })
          (loses-by line [] (old_life ++ up_to wait_ticks new_life ++ behind wait_ticks new_life) refl refl) (lit≤ tt) (lit≤ tt) (lit≤ tt) (lit≤ tt) (lit≤ tt);
    }

pub applied-steps : {m : Machine} → MeetsAll m → AppliedSteps m
applied-steps m = steps-proofs.carried AppliedSteps of-the-machine m
