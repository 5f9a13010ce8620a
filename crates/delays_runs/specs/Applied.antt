-- The statements of `delays` applied to runs at their bounds, of every receiver that meets the contract: none asks for more than
-- these runs keep to. Assumes nothing.
use Rattle.std.specs.Prelude.{ℕ, ◌+◌, ◌≡◌, List, [], ◌∷◌, ◌++◌, map}
use Rattle.record.specs.Sizes.{vector_rule}
use Rattle.calls.specs.Table.{blank}
use Rattle.calls.specs.Calls.{Call, opening}
use Rattle.demands.specs.Receiver.{Receiver, run}
use Rattle.demands.specs.Seen.{log, verdicts}
use Rattle.demands.specs.Steps.{single, Machine, ran_steps, log_steps}
use Rattle.demands.specs.Examples.{address}
use Rattle.delays.specs.Formulas.{least_window}
use Rattle.delays.specs.Line.{Event, came, ticked, indices}
use Rattle.delays.specs.OnceEach.{up_at_first, Judged}
use Rattle.delays.specs.StartedAgain.{Again, BothLives}
use Rattle.delays.specs.ByNumber.{new, calls, time_of, line, traffic, L, R, busy, caught, in_traffic, behind, old_life, new_life, wait_ticks, again_window}
use Rattle.delays_runs.specs.AgainRuns.{again_steps}
use Rattle.delays_runs.specs.DelaysNeeded.{twice}
use Rattle.delays_runs.specs.DelaysRuns.{slow, outage, slow_window, bursts, burst, volleys, hush, volley_window, old, again, pause, wide, far, wide_window, steps}

-- An open of the stream, below in a table of one free slot.
abbrev pub opens : (window time : ℕ) → Call
opens window time = opening (address 1) 0 vector_rule window time

-- The new count of `right` in `Restart`.
abbrev pub from_zero : List Event
from_zero = came 0 20 ∷ ticked 21 ∷ came 1 22 ∷ came 0 25 ∷ []

pub record Applied (receive : Receiver) : Type 0 where
  pub sharp : verdicts (log receive 0 (new L R) (calls line traffic)) ≡ up_at_first (indices traffic)
  pub in-traffic : verdicts (log receive 0 (new in_traffic (time_of busy)) (calls busy caught)) ≡ up_at_first (indices caught)
  pub in-bursts : verdicts (log receive 0 (new (least_window 5 bursts.m) (time_of bursts)) (calls bursts burst)) ≡ up_at_first (indices burst)
  pub widest : verdicts (log receive 0 (new wide_window (time_of wide)) (calls wide far)) ≡ up_at_first (indices far)
  -- where the third formula holds with nothing to spare
  pub round : Judged (slow_window 1) 10 (verdicts (log receive 0 (new (slow_window 1) 10) (calls (slow 1) (outage 1)))) (outage 1)
  -- the same of a sender of bursts
  pub bursts-round : Judged (volley_window 0) 5 (verdicts (log receive 0 (new (volley_window 0) 5) (calls (volleys 0) hush))) hush
  -- a tick that comes too soon, with R one more
  pub one-tick-more : Judged L (R + 1) (verdicts (log receive 0 (new L (R + 1)) (calls line (twice 7 7)))) (twice 7 7)
  -- opened in the middle of traffic
  pub opened : verdicts (log receive 0 (receive (blank ∷ []) (opens in_traffic (time_of busy))).table (calls busy caught)) ≡ up_at_first (indices caught)
  -- one longer than R tau + J
  pub restart :
      verdicts (log receive 0 (run receive (new L R) (calls line (old ++ (ticked 19 ∷ [])))) (calls (again (pause + 1)) from_zero))
      ≡ up_at_first (indices from_zero)
  -- started again, with a wait of R ticks
  pub again : Again (65534 ∷ 65535 ∷ []) (verdicts (log receive 0 (receive (blank ∷ []) (opens again_window R)).table (calls line (behind wait_ticks new_life))))
      old_life (behind wait_ticks new_life)
  pub both-lives : BothLives (verdicts (log receive 0 (receive (blank ∷ []) (opens L R)).table (calls line old_life)))
      (verdicts (log receive 0 (receive (blank ∷ []) (opens again_window R)).table (calls line (behind wait_ticks new_life)))) old_life (behind wait_ticks new_life)

-- The same with the batch beside it.
pub record AppliedSteps (m : Machine) : Type 0 where
  pub in-batches : verdicts (log_steps m 0 (new L R) steps) ≡ up_at_first (indices traffic)
  pub opened : verdicts (log_steps m 0 (m.receive (blank ∷ []) (opens L R)).table steps) ≡ up_at_first (indices traffic)
  pub restart :
      verdicts (log_steps m 0 (ran_steps m (new L R) (map single (calls line (old ++ (ticked 19 ∷ []))))) (map single (calls (again (pause + 1)) from_zero)))
      ≡ up_at_first (indices from_zero)
  pub again : Again (65534 ∷ 65535 ∷ []) (verdicts (log_steps m 0 (m.receive (blank ∷ []) (opens again_window R)).table again_steps))
      old_life (behind wait_ticks new_life)
  pub both-lives : BothLives (verdicts (log_steps m 0 (m.receive (blank ∷ []) (opens L R)).table (map single (calls line old_life))))
      (verdicts (log_steps m 0 (m.receive (blank ∷ []) (opens again_window R)).table again_steps)) old_life (behind wait_ticks new_life)
