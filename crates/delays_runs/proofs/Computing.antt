-- One name for all that the runs of this crate compute with. Assumes nothing.
use mathlib.Core.List.{flat_map}
use Rattle.frame.specs.Bytes.{overlay}
use Rattle.batch.specs.Batch.{runs_past, frames_in, adds_for, ends, turns_in, comes_to, reached, table_after, packed, before, answers_of, bundle, batch_of}
use Rattle.demands.specs.Corollaries.{handed_of, distinct}
use Rattle.demands.specs.Steps.{the_machine, table_of, ran_steps, seen_in, seen_of_step, log_steps}
use Rattle.delays.specs.StartedAgain.{handed_in_all}
use Rattle.delays.proofs.Computing.{timing}
use Rattle.delays_runs.specs.DelaysRuns.{beats, slow, outage, hole, bursts, burst, volleys, hush, old, again, lull, back, level, wide, far, steps}
use Rattle.delays_runs.specs.AgainRuns.{beats_at, third_life, again_steps}
use Rattle.delays_runs.specs.DelaysNeeded.{tardy, older, overdue, anew, twice, sooner, pair, falling, fallen}

unfoldable pub running : Unit {0}
unfolding timing handed_of distinct handed_in_all beats slow outage tardy hole bursts burst volleys hush old again older overdue anew lull back level wide far twice sooner pair falling fallen beats_at third_life
running = tt

-- and with a batch
unfoldable pub stepping : Unit {0}
unfolding running flat_map overlay runs_past frames_in adds_for ends turns_in comes_to reached table_after packed before answers_of bundle batch_of the_machine table_of ran_steps seen_in seen_of_step log_steps steps again_steps
stepping = tt
