-- The runs with batches compute. Assumes nothing.
use mathlib.Core.Path.{refl}
use mathlib.Core.Logic.{inl, inr}
use mathlib.Core.List.{[], flat_map}
use lib.Dec.{lit≤}
use Rattle.frame.specs.Bytes.{overlay}
use Rattle.batch.specs.Batch.{runs_past, frames_in, adds_for, ends, turns_in, comes_to, reached, table_after, packed, before, answers_of, bundle, batch_of}
use Rattle.demands.specs.Steps.{the_machine, table_of, calls_of, read_as}
use Rattle.demands.proofs.Computing.{computing}
use Rattle.delays.specs.ByNumber.{line}
use Rattle.delays.proofs.Losing.{loses-by}
use Rattle.end_to_end.specs.Bytes.{got_of, got}
use Rattle.end_to_end.specs.Batches.{takes, lengths_stand, got_in, got_from, got_steps}
use Rattle.end_to_end.specs.BatchRuns.{plain, numbered, four, four_and_one, BatchGot, three_at_once, steps_come, steps_seen, step_places, StepsMeet}
use Rattle.end_to_end.proofs.Runs.{computing as running, spaced}

pub batch-got : BatchGot
unfolding computing flat_map overlay runs_past frames_in adds_for ends turns_in comes_to reached table_after packed before answers_of bundle batch_of the_machine table_of calls_of read_as got_of got takes lengths_stand got_in got_from got_steps plain numbered four four_and_one
batch-got = record { answered = refl; output = refl; lengths = refl; first-wrong = refl; second-wrong = refl; long = refl; long-wrong = refl; slot-0 = refl; slot-3 = refl; calls-0 = refl; calls-3 = refl }

-- ---- from bytes to bytes

-- One name for all that the second run computes with.
unfoldable stepping : Unit {0}
unfolding running flat_map overlay runs_past frames_in adds_for ends turns_in comes_to reached table_after packed before answers_of bundle batch_of the_machine table_of calls_of read_as takes got_in got_from got_steps three_at_once steps_come steps_seen step_places
stepping = tt

pub steps-meet : StepsMeet
unfolding stepping
steps-meet = record {
  fresh = record { vector = refl; lawful = refl; any = refl };
  between = record {
    from-sender = record {
      sends = record { sixteen = lit≤ tt; whole = refl };
      copies = ((_, refl, inl refl), ((_, refl, inr refl), ((_, refl, inr refl), ((_, refl, inr refl), ((_, refl, inl refl), tt)))));
    };
    order = refl;
    counted = refl;
    sends = spaced;
    keeps = record { some = lit≤ tt; kept = refl };
    loses = loses-by line [] steps_seen refl refl;
    window = lit≤ tt;
    time = lit≤ tt;
  };
  got = refl;
  promised = refl;
}
