-- The run at the wrap as one batch computes. Assumes nothing.
use mathlib.Core.Path.{refl}
use mathlib.Core.List.{flat_map}
use lib.Dec.{lit≤}
use Rattle.frame.specs.Bytes.{overlay}
use Rattle.batch.specs.Batch.{runs_past, frames_in, adds_for, ends, turns_in, comes_to, reached, table_after, packed, before, answers_of, bundle, batch_of}
use Rattle.demands.specs.Steps.{the_machine, table_of, ran_steps, calls_of, read_as, seen_in, seen_of_step, log_steps}
use Rattle.demands.specs.StepExamples.{cut, gap_steps, wrap_frames, wrap, later_steps, bare, WrapInOne}
use Rattle.demands.proofs.Computing.{computing}

pub wrap-in-one : WrapInOne
unfolding computing flat_map overlay runs_past frames_in adds_for ends turns_in comes_to reached table_after packed before answers_of bundle batch_of the_machine table_of ran_steps calls_of read_as seen_in seen_of_step log_steps cut gap_steps wrap_frames wrap later_steps bare
wrap-in-one = record {
  premises = record {
    vector = refl;
    silent = record { lawful = refl; long = lit≤ tt; calm = refl };
    lasts = refl;
    numbered = refl;
    near = refl;
  };
  seen = refl;
  given = refl;
  cut-said = refl;
  cut-answers = refl;
  cut-output = refl;
  fourth = refl;
  said = refl;
  answers = refl;
  output = refl;
}
