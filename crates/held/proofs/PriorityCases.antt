-- The cases of `specs/PriorityCases` compute. Assumes nothing.
use mathlib.Core.Path.{refl}
use Rattle.frame.specs.Bytes.{overlay}
use Rattle.batch.specs.Batch.{runs_past, frames_in, adds_for, ends, turns_in, comes_to, before, answers_of, bundle, batch_of}
use Rattle.demands.proofs.Computing.{computing}
use Rattle.held.specs.PriorityCases.{PriorityCases}

pub priority-cases : PriorityCases
unfolding computing overlay runs_past frames_in adds_for ends turns_in comes_to before answers_of bundle batch_of
priority-cases = record {
  bits = (refl, refl, refl, refl, refl, refl);
  no-tag = (refl, refl, refl);
  up = refl;
  again = refl;
  far = refl;
  zero-id = refl;
  behind = (refl, refl);
  batch = (refl, refl);
}
