-- The runs of `specs/IndexExamples` compute. Assumes nothing.
use mathlib.Core.Path.{refl}
use Rattle.index.specs.Index.{mixed, place_of, named, walk, follow, agrees_at, every_to, agrees, indexed, vacant, probe, entered, built, rebuilt}
use Rattle.index.specs.Indexed.{index_after, rebuilt_by}
use Rattle.batch.specs.Batch.{runs_past, frames_in, turns_in, comes_to, table_after, bundle, batch_of}
use Rattle.demands.specs.Steps.{the_machine, table_of}
use Rattle.demands.specs.Indexed.{drops, index_by, steps_of}
use Rattle.demands.specs.IndexExamples.{IndexedShown}
use Rattle.demands.proofs.Computing.{computing}

pub indexed-shown : IndexedShown
unfolding computing mixed place_of named walk follow agrees_at every_to agrees indexed vacant probe entered built rebuilt index_after rebuilt_by runs_past frames_in turns_in comes_to table_after bundle batch_of the_machine table_of drops index_by steps_of
indexed-shown = record { none-left-out = refl; left_out = refl; short = refl; long = refl }
