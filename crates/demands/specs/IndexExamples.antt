-- Document 02, order 9: runs of programs with an index, and the steps that they are read as. Assumes nothing.
use Rattle.std.specs.Prelude.{◌≡◌, [], ◌∷◌, replicate}
use Rattle.calls.specs.Table.{blank}
use Rattle.calls.specs.Calls.{closing, resetting, ticking}
use Rattle.index.specs.Cases.{held, none, fits}
use Rattle.batch.specs.Batch.{Batch}
use Rattle.demands.specs.Steps.{single, batch}
use Rattle.demands.specs.Indexed.{step, rebuilds, steps_of}

-- A batch of no frame.
abbrev pub nothing : Batch
nothing = record { network = 0; count = 0; frames = []; out = [] }

pub record IndexedShown : Type 0 where
  -- From a table of free slots and an index of empty places on no step is left out.
  pub none-left-out :
      steps_of none (blank ∷ blank ∷ []) (step (single fits) ∷ step (batch nothing) ∷ step (single (closing 0)) ∷ rebuilds ∷ step (single fits) ∷ [])
      ≡ single fits ∷ batch nothing ∷ single (closing 0) ∷ single fits ∷ []
  -- An index that does not agree: an open, a close and a batch are left out, a reset and a tick are not; and a rebuild mends it.
  pub left_out :
      steps_of none (held 87 0 ∷ blank ∷ [])
      (step (single fits) ∷ step (single (closing 0)) ∷ step (batch nothing) ∷ step (single (resetting 0)) ∷ step (single ticking) ∷ rebuilds ∷ step (single fits) ∷ [])
      ≡ single (resetting 0) ∷ single ticking ∷ single fits ∷ []
  -- One of 127 places no rebuild mends.
  pub short : steps_of (replicate 127 0) (blank ∷ []) (rebuilds ∷ step (single fits) ∷ step (batch nothing) ∷ []) ≡ []
  -- A table of 65 slots is refused with 1, and that is a step.
  pub long : steps_of none (replicate 65 (held 87 0)) (step (single fits) ∷ rebuilds ∷ step (batch nothing) ∷ []) ≡ single fits ∷ batch nothing ∷ []
