-- `batch::runs_past`: what is left runs past exactly if all does.
use Rattle.std.proofs.Common.{◌≡◌, ◌-◌}
use Rattle.batch.specs.Batch.{runs_past}
use Rattle.batch.proofs.runs_past.Given as goal

abbrev pub invariant-loop : goal.invariant-loop
invariant-loop l = runs_past (l.count - l.counter) l.rest ≡ runs_past l.count l.frames
