-- `batch::fill`: all frames that are left leave what all leave, and table and index agree.
use Rattle.std.proofs.Common.{◌≡◌, ◌≤◌, true, length}
use Rattle.record.specs.Sizes.{slots_most}
use Rattle.index.specs.Index.{indexed}
use Rattle.batch.specs.Steps.{filled_of}
use Rattle.batch.proofs.Filling.{Whole}
use Rattle.batch.proofs.fill.Given as goal

abbrev pub invariant-loop-next : goal.invariant-loop-next
invariant-loop-next l = record {
  whole : Whole l.frames (length l.out) l.c;
  same :
      filled_of l.network l.frames (record { table = l.t; cursor = l.c; out = l.out; answers = l.answers })
      ≡ filled_of l.network l.frames (record { table = l.initial.t; cursor = l.initial.c; out = l.initial.out; answers = l.initial.answers });
  agree : (length l.t ≤ slots_most) × (indexed l.index l.t ≡ true);
}

abbrev pub decreases-loop-next : goal.decreases-loop-next
decreases-loop-next l = l.c.left
