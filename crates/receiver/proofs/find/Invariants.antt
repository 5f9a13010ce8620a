-- `receiver::find`: none of the first i records passes.
use Rattle.std.proofs.Common.{◌≡◌, ◌≤◌, ◌-◌, Bool, None, length, take}
use Rattle.record.specs.declared.Stream.{Stream}
use Rattle.calls.specs.Table.{found}
use Rattle.receiver.proofs.find.Given as goal

abbrev pub invariant-loop-i : goal.invariant-loop-i
invariant-loop-i g l = record {
  within : l.i ≤ length l.t;
  before : (p : Stream → Bool) → ((s : Stream) (r : Bool) → goal.F-post g l.passes s r → r ≡ p s) → found p (take l.i l.t) ≡ None;
}

abbrev pub decreases-loop-i : goal.decreases-loop-i
decreases-loop-i g l = length l.t - l.i
