-- `calls::slot::is_free` meets its contract.
use Rattle.std.proofs.Common.{◌≡◌, refl, Bool, true, false, not}
use Rattle.record.specs.Words.{yes}
use Rattle.calls.specs.Table.{is_free}
use Rattle.calls.proofs.slot.is_free.Goals as goal

twice : (b : Bool) → b ≡ not (not b)
twice true = refl
twice false = refl

pub returns : goal.returns
unfolding is_free yes
returns c = twice _
