-- `receiver::places::enter` meets its contract.
use Rattle.std.proofs.Common.{arith}
use Rattle.receiver.proofs.Rebuilding.{enter-free, enter-used}
use Rattle.receiver.proofs.places.enter.Goals as goal

pub returns-in-Some : goal.returns-in-Some
returns-in-Some c = enter-used c.args.holder _ _ c.in-Some.is c.home.ensures.0 c.vacant_from-p.ensures.0 (omega arith)

pub returns-in_default : goal.returns-in_default
returns-in_default c = enter-free c.args.holder _ _ c.in_default.is
