-- `receiver::places::sure` meets its contract.
use Rattle.receiver.proofs.Agreeing.{sure-free, sure-used}
use Rattle.receiver.proofs.places.sure.Goals as goal

pub returns-in-None : goal.returns-in-None
returns-in-None c = sure-free _ _ _ c.in-None.is

pub returns-in-Some : goal.returns-in-Some
returns-in-Some c = sure-used _ _ _ c.in-Some.is c.home.ensures.0 c.sure_from.ensures
