-- `frame::group_source` meets its contract: a frame that ends before its source has no group source.
use Rattle.std.proofs.Common.{refl}
use Rattle.frame.specs.Frame.{group_source}
use Rattle.frame.proofs.Words.{no_source}
use Rattle.frame.proofs.group_source.Goals as goal

pub returns-then-frame-lt7 : goal.returns-then-frame-lt7
returns-then-frame-lt7 c = no_source _ c.if-frame-lt7.true

pub returns : goal.returns
unfolding group_source
returns c = refl
