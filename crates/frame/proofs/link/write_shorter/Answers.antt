-- `frame::link::write_shorter` meets its contract: at each return a law says whether the bytes fit.
use Rattle.std.proofs.Common.{arith, sym, ◌∙◌}
use Rattle.frame.specs.Link.{but_last}
use Rattle.frame.proofs.Links.{shorter-fits, shorter-long, shorter-none, shorter-small}
use Rattle.frame.proofs.link.write_shorter.Goals as goal

pub returns-then-frame-gt-FRAME_MOST : goal.returns-then-frame-gt-FRAME_MOST
returns-then-frame-gt-FRAME_MOST c = shorter-long _ _ c.if-frame-gt-FRAME_MOST.true

pub returns-then-frame-lt1 : goal.returns-then-frame-lt1
returns-then-frame-lt1 c = shorter-none _ _ c.if-frame-lt1.true

pub returns-then-out-n : goal.returns-then-out-n
returns-then-out-n c = shorter-small _ _ c.if-out-n.true

pub returns : goal.returns
unfolding but_last
returns c = c.copy.ensures ∙ sym (shorter-fits _ _ (omega arith) (omega arith) (omega arith))
