-- `frame::take_out` meets its contract: at each return a law says whether the bytes fit.
use Rattle.std.proofs.Common.{arith, sym, ◌∙◌}
use Rattle.frame.proofs.Writes.{without-fits, without-cut, without-long, without-small}
use Rattle.frame.proofs.take_out.Goals as goal

pub returns-then-frame-gt-FRAME_MOST : goal.returns-then-frame-gt-FRAME_MOST
returns-then-frame-gt-FRAME_MOST g c = without-long _ _ _ c.if-frame-gt-FRAME_MOST.true

pub returns-then-frame : goal.returns-then-frame
returns-then-frame g c = without-cut _ _ _ c.if-frame.true

pub returns-then-out-frame : goal.returns-then-out-frame
returns-then-out-frame g c = without-small _ _ _ (omega arith)

pub returns : goal.returns
returns g c = c.cut_at.ensures ∙ sym (without-fits _ _ _ c.requires.place c.if-frame.false (omega arith) (omega arith))
