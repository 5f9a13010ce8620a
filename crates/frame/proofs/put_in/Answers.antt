-- `frame::put_in` meets its contract: at each return a law says whether the bytes fit.
use Rattle.std.proofs.Common.{arith, sym, ◌∙◌}
use Rattle.frame.proofs.Writes.{with-fits, with-cut, with-long, with-small}
use Rattle.frame.proofs.put_in.Goals as goal

pub returns-then-frame-gt-UNTAGGED_MOST : goal.returns-then-frame-gt-UNTAGGED_MOST
returns-then-frame-gt-UNTAGGED_MOST g c = with-long _ _ _ _ c.if-frame-gt-UNTAGGED_MOST.true

pub returns-then-frame : goal.returns-then-frame
returns-then-frame g c = with-cut _ _ _ _ c.if-frame.true

pub returns-then-out-frame : goal.returns-then-out-frame
returns-then-out-frame g c = with-small _ _ _ _ c.if-out-frame.true

pub returns : goal.returns
returns g c = c.tag_at.ensures ∙ sym (with-fits _ _ _ c.requires.place _ c.if-frame.false (omega arith) (omega arith))
