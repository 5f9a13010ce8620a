-- `frame::link::read_link` meets its contract: at each return a law says which case of `link_of` holds.
use Rattle.std.proofs.Common.{arith}
use Rattle.frame.proofs.Links.{link-long, link-short, link-group, link-read}
use Rattle.frame.proofs.link.read_link.Goals as goal

pub returns-then-frame-gt-FRAME_MOST : goal.returns-then-frame-gt-FRAME_MOST
returns-then-frame-gt-FRAME_MOST c = link-long _ c.if-frame-gt-FRAME_MOST.true

pub returns-then-frame-lt-LINK_LEAST : goal.returns-then-frame-lt-LINK_LEAST
returns-then-frame-lt-LINK_LEAST c = link-short _ (omega arith) c.if-frame-lt-LINK_LEAST.true

pub returns-then-group_source : goal.returns-then-group_source
returns-then-group_source c = link-group _ (omega arith) (omega arith) c.group_source.ensures c.if-group_source.true

pub returns : goal.returns
returns c =
    link-read _ (omega arith) (omega arith) c.group_source.ensures c.if-group_source.false c.dest_of-dest.ensures
    c.from-number.ensures (rw c.from-number.ensures (c.type_inv.frame _).fits)
