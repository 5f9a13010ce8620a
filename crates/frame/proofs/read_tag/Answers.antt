-- `frame::read_tag` meets its contract: at each return a law says which case of `read_of` holds.
use Rattle.std.proofs.Common.{arith}
use borrow.Author.Tests.{lt-ltb, not-true, not-false}
use Rattle.frame.specs.Frame.{read_of}
use Rattle.frame.proofs.Heads.{head-is, short-is, type-least, read_short, read-untagged, read-cut, read_whole}
use Rattle.frame.proofs.read_tag.Goals as goal

pub returns-then-frame-gt-FRAME_MOST : goal.returns-then-frame-gt-FRAME_MOST
unfolding read_of
returns-then-frame-gt-FRAME_MOST c = simp (lt-ltb _ _ c.if-frame-gt-FRAME_MOST.true)

pub returns-in_default : goal.returns-in_default
returns-in_default c = read_short _ (omega arith) (short-is _ c.read_head.ensures c.in_default.is)

pub returns-then-not-header : goal.returns-then-not-header
returns-then-not-header c =
    let k = head-is c.args.frame.now c.in-Some.header c.read_head.ensures c.in-Some.is in
    read-untagged _ (omega arith) _ k (not-true _ c.if-not-header.true)

pub overflow_add-at : goal.overflow_add-at
overflow_add-at c =
    let k = head-is c.args.frame.now c.in-Some.header c.read_head.ensures c.in-Some.is in
    omega (arith, type-least c.args.frame.now)

pub returns-then-frame-at : goal.returns-then-frame-at
returns-then-frame-at c =
    let k = head-is c.args.frame.now c.in-Some.header c.read_head.ensures c.in-Some.is in
    read-cut _ (omega arith) _ k (not-false _ c.if-not-header.false) c.if-frame-at.true

pub returns : goal.returns
returns c =
    let k = head-is c.args.frame.now c.in-Some.header c.read_head.ensures c.in-Some.is in
    read_whole _ (omega arith) _ k (not-false _ c.if-not-header.false) c.if-frame-at.false c.word_at-number.ensures
