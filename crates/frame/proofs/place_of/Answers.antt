-- `frame::place_of` meets its contract: at each return a law says where the tag is put.
use Rattle.std.proofs.Common.{arith, sym, ap, ◌∙◌}
use Rattle.refusal.specs.Checks.Said.{answers}
use Rattle.frame.proofs.Heads.{head-is, short-is}
use Rattle.frame.proofs.Writes.{place-long, place_short, place-tagged, place-group, place-whole}
use Rattle.frame.proofs.place_of.Goals as goal

pub returns-then-frame-gt-UNTAGGED_MOST : goal.returns-then-frame-gt-UNTAGGED_MOST
returns-then-frame-gt-UNTAGGED_MOST c = sym (place-long _ c.if-frame-gt-UNTAGGED_MOST.true)

pub returns-in_default : goal.returns-in_default
returns-in_default c = sym (place_short _ (omega arith) (short-is _ c.read_head.ensures c.in_default.is))

pub returns-then-header : goal.returns-then-header
returns-then-header c =
    let k = head-is c.args.frame.now c.in-Some.header c.read_head.ensures c.in-Some.is in
    sym (place-tagged _ (omega arith) k.room (sym k.tagged ∙ c.if-header.true))

pub returns-then-group_source : goal.returns-then-group_source
returns-then-group_source c =
    let k = head-is c.args.frame.now c.in-Some.header c.read_head.ensures c.in-Some.is in
    sym (place-group _ (omega arith) k.room (sym k.tagged ∙ c.if-header.false) (sym c.group_source.ensures ∙ c.if-group_source.true))

pub returns : goal.returns
returns c =
    let k = head-is c.args.frame.now c.in-Some.header c.read_head.ensures c.in-Some.is in
    ap answers k.at ∙ sym (place-whole _ (omega arith) k.room (sym k.tagged ∙ c.if-header.false) (sym c.group_source.ensures ∙ c.if-group_source.false))
