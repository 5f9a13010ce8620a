-- `frame::read_head` meets its contract: at each return a law says which case of `head_of` holds.
use Rattle.std.proofs.Common.{arith, ◌≡◌}
use Rattle.frame.specs.Frame.{unranked}
use Rattle.frame.proofs.Heads.{head-none, head_plain, head-vlan, head-vlan-cut}
use Rattle.frame.proofs.read_head.Goals as goal

pub returns-then-frame-lt14 : goal.returns-then-frame-lt14
returns-then-frame-lt14 c = head-none _ c.if-frame-lt14.true

pub returns-then-first : goal.returns-then-first
returns-then-first c =
    let rank : c.default.result ≡ unranked = λ i. record { priority = c.default.ensures.0 i; vlantag = c.default.ensures.1 i } in
    rw rank (head_plain _ (omega arith) c.dest_of-dest.ensures c.word_at-first.ensures c.if-first.true)

pub returns-then-frame-lt18 : goal.returns-then-frame-lt18
returns-then-frame-lt18 c = head-vlan-cut _ c.if-frame-lt18.true c.word_at-first.ensures c.if-first.false

pub returns : goal.returns
returns c =
    head-vlan _ (omega arith) c.dest_of-dest.ensures c.word_at-first.ensures c.if-first.false c.word_at-control.ensures
    c.word_at-second.ensures
