-- `calls::hears` meets its contract: at each return it is known which of its tests decides.
use Rattle.std.proofs.Common.{false}
use Rattle.calls.proofs.Keys.{other-dest, other-vlan, not-heard, link-of-none, heard-plain}
use Rattle.calls.proofs.hears.Goals as goal

pub returns-then-s-vlan : goal.returns-then-s-vlan
returns-then-s-vlan c = rw c.if-link.false (not-heard _ _ _ false (other-vlan _ _ _ c.if-s-vlan.true))

pub returns-then-s-dest : goal.returns-then-s-dest
returns-then-s-dest c = rw c.if-link.false (not-heard _ _ _ false (other-dest _ _ _ c.if-s-dest.true))

pub returns-then-s-eq-LINK_RULE : goal.returns-then-s-eq-LINK_RULE
returns-then-s-eq-LINK_RULE c = rw c.if-link.false (link-of-none _ _ _ c.if-s-eq-LINK_RULE.true)

pub returns : goal.returns
returns c = rw c.if-link.false (heard-plain _ _ _ c.if-s-dest.false c.if-s-vlan.false c.if-s-eq-LINK_RULE.false)
