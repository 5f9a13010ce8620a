-- `calls::link::hears_links` meets its contract: at each return it is known which of its tests decides.
use Rattle.std.proofs.Common.{true}
use Rattle.calls.proofs.Keys.{other-dest, other-vlan, not-heard, none-of-links, heard-link}
use Rattle.calls.proofs.link.hears_links.Goals as goal

pub returns-then-s-dest : goal.returns-then-s-dest
returns-then-s-dest c = not-heard _ _ _ true (other-dest _ _ _ c.if-s-dest.true)

pub returns-then-s-vlan : goal.returns-then-s-vlan
returns-then-s-vlan c = not-heard _ _ _ true (other-vlan _ _ _ c.if-s-vlan.true)

pub returns-then-s-ne-LINK_RULE : goal.returns-then-s-ne-LINK_RULE
returns-then-s-ne-LINK_RULE c = none-of-links _ _ _ c.if-s-ne-LINK_RULE.true

pub returns : goal.returns
returns c = heard-link _ _ _ c.if-s-dest.false c.if-s-vlan.false c.if-s-ne-LINK_RULE.false
