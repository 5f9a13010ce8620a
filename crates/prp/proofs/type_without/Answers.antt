-- `prp::type_without` meets its contract: 8100 comes to stand at 12, or not.
use Rattle.std.proofs.Common.{arith, ◌≡◌, ◌+◌}
use Rattle.frame.specs.Bytes.{word}
use Rattle.prp.proofs.Trailers.{vlan-comes, none-comes}
use Rattle.prp.proofs.type_without.Goals as goal

pub returns-then-from_be_bytes : goal.returns-then-from_be_bytes
returns-then-from_be_bytes c =
    let e : c.from_be_bytes.result ≡ word c.args.frame.now (c.args.at + 6) = grind arith in
    vlan-comes _ _ c.requires.at_value c.requires.at_in_bounds e c.if-from_be_bytes.true

pub returns : goal.returns
returns c =
    let e : c.from_be_bytes.result ≡ word c.args.frame.now (c.args.at + 6) = grind arith in
    none-comes _ _ c.requires.at_value c.requires.at_in_bounds e c.if-from_be_bytes.false
