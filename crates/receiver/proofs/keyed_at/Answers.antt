-- `receiver::keyed_at` meets its contract: beyond the table no slot has a key.
use Rattle.std.proofs.Common.{rules, arith, ap, ◌∙◌, Bor}
use Rattle.record.specs.declared.Stream.{Stream}
use Rattle.calls.specs.Table.{blank, hears}
use Rattle.receiver.proofs.Lists.{some_and-made}
use Rattle.receiver.proofs.Following.{keyed-made}
use Rattle.receiver.proofs.keyed_at.Goals as goal

pub returns : goal.returns
returns c =
    let k = c.args.key in
    some_and-made c.get.result _ _ (λ (s : Bor Stream). hears k.link k.dest k.vlan s.now) c.is_some_and.ensures (λ s p. search rules)
    ∙ keyed-made k c.get.result ∙ ap (hears k.link k.dest k.vlan) (c.get.ensures.lookup.4 (omega arith) blank)
