-- `receiver::holder_at` meets its contract: beyond the table no slot is in use.
use Rattle.std.proofs.Common.{rules, arith, ap, ◌∙◌, Bor}
use Rattle.record.specs.declared.Stream.{Stream}
use Rattle.calls.specs.Table.{blank}
use Rattle.receiver.specs.Seek.{holder_of}
use Rattle.receiver.proofs.Lists.{some_then-made}
use Rattle.receiver.proofs.Agreeing.{holder-made}
use Rattle.receiver.proofs.holder_at.Goals as goal

pub returns : goal.returns
returns c =
    some_then-made c.get.result _ _ (λ (s : Bor Stream). holder_of s.now) c.and_then.ensures (λ s p. search rules)
    ∙ holder-made c.get.result ∙ ap holder_of (c.get.ensures.lookup.4 (omega arith) blank)
