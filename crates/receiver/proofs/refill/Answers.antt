-- `receiver::refill` meets its contract.
use Rattle.std.proofs.Common.{ap, ◌∙◌, replicate, arith, ℕ}
use Rattle.std.proofs.lemmas.List.{get_or_default}
use Rattle.calls.specs.Table.{blank}
use Rattle.receiver.specs.Seek.{holder_of}
use Rattle.receiver.proofs.Rebuilding.{built-none, built-more, built-all}
use Rattle.receiver.proofs.refill.Goals as goal

pub loop-i-init : goal.loop-i-init
loop-i-init c = built-none c.args.t.now _ (c.fill.ensures.after (λ y p. p) ∙ ap (λ (n : ℕ). replicate n 0) c.told-index)

pub loop-i-preserved : goal.loop-i-preserved
loop-i-preserved c =
    built-more c.args.t.now c.loop-i.i _ _ _ c.loop-i.invariant
    (c.holder_of.ensures ∙ ap holder_of (get_or_default c.args.t.now c.loop-i.i _ blank c.loop-i-test.true)) c.enter.ensures

pub returns : goal.returns
returns c = built-all c.args.t.now c.loop-i.i _ (omega arith) c.loop-i-test.false c.loop-i.invariant
