-- `receiver::all_sure` meets its contract.
use Rattle.std.proofs.Common.{ℕ, refl, rules, tests, ◌∙◌}
use Rattle.std.proofs.lemmas.Iterator.{YieldsList-from_slice}
use Rattle.std.proofs.lemmas.Iterator.Consumers.{YieldsList-from_enumerate}
use Rattle.std.proofs.lemmas.Iterator.Search.{all_from_yields_List}
use Rattle.record.specs.declared.Stream.{Stream}
use Rattle.receiver.specs.Seek.{holder_of, sure_at, sure_in, sure_all}
use Rattle.receiver.proofs.Agreeing.{all-slots}
use Rattle.receiver.proofs.all_sure.Goals as goal

pub returns : goal.returns
unfolding sure_in sure_all
returns c =
    let ix = c.args.index.now in
    let t = c.args.t.now in
    let test = λ (e : ℕ × Stream). sure_at ix (holder_of e.1) e.0 in
    all_from_yields_List test _ _ c.all.result c.all.ensures.ran (YieldsList-from_enumerate (YieldsList-from_slice t (cc)) (cc)) (λ x b q k. search (rules, tests))
    ∙ all-slots (sure_in ix t) test t (λ i. refl)
