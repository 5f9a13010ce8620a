-- `receiver::all_agree` meets its contract.
use Rattle.std.proofs.Common.{length, rules, tests, arith, ◌∙◌}
use Rattle.std.proofs.lemmas.Iterator.{YieldsList-from_range}
use Rattle.std.proofs.lemmas.Iterator.Search.{all_from_yields_List}
use Rattle.index.specs.Index.{agrees_at, agrees}
use Rattle.receiver.proofs.Agreeing.{all-below}
use Rattle.receiver.proofs.all_agree.Goals as goal

pub returns : goal.returns
unfolding agrees
returns c =
    let ix = c.args.index.now in
    let t = c.args.t.now in
    all_from_yields_List (agrees_at ix t) _ _ c.all.result c.all.ensures.ran (YieldsList-from_range 0 (length t) (length t) (cc) (omega arith)) (λ x b q k. search (rules, tests))
    ∙ all-below (agrees_at ix t) (length t)
