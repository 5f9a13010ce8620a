-- `receiver::agrees_at` meets its contract.
use Rattle.std.proofs.Common.{◌≡◌, refl, ap, ◌∙◌, Some}
use Rattle.calls.specs.declared.Key.{Key}
use Rattle.index.specs.Index.{follow}
use Rattle.receiver.specs.Seek.{place_as}
use Rattle.receiver.proofs.Agreeing.{follow-agrees, free-agrees, by-used}
use Rattle.receiver.proofs.agrees_at.Goals as goal

pub returns-in-Some : goal.returns-in-Some
returns-in-Some c =
    follow-agrees c.args.index.now c.args.t.now c.args.i (Some c.in-Some.key) c.in-Some.ensures _
    (λ k e. let q : c.in-Some.key ≡ k = cc e in c.follow.ensures ∙ ap (λ (x : Key). place_as c.args.t.now (follow c.args.index.now c.args.t.now x)) q)
    _ (by-used _ _ _ refl c.not_above.ensures)

pub returns-in-None : goal.returns-in-None
returns-in-None c = free-agrees c.args.index.now c.args.t.now c.args.i c.in-None.ensures
