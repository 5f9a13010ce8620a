-- `receiver::arrival` meets its contract: at each return a law says that the steps so far are the arrival.
use Rattle.std.proofs.Common.{rules, sym, ap, refl, ◌∙◌, false, Err}
use Rattle.refusal.specs.declared.Refusal.TheVariants.{Unknown}
use Rattle.calls.specs.Said.{said_arrival}
use Rattle.calls.specs.Table.{hears}
use Rattle.calls.proofs.Arrivals.{found_inside, arrival-refused, arrival-unknown, arrival-decided}
use Rattle.refusal.proofs.Checks.{passed-on}
use Rattle.receiver.proofs.arrival.Goals as goal

pub returns-in_err-tag : goal.returns-in_err-tag
returns-in_err-tag c = arrival-refused _ _ _ _ c.from_residual.result c.ask.ensures c.in_err-tag.was (ap said_arrival (passed-on _ c.from_residual.ensures.1))

pub returns-in_default : goal.returns-in_default
returns-in_default c =
    let g = c.in_ok-tag.tag in
    let w = c.find.ensures (hears false g.header.dest g.header.vlan) (λ s r q. search rules) in
    arrival-unknown _ _ _ _ c.ask.ensures c.in_ok-tag.was (Err Unknown) (sym w ∙ c.in_default.is) refl

pub decide_at-judged-requires : goal.decide_at-judged-requires
decide_at-judged-requires c =
    let g = c.in_ok-tag.tag in
    let w = c.find.ensures (hears false g.header.dest g.header.vlan) (λ s r q. search rules) in
    found_inside _ (hears false g.header.dest g.header.vlan) (sym w ∙ c.in-Some.is)

pub returns : goal.returns
returns c =
    let g = c.in_ok-tag.tag in
    let w = c.find.ensures (hears false g.header.dest g.header.vlan) (λ s r q. search rules) in
    arrival-decided _ _ _ _ c.ask.ensures c.in_ok-tag.was (sym w ∙ c.in-Some.is) c.finish.result c.fits-room.ensures
    c.decide_at-judged.ensures.0 c.decide_at-judged.ensures.1
    c.finish.ensures.result_value c.finish.ensures.out_after
