-- `receiver::open_in` meets its contract: settings that are out of range are refused, and else the steps are the open.
use Rattle.std.proofs.Common.{rules, refl, arith, ap, sym, ◌∙◌, ◌<◌, length}
use Rattle.calls.specs.Table.{is_free}
use Rattle.calls.specs.Steps.{placing_of}
use Rattle.calls.proofs.Slots.{open-unsettled, open-refused-so, open-meets}
use Rattle.refusal.proofs.Checks.{passed-on}
use Rattle.receiver.proofs.Opening.{seen-is, place-within}
use Rattle.receiver.proofs.open_in.Goals as goal

pub returns-then-not-settled : goal.returns-then-not-settled
returns-then-not-settled c =
    open-unsettled _ _ _ _ _ _ c.requires.0 c.destination-dest.ensures c.opened-s.ensures _ (sym c.settled.ensures ∙ c.if-not-settled.true) refl

pub returns-in_err-slot : goal.returns-in_err-slot
returns-in_err-slot c =
    let t = c.args.t.now in
    let free = c.find-free.ensures is_free (λ s r p. search rules) in
    let placed = ap (placing_of c.follow.result c.follow-2.result) (sym free) ∙ sym c.place.ensures ∙ c.in_err-slot.was in
    open-refused-so t _ _ _ _ _ c.requires.0 c.destination-dest.ensures c.opened-s.ensures (sym c.settled.ensures ∙ c.if-not-settled.false) _ _
    (seen-is c.args.index.now t _ _ c.requires.1 _ c.follow.ensures _ c.follow-2.ensures) _ _ placed (passed-on _ c.from_residual.ensures.1)

pub offset_bounds-t-slot : goal.offset_bounds-t-slot
offset_bounds-t-slot c =
    let t = c.args.t.now in
    let free = c.find-free.ensures is_free (λ s r p. search rules) in
    let placed = ap (placing_of c.follow.result c.follow-2.result) (sym free) ∙ sym c.place.ensures ∙ c.in_ok-slot.was in
    let here : c.in_ok-slot.slot < length t = place-within _ _ is_free t placed in
    omega (arith, here, c.requires.0)

pub bounds-t-slot : goal.bounds-t-slot
bounds-t-slot c =
    let t = c.args.t.now in
    let free = c.find-free.ensures is_free (λ s r p. search rules) in
    let placed = ap (placing_of c.follow.result c.follow-2.result) (sym free) ∙ sym c.place.ensures ∙ c.in_ok-slot.was in
    place-within _ _ is_free t placed

pub returns : goal.returns
returns c =
    let t = c.args.t.now in
    let free = c.find-free.ensures is_free (λ s r p. search rules) in
    let placed = ap (placing_of c.follow.result c.follow-2.result) (sym free) ∙ sym c.place.ensures ∙ c.in_ok-slot.was in
    open-meets t _ _ _ _ _ c.requires.0 c.destination-dest.ensures c.opened-s.ensures (sym c.settled.ensures ∙ c.if-not-settled.false) _ _
    (seen-is c.args.index.now t _ _ c.requires.1 _ c.follow.ensures _ c.follow-2.ensures) _ placed refl refl
