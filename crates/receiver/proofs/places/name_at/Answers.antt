-- `receiver::places::name_at` meets its contract: what a place's value says, and nothing beyond the index.
use Rattle.std.proofs.Common.{sym, ◌∙◌, arith}
use borrow.Author.Tests.{ltb-false}
use Rattle.receiver.proofs.Following.{name-past, name-beyond, name-empty, name-slot}
use Rattle.receiver.proofs.places.name_at.Goals as goal

pub returns-then-k-ge-PLACES : goal.returns-then-k-ge-PLACES
returns-then-k-ge-PLACES c = name-past _ _ _ c.if-k-ge-PLACES.true

pub returns-in_err-get : goal.returns-in_err-get
returns-in_err-get c = c.from_residual.ensures ∙ name-beyond _ _ _ c.if-k-ge-PLACES.false (ltb-false _ _ (sym c.in_err-get.ensures.lookup.0))

pub returns-then-name-eq0 : goal.returns-then-name-eq0
returns-then-name-eq0 c =
    name-empty c.args.index.now _ _ c.if-k-ge-PLACES.false (c.from-name.ensures ∙ c.in_ok-get.ensures.lookup.3.1 0) c.if-name-eq0.true

pub returns : goal.returns
returns c = name-slot c.args.index.now _ _ c.if-k-ge-PLACES.false (c.from-name.ensures ∙ c.in_ok-get.ensures.lookup.3.1 0) (omega arith)
