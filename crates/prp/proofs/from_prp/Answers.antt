-- `prp::from_prp` meets its contract: at each return a law says what the call comes to.
use Rattle.std.proofs.Common.{arith, ℕ, ◌+◌, ◌≤◌, ◌≡◌, false, List, Option, Some, sym, ap, ◌∙◌, ◌-◌, length, take}
use Rattle.record.specs.Sizes.{untagged_most}
use Rattle.frame.specs.Frame.{type_at, head_of}
use Rattle.frame.specs.TagCalls.{said_head}
use Rattle.frame.specs.declared.Header.{Header}
use Rattle.prp.specs.Steps.{Headed}
use Rattle.frame.proofs.Heads.{type-least, head-is, short-is}
use Rattle.prp.specs.Prp.{Trailer, trailer_of, width_of, end_at}
use Rattle.prp.proofs.Turns.{type-other, body-head, from-long, from-short, from_cut, from-tagged, from-refused}
use Rattle.prp.proofs.from_prp.Goals as goal

-- what is known behind the header, once it has no tag
headed : (k : Trailer) (f : List ℕ) {at e : ℕ} {r : Option Header} (h : Header) → e ≡ end_at k f → 14 + width_of k ≤ length f → e ≤ untagged_most
    → said_head r ≡ head_of (take e f) → r ≡ Some h → h.tagged ≡ false → (h.at ≡ type_at f → at ≡ type_at f) → Headed k f at e
headed k f h there long few p q bare here =
    let b = body-head k f h there long (head-is _ h p q) in
    record { here = here b.1; whole = let a = here b.1 in omega arith; there = there; few = few; bare = sym b.2 ∙ bare }

pub returns-then-frame-width : goal.returns-then-frame-width
returns-then-frame-width c =
    let f = c.args.frame.now in
    let t = type-least f in
    let p = from-refused _ _ c.args.out.now _ (from-short (trailer_of c.args.kind) f (omega arith) (omega arith)) in
    record { result_value = p.0; out_after = p.1 }

pub returns-then-end-gt-UNTAGGED_MOST : goal.returns-then-end-gt-UNTAGGED_MOST
returns-then-end-gt-UNTAGGED_MOST c =
    let p = from-refused _ _ c.args.out.now _ (from-long (trailer_of c.args.kind) c.args.frame.now (omega arith)) in
    record { result_value = p.0; out_after = p.1 }

pub returns-in_default : goal.returns-in_default
returns-in_default c =
    let f = c.args.frame.now in
    let s = short-is _ c.read_head.ensures c.in_default.is in
    let p = from-refused _ _ c.args.out.now _ (from_cut (trailer_of c.args.kind) f (omega arith) (ap (λ (x : ℕ). length f - x) c.width-width.ensures) (omega arith) s) in
    record { result_value = p.0; out_after = p.1 }

pub returns-then-header : goal.returns-then-header
returns-then-header c =
    let f = c.args.frame.now in
    let i = head-is _ c.in-Some.header c.read_head.ensures c.in-Some.is in
    let k = body-head (trailer_of c.args.kind) f c.in-Some.header (ap (λ (x : ℕ). length f - x) c.width-width.ensures) (omega arith) i in
    let p = from-refused _ _ c.args.out.now _ (from-tagged (trailer_of c.args.kind) f (omega arith) k.0 (sym k.2 ∙ c.if-header.true)) in
    record { result_value = p.0; out_after = p.1 }

pub from_at-requires : goal.from_at-requires
from_at-requires c =
    headed (trailer_of c.args.kind) c.args.frame.now c.in-Some.header (ap (λ (x : ℕ). length c.args.frame.now - x) c.width-width.ensures) (omega arith)
    c.if-end-gt-UNTAGGED_MOST.false c.read_head.ensures c.in-Some.is c.if-header.false (λ z. sym c.if-header-eq12.true ∙ z)

pub from_at-requires-2 : goal.from_at-requires-2
from_at-requires-2 c =
    headed (trailer_of c.args.kind) c.args.frame.now c.in-Some.header (ap (λ (x : ℕ). length c.args.frame.now - x) c.width-width.ensures) (omega arith)
    c.if-end-gt-UNTAGGED_MOST.false c.read_head.ensures c.in-Some.is c.if-header.false
    (λ z. sym (type-other c.args.frame.now (λ y. c.if-header-eq12.false (z ∙ y))))
