-- `prp::to_prp` meets its contract: a refusal of the reader, or what the call below comes to.
use Rattle.std.proofs.Common.{ℕ, List, ◌≡◌, Result, Ok, sym, ap, ◌∙◌}
use Rattle.refusal.specs.Checks.{said}
use Rattle.refusal.specs.Checks.Said.{answers}
use Rattle.refusal.specs.declared.Refusal.{Refusal}
use Rattle.refusal.proofs.Checks.{passed-on}
use Rattle.frame.specs.Frame.{header_of, read_of}
use Rattle.frame.specs.TagCalls.{said_read}
use Rattle.frame.specs.declared.Header.{Header}
use Rattle.frame.specs.declared.Tag.{Tag}
use Rattle.frame.proofs.Heads.{tag_is}
use Rattle.prp.specs.Prp.{trailer_of}
use Rattle.prp.proofs.Turns.{type-other, to-network, to-refused, to-refuses}
use Rattle.prp.proofs.to_prp.Goals as goal

-- what was read of the frame
read : (f : List ℕ) {r : Result Tag Refusal} (t : Tag) → said_read r ≡ read_of f → r ≡ Ok t → read_of f ≡ answers (record { header = header_of f; number = t.number })
read f t p q = sym p ∙ ap said_read q ∙ ap (λ (x : Header). answers (record { header = x; number = t.number })) (tag_is f t p q).same

pub returns-then-network-gt1 : goal.returns-then-network-gt1
returns-then-network-gt1 c =
    let p = to-refuses _ _ _ c.args.out.now _ (to-network (trailer_of c.args.kind) c.args.network c.args.frame.now c.if-network-gt1.true) in
    record { result_value = p.0; out_after = p.1 }

pub returns-in_err-tag : goal.returns-in_err-tag
returns-in_err-tag c =
    let e = passed-on c.from_residual.result c.from_residual.ensures.1 in
    let p = to-refuses _ _ _ c.args.out.now _ (to-refused (trailer_of c.args.kind) c.args.network c.args.frame.now c.if-network-gt1.false c.read_tag.ensures c.in_err-tag.was) in
    record { result_value = ap said e ∙ p.0; out_after = p.1 }

pub to_at-requires : goal.to_at-requires
to_at-requires c =
    let t = tag_is c.args.frame.now c.in_ok-tag.tag c.read_tag.ensures c.in_ok-tag.was in
    record { known = c.if-network-gt1.false; here = sym c.if-tag-eq12.true ∙ t.at; read = read _ _ c.read_tag.ensures c.in_ok-tag.was }

pub to_at-requires-2 : goal.to_at-requires-2
to_at-requires-2 c =
    let t = tag_is c.args.frame.now c.in_ok-tag.tag c.read_tag.ensures c.in_ok-tag.was in
    record {
      known = c.if-network-gt1.false;
      here = sym (type-other _ (λ z. c.if-tag-eq12.false (t.at ∙ z)));
      read = read _ _ c.read_tag.ensures c.in_ok-tag.was;
    }
