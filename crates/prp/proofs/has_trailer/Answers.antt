-- `prp::has_trailer` meets its contract: at each return a law says whether the frame has a trailer.
use Rattle.std.proofs.Common.{arith, ◌≡◌, sym, ap, ◌∙◌, ◌+◌, ◌-◌, ◌/◌, ◌%◌, length}
use Rattle.frame.specs.Bytes.{word}
use Rattle.prp.specs.Prp.{trailer_of, end_at, after_type, is_lan}
use Rattle.prp.proofs.Trailers.{wears-no-lan, wears-no-size, wears-last}
use Rattle.prp.proofs.has_trailer.Goals as goal

pub returns-then-not-is_lan : goal.returns-then-not-is_lan
returns-then-not-is_lan c =
    let e : c.from_be_bytes-both.result ≡ word c.args.frame.now (end_at (trailer_of c.args.kind) c.args.frame.now + 2) = grind arith in
    wears-no-lan _ _ (ap is_lan (ap (λ x. x / 4096) (sym e)) ∙ sym c.is_lan.ensures ∙ c.if-not-is_lan.true)

pub returns-then-from-frame : goal.returns-then-from-frame
unfolding after_type
returns-then-from-frame c =
    let e : c.from_be_bytes-both.result ≡ word c.args.frame.now (end_at (trailer_of c.args.kind) c.args.frame.now + 2) = grind arith in
    wears-no-size _ _ (λ z. c.if-from-frame.true (c.from.ensures ∙ ap (λ x. x % 4096) e ∙ z ∙ ap (λ x. length c.args.frame.now - (x + 2)) (sym c.requires.here)))

pub returns : goal.returns
unfolding after_type
returns c =
    let e : c.from_be_bytes-both.result ≡ word c.args.frame.now (end_at (trailer_of c.args.kind) c.args.frame.now + 2) = grind arith in
    c.ends_so.ensures
    ∙ wears-last _ _ (ap is_lan (ap (λ x. x / 4096) (sym e)) ∙ sym c.is_lan.ensures ∙ c.if-not-is_lan.false)
    (ap (λ x. x % 4096) (sym e) ∙ sym c.from.ensures ∙ c.if-from-frame.false ∙ ap (λ x. length c.args.frame.now - (x + 2)) c.requires.here)
