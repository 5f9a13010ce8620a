-- `prp::from_at` meets its contract: at each return a law says what the call comes to.
use Rattle.std.proofs.Common.{arith, refl, sym, ap, ◌∙◌, ◌+◌, ◌-◌, ◌/◌, ◌≡◌}
use Rattle.frame.specs.Bytes.{word}
use Rattle.prp.specs.Prp.{trailer_of, end_at, network_of}
use Rattle.prp.proofs.Trailers.{wears-is}
use Rattle.prp.proofs.Turns.{from-none, from-refused, from-small, from-done}
use Rattle.prp.proofs.from_at.Goals as goal

pub returns-then-not-has_trailer : goal.returns-then-not-has_trailer
returns-then-not-has_trailer g c =
    let p = from-refused _ _ c.args.out.now _ (from-none (trailer_of c.args.kind) c.args.frame.now (omega arith) (omega arith) c.requires.bare (sym c.has_trailer.ensures ∙ c.if-not-has_trailer.true)) in
    record { result_value = p.0; out_after = p.1 }

pub returns-then-out-length : goal.returns-then-out-length
returns-then-out-length g c =
    let p = from-small (trailer_of c.args.kind) c.args.frame.now c.args.out.now (omega arith) (omega arith) c.requires.bare (sym c.has_trailer.ensures ∙ c.if-not-has_trailer.false) (omega arith) in
    record { result_value = p.0; out_after = p.1 }

pub overflow_sub-network : goal.overflow_sub-network
overflow_sub-network g c =
    let f = c.args.frame.now in
    let k = trailer_of c.args.kind in
    let l = wears-is k f (sym c.has_trailer.ensures ∙ c.if-not-has_trailer.false) in
    let w : c.from_be_bytes-both.result ≡ word f (end_at k f + 2) = grind arith in
    omega (arith, l.least)

pub returns : goal.returns
unfolding network_of
returns g c =
    let f = c.args.frame.now in
    let k = trailer_of c.args.kind in
    let w : c.from_be_bytes-both.result ≡ word f (end_at k f + 2) = grind arith in
    let p =
    from-done k f c.args.out.now (omega arith) (omega arith) c.requires.bare (sym c.has_trailer.ensures ∙ c.if-not-has_trailer.false)
    c.requires.there c.requires.here (ap (λ x. x / 4096 - 10) w) (c.from_be_bytes-number.ensures ∙ ap (word f) c.requires.there) refl c.if-out-length.false
    c.write_with.ensures in
    record { result_value = p.0; out_after = p.1 }
