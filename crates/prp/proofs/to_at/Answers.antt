-- `prp::to_at` meets its contract: at each return a law says what the call comes to.
use Rattle.std.proofs.Common.{arith, ℕ, ◌≡◌, ◌≤◌, ◌+◌, ◌-◌, refl, sym, ap, ◌∙◌, List, length, length-take, length-drop}
use Rattle.frame.specs.Frame.{type_at, cut_at, untagged}
use Rattle.frame.proofs.Heads.{type-least, tag_of}
use Rattle.prp.specs.Prp.{trailer_of}
use Rattle.prp.proofs.Trailers.{width_is, width-last}
use Rattle.prp.proofs.Turns.{to_turn, to-short, to_is, to-length, to-written, to-refuses, to-small, to-done}
use Rattle.prp.proofs.to_at.Goals as goal

-- where the type field is without the tag
bare-type : (f : List ℕ) {at t : ℕ} → at ≡ type_at f → t ≡ type_at (cut_at f at) → t ≡ type_at (untagged f)
bare-type f h e = e ∙ ap (λ (o : ℕ). type_at (cut_at f o)) h

pub overflow_sub-bare : goal.overflow_sub-bare
overflow_sub-bare g c = let k = tag_of c.args.frame.now _ c.requires.read in omega arith

pub type_without-head-requires-clause-at_in_bounds : goal.type_without-head-requires-clause-at_in_bounds
type_without-head-requires-clause-at_in_bounds g c = let k = tag_of c.args.frame.now _ c.requires.read in omega arith

pub overflow_add-head : goal.overflow_add-head
overflow_add-head g c =
    let t = type-least (untagged c.args.frame.now) in
    omega (arith, bare-type c.args.frame.now c.requires.here c.type_without-head.ensures)

pub returns-then-bare-head : goal.returns-then-bare-head
returns-then-bare-head g c =
    let f = c.args.frame.now in
    let t = bare-type f c.requires.here c.type_without-head.ensures in
    let s = to-short (trailer_of c.args.kind) c.args.network f c.requires.known c.requires.read (omega arith) in
    let p = to-refuses _ _ _ c.args.out.now _ s in
    record { result_value = p.0; out_after = p.1 }

pub returns-then-out-length : goal.returns-then-out-length
returns-then-out-length g c =
    let k = trailer_of c.args.kind in
    let f = c.args.frame.now in
    let t = bare-type f c.requires.here c.type_without-head.ensures in
    let room : type_at (untagged f) + 2 ≤ length f - 6 = omega arith in
    let long = to-length k c.args.network f c.requires.known c.requires.read room in
    let p =
    to-small k c.args.network f c.args.out.now (to_turn k c.args.network c.args.number f)
    (to_is k c.args.network f c.requires.known c.requires.read room) (omega arith) in
    record { result_value = p.0; out_after = p.1 }

pub write_trailer-requires-clause-size_bound : goal.write_trailer-requires-clause-size_bound
write_trailer-requires-clause-size_bound g c = let k = tag_of c.args.frame.now _ c.requires.read in let i = width_is c.args.kind in omega arith

pub write_trailer-requires-clause-kind_in_bounds : goal.write_trailer-requires-clause-kind_in_bounds
write_trailer-requires-clause-kind_in_bounds g c = simp (length-take, length-drop) (omega (arith, width-last (trailer_of c.args.kind)))

pub returns : goal.returns
returns g c =
    let k = trailer_of c.args.kind in
    let f = c.args.frame.now in
    let t = bare-type f c.requires.here c.type_without-head.ensures in
    let room : type_at (untagged f) + 2 ≤ length f - 6 = omega arith in
    let long = to-length k c.args.network f c.requires.known c.requires.read room in
    let w =
    to-written k c.args.network f c.requires.known c.requires.read room c.args.out.now
    (c.requires.here ∙ sym (tag_of f _ c.requires.read).at) refl (omega arith) (omega arith) c.write_trailer.ensures c.write_without.ensures in
    let p =
    to-done k c.args.network f c.args.out.now (to_turn k c.args.network c.args.number f)
    (to_is k c.args.network f c.requires.known c.requires.read room) (omega arith) c.if-out-length.false w in
    record { result_value = p.0; out_after = p.1 }

pub overflow_cast-length : goal.overflow_cast-length
overflow_cast-length g c = let k = tag_of c.args.frame.now _ c.requires.read in let i = width_is c.args.kind in omega arith
