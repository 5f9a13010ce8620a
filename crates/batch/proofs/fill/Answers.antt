-- `batch::fill` meets its contract: 1 and 18 are asked of the table; then each turn seeks a frame, lets it arrive with the end of the
-- output, and notes its answer, until there is none.
use Rattle.std.proofs.Common.{set, refl, sym, ap, ◌∙◌, arith}
use Rattle.refusal.specs.Checks.{said}
use Rattle.refusal.proofs.Checks.{passed-on}
use Rattle.index.proofs.Arrivals.{arrive-keeps}
use Rattle.receiver.proofs.Closing.{unfit-none}
use Rattle.batch.proofs.Filling.{whole-begun, framed, begun-unfit, begun-well, refused-fills, done-fills}
use Rattle.batch.proofs.Turned.{adds_fit, adds_inside, one-frame-more, whole-still, fewer-left}
use Rattle.batch.proofs.fill.Goals as goal

pub returns-in_err-unfit : goal.returns-in_err-unfit
returns-in_err-unfit c =
    let a = c.args in
    refused-fills a.index.now a.t.now _ _ _ _ (begun-unfit a.index.now a.t.now _ c.unfit.ensures _ c.in_err-unfit.was a.network a.count a.frames.now)
    (passed-on _ c.from_residual.ensures.1)

pub returns-in_err-c : goal.returns-in_err-c
returns-in_err-c c =
    let a = c.args in
    refused-fills a.index.now a.t.now _ _ _ _
    (begun-well a.index.now a.t.now _ c.unfit.ensures c.in_ok-unfit.was a.network a.count a.frames.now ∙ sym c.begin.ensures ∙ ap said c.in_err-c.was)
    (passed-on _ c.from_residual-in_err-c.ensures.1)

pub loop-next-init : goal.loop-next-init
loop-next-init c =
    let a = c.args in
    record {
      whole = whole-begun 0 a.network a.count a.frames.now _ (sym c.begin.ensures ∙ ap said c.in_ok-c.was);
      same = refl;
      agree = unfit-none a.index.now a.t.now _ c.unfit.ensures c.in_ok-unfit.was;
    }

pub slice_bounds-arrive_by-count : goal.slice_bounds-arrive_by-count
slice_bounds-arrive_by-count c = let n = c.in-Some.next in (framed _ _ _ n.start n.end n.from c.loop-next.invariant.whole (sym c.seek.ensures ∙ c.in-Some.is)).start

pub slice_bounds-arrive_by-start : goal.slice_bounds-arrive_by-start
slice_bounds-arrive_by-start c = let n = c.in-Some.next in (framed _ _ _ n.start n.end n.from c.loop-next.invariant.whole (sym c.seek.ensures ∙ c.in-Some.is)).start

pub slice_bounds-arrive_by-end : goal.slice_bounds-arrive_by-end
slice_bounds-arrive_by-end c = let n = c.in-Some.next in (framed _ _ _ n.start n.end n.from c.loop-next.invariant.whole (sym c.seek.ensures ∙ c.in-Some.is)).end

pub slice_bounds-arrive_by-count-in-Some : goal.slice_bounds-arrive_by-count-in-Some
slice_bounds-arrive_by-count-in-Some c = let n = c.in-Some.next in (framed _ _ _ n.start n.end n.from c.loop-next.invariant.whole (sym c.seek.ensures ∙ c.in-Some.is)).from

pub slice_bounds-arrive_by-start-in-Some : goal.slice_bounds-arrive_by-start-in-Some
slice_bounds-arrive_by-start-in-Some c = let n = c.in-Some.next in (framed _ _ _ n.start n.end n.from c.loop-next.invariant.whole (sym c.seek.ensures ∙ c.in-Some.is)).from

pub put_length-requires : goal.put_length-requires
put_length-requires c =
    let n = c.in-Some.next in
    let w = c.loop-next.invariant.whole in
    let sought = sym c.seek.ensures ∙ c.in-Some.is in
    adds_inside _ _ _ _ _ _ _ c.loop-next.answers n.start n.end n.from _ _ w sought (framed _ _ _ n.start n.end n.from w sought).from c.arrive_by-answer.ensures c.arrive_by-answer.auto.out refl

pub bounds-answers-c : goal.bounds-answers-c
bounds-answers-c c = let n = c.in-Some.next in (framed _ _ _ n.start n.end n.from c.loop-next.invariant.whole (sym c.seek.ensures ∙ c.in-Some.is)).few

pub advance-c-requires : goal.advance-c-requires
advance-c-requires c =
    let n = c.in-Some.next in
    let w = c.loop-next.invariant.whole in
    let sought = sym c.seek.ensures ∙ c.in-Some.is in
    let f = framed _ _ _ n.start n.end n.from w sought in
    let fits = adds_fit _ _ _ _ _ _ _ c.loop-next.answers n.start n.end n.from _ _ w sought f.from c.arrive_by-answer.ensures c.arrive_by-answer.auto.out refl in
    (omega (arith, fits), (f.some, f.few))

pub loop-next-smaller : goal.loop-next-smaller
loop-next-smaller c = let n = c.in-Some.next in fewer-left _ _ _ n.start n.end n.from _ _ (sym c.seek.ensures ∙ c.in-Some.is) c.advance-c.ensures

pub loop-next-preserved : goal.loop-next-preserved
loop-next-preserved c =
    let n = c.in-Some.next in
    let w = c.loop-next.invariant.whole in
    let sought = sym c.seek.ensures ∙ c.in-Some.is in
    let f = framed _ _ _ n.start n.end n.from w sought in
    let met = c.arrive_by-answer.ensures in
    let long = c.arrive_by-answer.auto.out in
    let noted = ap (set c.loop-next.answers c.loop-next.c.frames) c.into.ensures in
    let agree = c.loop-next.invariant.agree in
    record {
      whole = whole-still _ _ _ _ _ _ _ _ n.start n.end n.from _ _ w sought f.from met long refl _ _ _ c.put_length.ensures noted c.advance-c.ensures c.put_length.auto.out;
      same = one-frame-more _ _ _ _ _ _ _ _ n.start n.end n.from _ _ w sought f.from met long refl _ _ _ c.put_length.ensures noted c.advance-c.ensures ∙ c.loop-next.invariant.same;
      agree = (omega (arith, agree.0, c.arrive_by-answer.auto.t), arrive-keeps _ _ _ _ _ agree.0 agree.1 met);
    }

pub returns : goal.returns
returns c =
    let a = c.args in
    done-fills a.index.now a.t.now _ _ c.in_ok-c.c _
    (begun-well a.index.now a.t.now _ c.unfit.ensures c.in_ok-unfit.was a.network a.count a.frames.now ∙ sym c.begin.ensures ∙ ap said c.in_ok-c.was)
    c.loop-next.invariant.same (sym c.seek.ensures ∙ c.in_default.is)
