-- `stream::history::places_up` meets its contract. Assumes nothing.
use Rattle.std.proofs.Common.{◌-◌, ◌*◌, ◌/◌, ◌^◌, ◌<◌, length, get_or, set, replicate, sym, ap, ◌∙◌, arith, length-set, get_or-set_other, get_or-set_same, w64, Fits, rules, below_more}
use Rattle.stream.specs.History.{value}
use Rattle.stream.proofs.Words.{words-at}
use Rattle.stream.proofs.Shifts.{zeros-at, cut-words}
use Rattle.stream.proofs.AnyWords.{any-words, moved-below, moved-first, moved-next}
use Rattle.stream.proofs.history.places_up.Goals as goal

pub loop-i-init : goal.loop-i-init
loop-i-init c =
    let a = c.args in (
      length-set (replicate 8 0) (a.shift.up / 64) _,
      (
        below_more _ _
            (λ k p. get_or-set_other (replicate 8 0) (a.shift.up / 64) k _ 0 (λ e. omega arith) ∙ zeros-at 8 k ∙ sym (moved-below a.h a.shift.up k p))
            (get_or-set_same (replicate 8 0) (a.shift.up / 64) _ 0 (omega arith) ∙ sym (moved-first a.h a.shift.up)),
        λ k p. get_or-set_other (replicate 8 0) (a.shift.up / 64) k _ 0 (λ e. omega arith) ∙ zeros-at 8 k,
      ),
    )

pub loop-i-preserved : goal.loop-i-preserved
loop-i-preserved c =
    let a = c.args in
    let l = c.loop-i in
    let here : l.i < length l.out = omega arith in (
      search rules,
      (
        below_more _ _
            (λ k p. get_or-set_other l.out l.i k _ 0 (λ e. omega arith) ∙ l.invariant.1.0 k p)
            (get_or-set_same l.out l.i _ 0 here ∙ c.joined.ensures ∙ sym (moved-next a.h a.shift.up l.i (omega arith))),
        λ k p. get_or-set_other l.out l.i k _ 0 (λ e. omega arith) ∙ l.invariant.1.1 k (omega arith),
      ),
    )

pub returns : goal.returns
returns c =
    let a = c.args in
    let l = c.loop-i in
    let o = any-words 8 a.h (record { many = search rules; each = λ i. let f : Fits w64 (get_or a.h i 0) = search rules in f.fits }) in
    ap (set l.out ((a.shift.window - 1) / 64)) c.cut.ensures
    ∙ cut-words l.out (value a.h * 2 ^ a.shift.up) a.shift.window 8 l.invariant.0 (omega arith) (omega arith)
    (λ k p. l.invariant.1.0 k (omega arith) ∙ sym (o.shift a.shift.up k (omega arith)) ∙ words-at 8 (value a.h * 2 ^ a.shift.up) k (omega arith)) (λ k p. l.invariant.1.1 k (omega arith))
