-- `timing_row::timing_row` meets its contract. Assumes nothing.
use Rattle.std.proofs.Common.{◌≡◌, ◌-◌, ◌+◌, ◌%◌, sym, ap, ◌∙◌, arith}
use Rattle.stream.specs.Steps.{record_after}
use Rattle.timing_row.specs.Row.{after, in_row}
use Rattle.timing_row.proofs.Row.{row-none, row_first}
use Rattle.timing_row.proofs.timing_row.Goals as goal

pub loop-preserved : goal.loop-preserved
loop-preserved c =
    let l = c.loop in
    let t : c.next-t.result ≡ after l.t l.n c.args.network = c.next-t.ensures ∙ ap (record_after l.t c.args.network) c.weigh.ensures in
    let less : c.args.times - (l.counter + 1) ≡ c.args.times - l.counter - 1 = omega arith in
    (λ i. in_row (less i) (t i) ((l.n + c.args.step) % 65536) c.args.step c.args.network)
    ∙ (sym (row_first l.t l.n c.args.step c.args.network (c.args.times - l.counter) (omega arith)) ∙ l.invariant)

pub returns : goal.returns
returns c =
    let l = c.loop in
    sym (row-none l.t l.n c.args.step c.args.network (c.args.times - l.counter) (omega arith)) ∙ l.invariant
