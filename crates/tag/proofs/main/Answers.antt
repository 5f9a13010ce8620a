-- `tag::main` is safe: what the writer answers fits into the output. Assumes nothing.
use Rattle.std.proofs.Common.{◌≤◌, sym, ap, ◌∙◌, arith, length-take}
use Rattle.frame.specs.TagCalls.{said_written}
use Rattle.frame.proofs.Writes.{written-fits}
use Rattle.tag.proofs.main.Goals as goal

pub slice_bounds-out-end : goal.slice_bounds-out-end
slice_bounds-out-end c = omega (arith, written-fits _ 7 _ (sym c.write_tag.ensures.result_value ∙ ap said_written c.in-Ok-write_tag.is))

pub slice_bounds-write_all-end : goal.slice_bounds-write_all-end
slice_bounds-write_all-end c =
    let fits : c.in-Ok-write_tag.length ≤ 2000 = written-fits _ 7 _ (sym c.write_tag.ensures.result_value ∙ ap said_written c.in-Ok-write_tag.is) in
    simp length-take (omega arith)
