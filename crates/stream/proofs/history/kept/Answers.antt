-- `stream::history::kept` meets its contract. Assumes nothing.
use Rattle.std.proofs.Common.{sym, arith}
use Rattle.stream.proofs.Shifts.{kept_whole}
use Rattle.stream.proofs.history.kept.Goals as goal

pub returns-then-w-i : goal.returns-then-w-i
returns-then-w-i c =
    let a = c.args in
    sym (kept_whole a.x a.w a.i c.ranges.x.fits (omega arith))
