-- Document 01, "Decisions": decisions in a row on one record, as the benchmark has them made. Assumes nothing.
use Rattle.std.specs.Prelude.{ℕ, zero, suc, ◌+◌, ◌%◌}
use Rattle.record.specs.declared.Stream.{Stream}
use Rattle.stream.specs.Steps.{weighed, record_after}

-- The record after an arrival.
abbrev pub after : Stream → (number network : ℕ) → Stream
after s number network = record_after s network (weighed s number)

-- The record after so many arrivals, each with a number that is `step` beyond the last one's, modulo 65536.
unfoldable pub in_row : (times : ℕ) → Stream → (number step network : ℕ) → Stream
in_row zero s number step network = s
in_row (suc times) s number step network = in_row times (after s number network) ((number + step) % 65536) step network
