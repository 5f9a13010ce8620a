-- Document 01, "Event file and the program `events`": what a writer does to the buffer that it was lent. Assumes nothing.
use Rattle.std.specs.Prelude.{ℕ, ◌+◌, ◌≤◌, ◌≡◌, List, length}
use Rattle.event_file.specs.Buffers.{Put}
use Rattle.event_file.specs.declared.writer.Writer.{Writer}

-- These bytes, no more than `most`, are put at the writer's place, which is then behind them, if there is room for them.
-- The writer keeps its buffer.
pub record Adds (most : ℕ) (new : List ℕ) (w v : Writer) : Type 0 where
  pub short : length new ≤ most
  pub put : w.at + length new ≤ length w.buf.now → Put new w.at w.buf.now v.buf.now v.at
  pub lent : v.buf.ghost_name ≡ w.buf.ghost_name
