-- Document 01, "Decisions": a tick of a whole table. Assumes nothing.
use Rattle.std.specs.Prelude.{map}
use Rattle.record.specs.declared.Stream.{Stream}
use Rattle.stream.specs.Record.{damaged}
use Rattle.stream.specs.Decisions.{counted, expires, ticked}
use Rattle.calls.specs.Table.{Table, count}
use Rattle.calls.specs.declared.Sums.{Sums}
use Rattle.calls.specs.declared.Visited.{Visited}

-- the table after it: every record has its tick
unfoldable pub ticked_all : Table → Table
ticked_all t = map ticked t

-- "how many streams it reset and how many records in use are damaged"
unfoldable pub sums : Table → Sums
sums t = record { resets = count expires t; damaged = count damaged t }

-- The same record by record: the sums of no record, and the tick of one record after those that c counts.
abbrev pub no_sums : Sums
no_sums = record { resets = 0; damaged = 0 }

unfoldable pub visited : Sums → Stream → Visited
visited c s = record {
  stream = ticked s;
  sums = record { resets = counted (expires s) c.resets; damaged = counted (damaged s) c.damaged };
}
