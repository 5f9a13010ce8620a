-- The example of document 01, and the file with every kind, by computation. Assumes nothing.
use mathlib.Core.Path.{refl}
use Rattle.record.specs.Words.{yes}
use Rattle.frame.specs.Frame.{group_source, has_vlan, vlan_of, type_at, is_tagged, head_short, tag_short, header_of, rank_of, read_of, cut_at}
use Rattle.stream.specs.History.{value, words_of, bit_of, same, is_empty, bit, within, set_bit, push, pushes, leaving, advance}
use Rattle.stream.specs.Record.{is_fresh, settled, placed, linked, shaped, lawful, damaged}
use Rattle.stream.specs.Decisions.{signed, difference, vector_case, match_case, case_of, state_after, out_of_order, losses, tally, counts_after, verdict, decided, reset, expires, ticked}
use Rattle.calls.specs.Table.{search, some_slot, has_key, of_links, hears, is_free, count}
use Rattle.calls.specs.Calls.{admitted, arrival_at, arrival, in_use, open-call, checked, act, after, answer}
use Rattle.event_file.specs.Text.{digits_of, decimal_of}
use Rattle.event_file.specs.Records.{records_in, records_of, event_of, asked_by, asked}
use Rattle.event_file.specs.Lines.{answer_of, line_of}
use Rattle.event_file.specs.Files.{entry_for, table_after, lines_from, lines_of}
use Rattle.event_file.specs.Example.{hex, ExampleRuns}
use Rattle.event_file.specs.EveryKind.{EveryKind, LinkKinds}

unfoldable computing : Unit {0}
unfolding yes group_source has_vlan vlan_of type_at is_tagged head_short tag_short header_of rank_of read_of cut_at value words_of bit_of same is_empty bit within set_bit push pushes leaving advance is_fresh settled lawful damaged placed linked shaped signed difference vector_case match_case case_of state_after out_of_order losses tally counts_after verdict decided reset expires ticked search some_slot has_key of_links hears is_free count admitted arrival_at arrival in_use open-call checked act after answer digits_of decimal_of records_in records_of event_of asked_by asked answer_of line_of entry_for table_after lines_from lines_of hex
computing = tt

pub example-runs : ExampleRuns
unfolding computing
example-runs = refl

pub every-kind : EveryKind
unfolding computing
every-kind = refl

pub link-kinds : LinkKinds
unfolding computing
link-kinds = refl
