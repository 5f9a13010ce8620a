-- One name for all that a run with numbers computes with: to unfold it is to unfold them. Assumes nothing.
use Rattle.record.specs.Words.{yes}
use Rattle.frame.specs.Frame.{group_source, has_vlan, vlan_of, type_at, is_tagged, head_short, tag_short, header_of, rank_of, read_of, cut_at}
use Rattle.stream.specs.History.{value, words_of, bit_of, same, is_empty, bit, within, set_bit, push, pushes, leaving, advance}
use Rattle.stream.specs.Record.{is_fresh, settled, placed, linked, shaped, lawful, damaged}
use Rattle.stream.specs.Decisions.{signed, difference, vector_case, match_case, case_of, state_after, out_of_order, losses, tally, counts_after, verdict, decided, reset, expires, ticked}
use Rattle.calls.specs.Table.{search, some_slot, has_key, of_links, hears, is_free, count}
use Rattle.calls.specs.Calls.{admitted, arrival_at, arrival, in_use, open-call, checked, act, after, answer, output}
use Rattle.demands.specs.Receiver.{the_receiver, run}
use Rattle.demands.specs.Seen.{answered, seen_of, log, numbers, verdicts, ticks, every}
use Rattle.demands.specs.Unlimited.{elem, highest, apart, judged, remembered, unlimited, near, all_near}
use Rattle.demands.specs.Examples.{address, frame, from, odd, stream, start, gap, later, indices, alone, silence, two}

unfoldable pub computing : Unit {0}
unfolding yes group_source has_vlan vlan_of type_at is_tagged head_short tag_short header_of rank_of read_of cut_at value words_of bit_of same is_empty bit within set_bit push pushes leaving advance is_fresh settled placed linked shaped lawful damaged signed difference vector_case match_case case_of state_after out_of_order losses tally counts_after verdict decided reset expires ticked search some_slot has_key of_links hears is_free count admitted arrival_at arrival in_use open-call checked act after answer output the_receiver run answered seen_of log numbers verdicts ticks every elem highest apart judged remembered unlimited near all_near address frame from odd stream start gap later indices alone silence two
computing = tt
