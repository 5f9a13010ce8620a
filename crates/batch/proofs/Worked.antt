-- The batches of the example, by computation. Assumes nothing.
use mathlib.Core.Path.{refl}
use Rattle.record.specs.Words.{yes}
use Rattle.frame.specs.Bytes.{overlay}
use Rattle.frame.specs.Frame.{group_source, has_vlan, vlan_of, type_at, is_tagged, head_short, tag_short, header_of, read_of, cut_at, rank_of}
use Rattle.stream.specs.History.{value, bit_of, bit, within, same, is_empty}
use Rattle.stream.specs.Record.{is_fresh, settled, placed, linked, shaped, lawful}
use Rattle.stream.specs.Decisions.{signed, difference, vector_case, case_of, state_after, out_of_order, losses, tally, counts_after, verdict, decided}
use Rattle.calls.specs.Table.{search, some_slot, has_key, of_links, hears, is_free}
use Rattle.calls.specs.Calls.{admitted, arrival_at, arrival, open-call, checked, act, after, answer, output}
use Rattle.batch.specs.Batch.{runs_past, frames_in, adds_for, ends, turns_in, comes_to, table_after, packed, before, answers_of, bundle, batch_of}
use Rattle.batch.specs.Laws.{input_behind}
use Rattle.batch.specs.Example.{FourReached, EndsWithRoom, NoRoom, SplittingMet, CountCases}

pub four-reached : FourReached
unfolding batch_of bundle comes_to runs_past frames_in turns_in adds_for ends table_after packed before answers_of overlay act checked open-call admitted arrival arrival_at answer after output search some_slot has_key of_links hears is_free yes group_source has_vlan vlan_of type_at is_tagged head_short tag_short header_of rank_of read_of cut_at value bit_of bit within same is_empty is_fresh settled placed linked shaped lawful signed difference vector_case case_of state_after out_of_order losses tally counts_after verdict decided
four-reached = (refl, refl, refl)

pub ends-with-room : EndsWithRoom
unfolding batch_of bundle comes_to runs_past frames_in turns_in adds_for ends table_after packed before answers_of overlay act checked open-call admitted arrival arrival_at answer after output search some_slot has_key of_links hears is_free yes group_source has_vlan vlan_of type_at is_tagged head_short tag_short header_of rank_of read_of cut_at value bit_of bit within same is_empty is_fresh settled placed linked shaped lawful signed difference vector_case case_of state_after out_of_order losses tally counts_after verdict decided
ends-with-room = (refl, refl, refl)

pub no_room : NoRoom
unfolding batch_of bundle comes_to runs_past frames_in turns_in adds_for ends table_after packed before answers_of overlay act checked open-call admitted arrival arrival_at answer after output search some_slot has_key of_links hears is_free yes group_source has_vlan vlan_of type_at is_tagged head_short tag_short header_of rank_of read_of cut_at value bit_of bit within same is_empty is_fresh settled placed linked shaped lawful
no_room = (refl, refl, refl, refl)

pub splitting-met : SplittingMet
unfolding input_behind batch_of bundle comes_to runs_past frames_in turns_in adds_for ends table_after packed before answers_of overlay act checked open-call admitted arrival arrival_at answer after output search some_slot has_key of_links hears is_free yes group_source has_vlan vlan_of type_at is_tagged head_short tag_short header_of rank_of read_of cut_at value bit_of bit within same is_empty is_fresh settled placed linked shaped lawful signed difference vector_case case_of state_after out_of_order losses tally counts_after verdict decided
splitting-met = (refl, refl, refl)

pub count-cases : CountCases
unfolding batch_of bundle comes_to runs_past frames_in turns_in before act checked open-call after search some_slot has_key of_links hears is_free yes has_vlan type_at cut_at settled
count-cases = (refl, refl, refl, refl, refl)
