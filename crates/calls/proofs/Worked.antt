-- The worked example, the premises of the laws and the cases of order 1, by computation. Assumes nothing.
use Prim.Native.Nat.{ℕ, zero, suc}
use mathlib.Core.Path.{◌≡◌, refl}
use lib.ListN.{get_or, replicate}
use Rattle.record.specs.Words.{yes}
use Rattle.frame.specs.Frame.{group_source, has_vlan, vlan_of, type_at, is_tagged, head_short, tag_short, header_of, read_of, cut_at, rank_of}
use Rattle.stream.specs.History.{value, bit_of, bit, within, same, is_empty}
use Rattle.stream.specs.Record.{is_fresh, settled, placed, linked, shaped, lawful, damaged}
use Rattle.stream.specs.Decisions.{signed, difference, vector_case, case_of, state_after, out_of_order, losses, tally, counts_after, verdict, decided, reset, expires, ticked}
use Rattle.calls.specs.Table.{blank, search, some_slot, has_key, hears, of_links, is_free, count}
use Rattle.calls.specs.Calls.{admitted, arrival_at, arrival, in_use, open-call, checked, act, after, answer}
use Rattle.calls.specs.Laws.{for_slot}
use Rattle.calls.specs.Example.{answers_of, WorkedExample, FreeMet, FilledMet, GroupCases}
use Rattle.calls.proofs.Sound.{blank-sound}

pub worked-example : WorkedExample
unfolding answers_of act checked open-call admitted arrival arrival_at answer after search some_slot has_key hears of_links is_free count yes group_source has_vlan vlan_of type_at is_tagged head_short tag_short header_of rank_of read_of cut_at value bit_of bit within same is_empty is_fresh settled placed linked shaped lawful damaged signed difference vector_case case_of state_after out_of_order losses tally counts_after verdict decided reset expires ticked
worked-example = refl

still-blank : (n j : ℕ) → get_or (replicate n blank) j blank ≡ blank
still-blank zero j = refl
still-blank (suc n) zero = refl
still-blank (suc n) (suc j) = still-blank n j

pub free-met : FreeMet
unfolding act checked open-call search some_slot has_key hears of_links is_free yes has_vlan vlan_of settled for_slot
free-met = (λ j. rw (still-blank 8 j) blank-sound, refl, refl, refl, refl)

pub filled-met : FilledMet
unfolding act checked open-call admitted arrival arrival_at in_use answer after search some_slot has_key hears of_links is_free yes group_source has_vlan vlan_of type_at is_tagged head_short tag_short header_of rank_of read_of cut_at same is_empty is_fresh settled placed linked shaped lawful
filled-met = (refl, refl, refl, refl, refl, refl)

pub group-cases : GroupCases
unfolding answers_of act checked open-call admitted arrival arrival_at answer after search some_slot has_key hears of_links is_free yes group_source has_vlan vlan_of type_at is_tagged head_short tag_short header_of rank_of read_of cut_at same is_empty is_fresh settled placed linked shaped lawful case_of verdict
group-cases = (refl, refl, refl, refl, refl, refl)
