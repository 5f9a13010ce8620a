-- Each line of `specs/Edges`, by the law that it is named after. Assumes nothing.
use Prim.Native.Nat.{ℕ, zero, suc, ◌≤◌, ◌<◌}
use mathlib.Core.Path.{◌≡◌, refl, sym}
use mathlib.Core.Logic.{◌⊎◌, inl, inr}
use mathlib.Core.Bool.{Bool, true, false, false≢true, ◌&&◌}
use mathlib.Core.List.{List, [], ◌∷◌, ◌++◌, flat_map}
use native.Mathlib.Omega.{arith}
use lib.Dec.{ltb, lit≤, lit<}
use lib.ListN.{replicate}
use borrow.Author.Tests.{ltb-true, ne_eqb}
use Rattle.frame.specs.Bytes.{Bytes, overlay}
use Rattle.frame.specs.Frame.{unranked, tag_at, put_at, place_of, write_of}
use Rattle.frame.specs.TagCalls.{take_from, take_tag, write_into, write_tag}
use Rattle.frame.proofs.PutThenTake.{write-then-take}
use Rattle.frame.proofs.TakeThenPut.{take-then-put, former-tag, former-vlan, former-vlan-tag, former-vlan-short}
use Rattle.stream.specs.Record.{damaged}
use Rattle.stream.proofs.Changes.{anchor-stays}
use Rattle.calls.specs.Table.{blank, at}
use Rattle.calls.specs.Calls.{act}
use Rattle.calls.specs.Laws.{for_slot}
use Rattle.calls.proofs.Kept.{others-stay}
use Rattle.calls.proofs.Sound.{none-damaged}
use Rattle.calls.proofs.Halves.{halves-fit}
use Rattle.calls.proofs.Alike.{take-refuses-frame, take-refuses-alike, take-writes-alike, group-reaches-none, group-refused}
use Rattle.batch.specs.Batch.{runs_past, frames_in, adds_for, ends, turns_in, comes_to, reached, table_after, packed, before, answers_of, bundle, batch_of}
use Rattle.batch.proofs.One.{batch-of-one}
use Rattle.batch.proofs.Eights.{eight-ends}
use Rattle.batch.proofs.Splitting.{splitting}
use Rattle.batch.proofs.Turns.{thirty_two}
use Rattle.demands.specs.Steps.{the_machine, table_of, ran_steps}
use Rattle.demands.specs.Examples.{frame, from}
use Rattle.demands.specs.StepExamples.{cut, gap_steps, wrap_frames, wrap, before_cut, after_gap}
use Rattle.demands.proofs.Computing.{computing}
use Rattle.sender.specs.Sender.{send_into, send_of}
use Rattle.sender.proofs.Laws.{send-is-two-writes}
use Rattle.event_file.specs.Pieces.{all_of}
use Rattle.event_file.proofs.Pieces.{any-pieces}
use Rattle.prp.specs.Prp.{first, of2012, width_of, trailer_bytes, same, lan_of, network_of, is_lan, after_type, wears, body_of, from_of, trailed, to_as_read, to_of, turn_into, from_prp, to_prp}
use Rattle.prp.specs.Example.{head, head_vlan, payload, tag, new1, old0}
use Rattle.prp.proofs.FromThenTo.{from-then-to, from-then-to-calls, not-both}
use Rattle.prp.proofs.ToThenFrom.{to-then-from}
use Rattle.held.specs.Cases.{row_before, holed}
use Rattle.held.specs.Edges.{vlan_frame, in_vlan, later_vlan, FrameEdges, three, bare_of2, grouped, CallEdges, BatchEdges}

-- A list of bytes is known by its elements.
unfoldable small : List ℕ → Bool
small [] = true
small (x ∷ xs) = ltb x 256 && small xs

both : (a b : Bool) → a && b ≡ true → (a ≡ true) × (b ≡ true)
both true b e = (refl, e)
both false b e = absurd (false≢true e)

bytes_of : (f : List ℕ) → small f ≡ true → Bytes f
unfolding small
bytes_of [] e i = lit< tt
bytes_of (x ∷ xs) e zero = ltb-true x 256 (both (ltb x 256) (small xs) e).0
bytes_of (x ∷ xs) e (suc i) = bytes_of xs (both (ltb x 256) (small xs) e).1 i

unfoldable reading : Unit {0}
unfolding computing overlay place_of put_at tag_at write_of take_from take_tag write_into write_tag vlan_frame in_vlan later_vlan small head head_vlan payload tag new1 old0 width_of trailer_bytes same lan_of network_of is_lan after_type wears body_of from_of trailed to_as_read to_of turn_into from_prp to_prp
reading = tt

pub frame-edges : FrameEdges
unfolding reading send_into send_of all_of
frame-edges = record {
  write-then-take = write-then-take vlan_frame 65535 (replicate 30 9) (replicate 20 9) 25 (lit≤ tt) refl (lit≤ tt);
  take-then-put = (take-then-put (in_vlan 0 0x8100) _ (bytes_of (in_vlan 0 0x8100) refl) refl).1 (refl, refl, (λ e. let z : ◌≡◌ {A = ℕ} 0x8100 0xF1C1 = e in omega arith), (λ e. absurd (false≢true (sym e))));
  not-put = λ h. (let z : ◌≡◌ {A = ℕ} 1 0 = ((take-then-put (in_vlan 1 0x0800) _ (bytes_of (in_vlan 1 0x0800) refl) refl).0 h).1 in omega arith);
  former-tag = former-tag (in_vlan 1 0xF1C1) _ refl refl;
  former-vlan = former-vlan (later_vlan (0 ∷ 5 ∷ 8 ∷ 0 ∷ [])) refl _ refl refl refl (lit≤ tt) (λ e. let z : ◌≡◌ {A = ℕ} 0x0800 0xF1C1 = e in omega arith);
  former-vlan-tag = former-vlan-tag (later_vlan (0 ∷ 5 ∷ 0xF1 ∷ 0xC1 ∷ [])) _ refl refl refl (lit≤ tt) refl;
  former-vlan-short = former-vlan-short (later_vlan (0 ∷ 5 ∷ 8 ∷ [])) _ refl refl refl (lit≤ tt);
  from-then-to = from-then-to of2012 (head_vlan ++ payload ++ new1) _ (bytes_of (head_vlan ++ payload ++ new1) refl) refl;
  from-then-to-calls = from-then-to-calls first (head_vlan ++ payload ++ old0) (replicate 30 7) (replicate 25 7) _ (bytes_of (head_vlan ++ payload ++ old0) refl) refl (lit≤ tt);
  to-then-from = (to-then-from first 0 (head_vlan ++ tag ++ payload) _ (bytes_of (head_vlan ++ tag ++ payload) refl) refl).1 (refl, (λ e. let z : ◌≡◌ {A = ℕ} 0x0800 0xF1C1 = e in omega arith), (λ e f. let z : ◌≡◌ {A = ℕ} 0x0800 0x8100 = f in omega arith), lit≤ tt);
  send-is-two-writes = send-is-two-writes (record { next = 65535 }) vlan_frame (replicate 25 7) (replicate 30 8) _ refl;
  any-pieces = any-pieces (0 ∷ []) ((1 ∷ 5 ∷ 0 ∷ []) ∷ [] ∷ (2 ∷ 2 ∷ []) ∷ (3 ∷ 0 ∷ []) ∷ []);
  not-both = λ t e. not-both (head_vlan ++ payload ++ new1) t _ e refl;
}

-- ---- calls

unfoldable calling : Unit {0}
unfolding reading three bare_of2 grouped for_slot
calling = tt

-- The three records are sound, and so is what lies beyond them.
sound : (j : ℕ) → damaged (at three j) ≡ false
unfolding calling
sound zero = refl
sound (suc zero) = refl
sound (suc (suc zero)) = refl
sound (suc (suc (suc j))) = refl

-- The arrival is for slot 1 alone.
not-for : (j : ℕ) → (j ≡ 0) ⊎ (2 ≤ j) → for_slot (act three (from 0 2 7)) j ≡ false
unfolding calling
not-for j (inl e) = ne_eqb 1 j (λ z. omega arith)
not-for j (inr e) = ne_eqb 1 j (λ z. omega arith)

pub call-edges : CallEdges
unfolding calling
call-edges = record {
  others-stay = λ j e. others-stay three (from 0 2 7) j (not-for j e);
  none-damaged = λ j. none-damaged three (from 0 2 7) sound j;
  halves-fit = halves-fit three 1 bare_of2 65535 (frame 2 65535) (replicate 15 9) 1 (lit≤ tt) (lit≤ tt) (lit≤ tt) refl refl refl refl refl (lit≤ tt);
  take-room = (take-refuses-alike three 1 (frame 2 7) (replicate 13 9) 8 (lit≤ tt) (lit≤ tt) refl refl refl).0 refl;
  take-untagged = (take-refuses-frame (replicate 64 blank) 1 bare_of2 [] 5 (lit≤ tt) (lit≤ tt) refl).0 refl;
  take-writes = take-writes-alike three 1 (frame 2 7) (replicate 15 9) 1 7 unranked bare_of2 refl;
  group-reaches-none = group-reaches-none (replicate 65 blank) 2 grouped [] refl;
  group-refused = group-refused three 1 grouped [] _ (lit≤ tt) (lit≤ tt) refl refl;
  anchor-stays = anchor-stays (row_before 1 holed) 65000 1 545 refl refl refl;
}

pub batch-edges : BatchEdges
unfolding calling flat_map runs_past frames_in adds_for ends turns_in comes_to reached table_after packed before answers_of bundle batch_of the_machine table_of ran_steps cut gap_steps wrap_frames wrap
batch-edges = record {
  of_one = batch-of-one three 1 (frame 2 7) (9 ∷ []) (replicate 17 9) (lit≤ tt) (lit≤ tt) (lit≤ tt);
  eight-ends = let e = eight-ends before_cut cut 2 refl in (e.1, e.2);
  splitting = splitting after_gap wrap 7 3 10 refl refl refl;
  thirty_two = thirty_two (replicate 65 blank) wrap;
}
