-- Each receiver, machine, tagger and sending side of `specs/ByOne` fails, by the promise that its line names. Assumes nothing.
use Prim.Native.Nat.{ℕ, ◌-◌, ◌^◌}
use mathlib.Core.Path.{◌≡◌, refl, ap}
use mathlib.Core.Bool.{Bool, true, false, false≢true, not, ◌&&◌}
use mathlib.Core.Logic.{◌⊎◌, inl, inr, ⊎_elim}
use mathlib.Core.List.{List, [], ◌∷◌, ◌++◌}
use native.Mathlib.Omega.{arith}
use lib.Dec.{eqb, lit≤}
use lib.IntN.{ℤ, pos}
use lib.ListN.{length, get_or, replicate}
use borrow.Author.Tests.{eq-eqb}
use Rattle.refusal.specs.Checks.{Said, Check, First}
use Rattle.refusal.specs.Checks.Said.{refused, answers}
use Rattle.frame.specs.Bytes.{overlay}
use Rattle.frame.specs.Frame.{number_in, unranked}
use Rattle.frame.specs.declared.Rank.{Rank}
use Rattle.frame.specs.TagCalls.{take_from, take_tag, write_into, write_tag}
use Rattle.frame.specs.Refusals.{take_checks, write_checks}
use Rattle.stream.specs.Decisions.{Verdict, up, duplicate, rogue, link_steps, link_up, link_case}
use Rattle.calls.specs.Table.{Table, blank, at}
use Rattle.calls.specs.Calls.{Answer, arriving, closing, ticking, done, handed_up, link_arrival}
use Rattle.calls.specs.Calls as calls
use Rattle.calls.specs.Refusals.{checks_of}
use Rattle.batch.specs.Batch.{Batch, runs_past, frames_in, adds_for, ends, turns_in, comes_to, reached, table_after, packed, before, answers_of, bundle, batch_of}
use Rattle.batch.specs.Refusals.{batch_checks}
use Rattle.demands.specs.Receiver.{Throughout}
use Rattle.demands.specs.Steps.{batch, EachStep}
use Rattle.demands.specs.Corollaries.{handed_of, distinct, sum_of, sum_once}
use Rattle.demands.specs.Lost.{absent}
use Rattle.demands.specs.Wrong.{by_act, deciding, hands_up_all, duplicate_renews}
use Rattle.demands.specs.Examples.{address, frame, from, alone, silence, two}
use Rattle.demands.proofs.Computing.{computing}
use Rattle.lost_runs.specs.LostRuns.{begin, sent}
use Rattle.missed_runs.specs.MissedRuns.{dead, duplicate_is_rogue, counts_no_loss, says_done, finds_unknown}
use Rattle.sender.specs.Sender.{Sends, sender_at_first}
use Rattle.sender.specs.Refusals.{send_checks}
use Rattle.sender.specs.Runs.{nth}
use Rattle.sender.specs.Wrong.{risen, rises_on_refusal, first_too_soon}
use Rattle.sender.specs.Example.{plain, pair, room0, room1, into, near}
use Rattle.sender.proofs.Computed.{computing as sending}
use Rattle.frame.specs.Link.{last_byte, but_last, link_of}
use Rattle.demands.specs.Demand2.{forward, link_passes}
use Rattle.held.specs.LinkCases.{link, link_frame}
use Rattle.held.specs.ByOne.{spoilt, loses_table, loses_output, writes_nothing, stores_nothing, stores_no_open, stores_no_reset, tells_next, tells_higher, loosens, spoilt_batch, batch_loses_table, batch_loses_output, batch_refuses, frames_lose, take_unknown, take_loses, write_unknown, write_loses, sends_unknown, never_resets, ByOne}

-- ---- what differs

-- A number that no check of a list has is not the first whose condition holds.
unfoldable differs : (n : ℕ) → List Check → Bool
differs n [] = true
differs n (c ∷ cs) = not (eqb n c.number) && differs n cs

none : (n : ℕ) (cs : List Check) → differs n cs ≡ true → First n cs → ⊥
unfolding differs First
none n [] e x = x
none n (c ∷ cs) e (inl p) = let z : eqb n c.number ≡ true = eq-eqb n c.number p.1 in false≢true (rw z at e)
none n (c ∷ cs) e (inr p) = none n cs (second (not (eqb n c.number)) (differs n cs) e) p.1
  where
    second : (a b : Bool) → a && b ≡ true → b ≡ true
    second true b q = q
    second false b q = absurd (false≢true q)

some_bytes : ◌≡◌ {A = List ℕ} [] (9 ∷ []) → ⊥
some_bytes e = let z : ◌≡◌ {A = ℕ} 0 1 = ap length e in omega arith

some-table : [] ≡ blank ∷ [] → ⊥
some-table e = let z : ◌≡◌ {A = ℕ} 0 1 = ap length e in omega arith

up-not-again : up ∷ up ∷ [] ≡ up ∷ duplicate ∷ [] → ⊥
up-not-again e = let z : ◌≡◌ {A = ℕ} 0 1 = cc in omega arith

rogue-not : (v : Verdict) → (rogue ≡ v) → (v ≡ up) ⊎ (v ≡ duplicate) → ⊥
rogue-not v e (inl f) = let z : ◌≡◌ {A = ℕ} 0 1 = cc in omega arith
rogue-not v e (inr f) = let z : ◌≡◌ {A = ℕ} 0 1 = cc in omega arith

done-not-refused : ◌≡◌ {A = Said Answer} (answers done) (refused 1) → ⊥
done-not-refused e = let z : ◌≡◌ {A = ℕ} 0 1 = cc in omega arith

-- ---- runs

-- The stream of the examples in slot 1, begun and fresh; and a table whose slot 1 an open fills.
unfoldable begun : Table
begun = blank ∷ alone 4 3 3

-- a virtual link in slot 1, whose last number was 255
unfoldable linked : Table
linked = blank ∷ link ∷ []

unfoldable idle : Table
idle = blank ∷ begin

unfoldable room : Table
room = begin ++ (blank ∷ [])

unfoldable of : (network : ℕ) (frames out : List ℕ) (count : ℕ) → Batch
of network frames out count = record { network = network; count = count; frames = frames; out = out }

-- demand 1
unfoldable refusing : Unit {0}
unfolding computing Throughout First checks_of EachStep batch_checks take_checks write_checks send_checks take_from take_tag write_into write_tag overlay runs_past frames_in adds_for ends turns_in comes_to reached table_after packed before answers_of bundle batch_of says_done finds_unknown spoilt loses_table loses_output spoilt_batch batch_loses_table batch_loses_output batch_refuses frames_lose take_unknown take_loses write_unknown write_loses differs of
refusing = tt

-- 15 is a batch's own number: its condition does not hold.
by-15 : (h : First 15 (batch_checks [] (of 0 [] [] 0))) → ⊥
unfolding refusing
by-15 h = ⊎_elim (λ x. let z : ◌≡◌ {A = ℕ} 15 1 = x.1 in omega arith) (λ x. ⊎_elim (λ y. let z : ◌≡◌ {A = ℕ} 15 2 = y.1 in omega arith) (λ y. ⊎_elim (λ z. false≢true z.0) (λ z. z.1) y.1) x.1) h

pub by_one : ByOne
unfolding refusing sending nth risen rises_on_refusal first_too_soon sends_unknown never_resets writes_nothing stores_nothing stores_no_open stores_no_reset tells_next tells_higher loosens by_act deciding hands_up_all duplicate_renews duplicate_is_rogue counts_no_loss handed_of distinct sum_of sum_once absent begin sent dead begun idle room linked last_byte but_last link_of link_steps link_up link_case link_arrival forward link_passes
by_one = record {
  number = λ h. none 6 (checks_of [] ticking) refl (((h [] (ticking ∷ [])).0.number 6).0 refl);
  unrefused = λ h. done-not-refused (((h (replicate 65 blank) (ticking ∷ [])).0.number 1).1 (inl (refl, refl)));
  records = λ h. some-table ((h (blank ∷ []) (closing 9 ∷ [])).0.records 12 refl);
  bytes = λ h. some_bytes ((h [] (arriving 2 [] (9 ∷ []) ∷ [])).0.bytes 2 refl);
  batch-number = λ h. by-15 (((h [] (batch (of 0 [] [] 0) ∷ [])).0.number 15).0 refl);
  batch-records = λ h. some-table ((h (blank ∷ []) (batch (of 2 [] [] 0) ∷ [])).0.records 2 refl);
  batch-bytes = λ h. some_bytes ((h [] (batch (of 2 [] (9 ∷ []) 0) ∷ [])).0.bytes 2 refl);
  batch-frames = λ h. some_bytes ((h [] (batch (of 0 (0 ∷ 0 ∷ []) (9 ∷ 9 ∷ 9 ∷ []) 1) ∷ [])).0.frames.0.bytes 4 refl);
  take-number = λ h. none 6 (take_checks [] []) refl (((h.take [] []).number 6).0 refl);
  take-bytes = λ h. some_bytes ((h.take [] (9 ∷ [])).bytes 4 refl);
  write-number = λ h. none 6 (write_checks [] []) refl (((h.write [] 0 []).number 6).0 refl);
  write_bytes = λ h. some_bytes ((h.write [] 0 (9 ∷ [])).bytes 4 refl);
  sent-number = λ h. none 6 (send_checks [] [] []) refl ((h.number sender_at_first [] [] [] 6).0 refl);
  sent-keeps = λ h. let e = ap (λ (r : Sends). number_in r.out0) (h.keeps near plain (room0 20) (room1 19) 8 refl) in omega (arith, e);
  output = λ h. (let z : ◌≡◌ {A = ℕ} 0 2 = ap (λ (l : List ℕ). get_or l 0 0) (h begun (from 0 1 10)).output in omega arith);
  recovered-number = λ h. (let z : ◌≡◌ {A = ℕ} 11 10 = (h begun 0 (frame 1 10) (replicate 14 0) 1 11 unranked (handed_up 14) refl).number in omega arith);
  recovered-rank = λ h. (let z : ◌≡◌ {A = ℕ} 1 0 = ap (λ (x : Rank). x.priority) (h begun 0 (frame 1 10) (replicate 14 0) 1 10 (record { priority = 1; vlantag = 0 }) (handed_up 14) refl).rank in omega arith);
  recovered-verdict = λ h. rogue-not duplicate (h begun 0 (frame 1 9) (replicate 14 0) 1 9 unranked calls.rogue refl).verdict (inr refl);
  recovered-records = λ h. (let z : ◌≡◌ {A = ℕ} 9 10 = ap (λ (t : Table). (at t 1).state.anchor) (h begun 0 (frame 1 10) (replicate 14 0) 1 10 unranked (handed_up 14) refl).records in omega arith);
  link-number = λ h. (let z : ◌≡◌ {A = ℕ} 2 1 = (h linked 0 (link_frame 1 1) (replicate 14 0) 1 2 unranked (handed_up 14) refl).number in omega arith);
  link-rank = λ h. (let z : ◌≡◌ {A = ℕ} 1 0 = ap (λ (x : Rank). x.priority) (h linked 0 (link_frame 1 1) (replicate 14 0) 1 1 (record { priority = 1; vlantag = 0 }) (handed_up 14) refl).rank in omega arith);
  link-verdict = λ h. rogue-not duplicate (h linked 0 (link_frame 1 255) (replicate 14 0) 1 255 unranked calls.rogue refl).verdict (inr refl);
  link-records = λ h. (let z : ◌≡◌ {A = ℕ} 255 1 = ap (λ (t : Table). (at t 1).state.anchor) (h linked 0 (link_frame 1 1) (replicate 14 0) 1 1 unranked (handed_up 14) refl).records in omega arith);
  decides = λ h. up-not-again (h begun 1 (silence 3) (two 7 7) (7 ∷ 7 ∷ []) (record { vector = refl; silent = record { lawful = refl; long = lit≤ tt; calm = refl }; lasts = refl; numbered = refl; near = refl }));
  fresh-decides = λ h. up-not-again (h idle 1 (two 7 7) (7 ∷ 7 ∷ []) refl refl refl (record { lasts = refl; numbered = refl; near = refl }));
  opened-decides = λ h. up-not-again (h room (address 2) 0 4 3 1 (from 0 2 7 ∷ from 1 2 7 ∷ []) (7 ∷ 7 ∷ []) refl (record { lasts = refl; numbered = refl; near = refl }));
  never-twice = λ h. false≢true (h begun 1 (silence 3) (two 7 7) (7 ∷ 7 ∷ []) (record { vector = refl; silent = record { lawful = refl; long = lit≤ tt; calm = refl }; lasts = refl; numbered = refl; near = refl }));
  counts-once = λ h.
      (let z : ◌≡◌ {A = ℤ} (pos 22) (pos 15) = h begun 1 (silence 3) (sent (7 ∷ 8 ∷ 7 ∷ [])) (7 ∷ 8 ∷ 7 ∷ []) (λ x. pos x) (record { vector = refl; silent = record { lawful = refl; long = lit≤ tt; calm = refl }; lasts = refl; numbered = refl; near = refl }) in
      let y : ◌≡◌ {A = ℕ} 22 15 = cc in omega arith);
  restart = λ h. rogue-not up (h begun 1 (ticking ∷ from 0 1 9 ∷ silence 2) (from 0 1 5000) 5000 unranked calls.rogue (record { lawful = refl; long = lit≤ tt; calm = refl }) refl) (inl refl);
  fresh-lost = λ h. (let z : ◌≡◌ {A = ℕ} (2 ^ 64 - 1) 0 = h idle 1 dead 7 (8 ∷ 9 ∷ 11 ∷ 12 ∷ 15 ∷ []) refl refl refl (record { lasts = refl; numbered = refl; near = refl }) in omega arith);
  opened-lost = λ h. (let z : ◌≡◌ {A = ℕ} 0 1 = h room (address 2) 0 4 3 1 (from 0 2 7 ∷ from 0 2 9 ∷ from 0 2 10 ∷ from 0 2 11 ∷ from 0 2 12 ∷ []) 7 (9 ∷ 10 ∷ 11 ∷ 12 ∷ []) refl (record { lasts = refl; numbered = refl; near = refl }) in omega arith);
  resets-seen = λ h. false≢true (h (blank ∷ alone 4 3 1) 1 1 0 refl);
  begins-opened = λ h. (let z : ◌≡◌ {A = ℕ} 0 1 = ((h room 1).opened (address 2) 0 4 3 refl).vector in omega arith);
  begins-reset = λ h. false≢true ((h begun 1).reset refl refl).any;
  begins-ticked = λ h. false≢true ((h begun 1).ticked refl refl).lawful;
  after-reset = λ h. let e = ap number_in (h sender_at_first (into 20 20 ∷ []) (into 20 20 ∷ []) 0 (pair 1) refl refl).copy0 in omega (arith, e);
  next-rises = λ h. (let z : ◌≡◌ {A = ℕ} 1 0 = h sender_at_first (into 19 20 ∷ []) (record { sixteen = lit≤ tt; whole = refl }) in omega arith);
}
