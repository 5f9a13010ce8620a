-- All frames in the steps of the code come to what the definition of a batch says. Assumes nothing.
use Prim.Native.Nat.{ℕ, zero, suc, ◌-◌, ◌≤◌}
use mathlib.Core.Path.{◌≡◌, refl, ap, ◌∙◌}
use mathlib.Core.Bool.{Bool, true, false, not, cond, ◌||◌}
use mathlib.Core.Option.{none, some}
use mathlib.Core.List.{List, [], ◌∷◌, ◌++◌, map}
use native.Mathlib.Omega.{arith}
use lib.Dec.{eqb, ltb}
use lib.ListN.{length, replicate}
use borrow.Author.Tests.{ltb-false}
use Rattle.refusal.specs.Checks.{Said, said}
use Rattle.refusal.specs.declared.Refusal.{Refusal}
use Rattle.std.specs.Prelude.{Result as Answered}
use Rattle.refusal.specs.Checks.Said.{refused, answers}
use Rattle.refusal.specs.Numbers.{TABLE, NETWORK, BATCH, INDEX}
use Rattle.record.specs.Sizes.{slots_most}
use Rattle.frame.specs.Bytes.{overlay}
use Rattle.calls.specs.Table.{Table}
use Rattle.calls.specs.Told.{tell_arrival}
use Rattle.calls.specs.declared.ArrivalAnswer.{ArrivalAnswer}
use Rattle.index.specs.Index.{Index, indexed}
use Rattle.index.specs.Indexed.{unfit_of}
use Rattle.batch.specs.Batch.{Batch, frames_most, runs_past, frames_in, Turn, turns_in, comes_to, before, answers_of, bundle}
use Rattle.batch.specs.Told.{mark, tell_each, frames_told, refusal_told, tell_batch}
use Rattle.batch.specs.Indexed.{comes_with, batch_by, MeetsBatchBy}
use Rattle.batch.specs.Steps.{starts_with, begun, filled_of, Filled, filled_from, Fills}
use Rattle.batch.specs.declared.Cursor.{Cursor}
use Rattle.batch.specs.declared.Batched.{Batched}
use Rattle.batch.proofs.Middle.{Answers, told_of, all}

-- an answer whose fields are all 0 is the mark
pub mark-is : (e : ArrivalAnswer)
    → (e.slot ≡ 0) × ((e.length ≡ 0) × ((e.number ≡ 0) × ((e.verdict ≡ 0) × ((e.refusal ≡ 0) × ((e.rank.priority ≡ 0) × (e.rank.vlantag ≡ 0)))))) → e ≡ mark
mark-is e f = λ i. record {
  slot = f.0 i;
  length = f.1.0 i;
  number = f.1.1.0 i;
  verdict = f.1.1.1.0 i;
  refusal = f.1.1.1.1.0 i;
  rank = record { priority = f.1.1.1.1.1.0 i; vlantag = f.1.1.1.1.1.1 i };
}

-- the answers, told one by one
tells : (us : List Turn) (n : ℕ) → told_of us ++ replicate n mark ≡ map tell_each (map (λ (u : Turn). some u.result.said) us ++ replicate n none)
tells [] zero = refl
tells [] (suc n) = ap (λ (es : Answers). mark ∷ es) (tells [] n)
tells (u ∷ us) n = ap (λ (es : Answers). tell_arrival u.result.said ∷ es) (tells us n)

-- the batch begins in the middle, with nothing packed and no answer noted
abbrev start : Table → Batch → Said Cursor → Filled
start t b c = filled_from t b (replicate frames_most mark) c

abbrev told_by : Filled → Batched
told_by f = record { answers = f.answers; frames = frames_told f.said; refusal = refusal_told f.said }

module _ (t : Table) (b : Batch) where
  abbrev Meets : Filled → Said (List Turn) → Type 0
  Meets f x = (told_by f ≡ tell_batch (bundle t b.out x)) × (f.table ≡ (bundle t b.out x).table) × (f.out ≡ (bundle t b.out x).output)

  none_filled : (n : ℕ) → Meets (start t b (refused n)) (refused n)
  unfolding filled_from bundle answers_of
  none_filled n = (refl, refl, refl)

  all-filled : b.count ≤ frames_most
      → Meets (start t b (answers (starts_with b.count))) (answers (turns_in b.network t b.out (frames_in b.count b.frames)))
  unfolding filled_from filled_of bundle answers_of overlay
  all-filled h =
      let us = turns_in b.network t b.out (frames_in b.count b.frames) in
      let f = all b.network b.frames b.out b.count t 0 [] [] frames_most (omega arith) h in
      let a = f.answers ∙ tells us (frames_most - length us) in
      let k : _ ≡ before us = f.frames ∙ omega arith in
      ((λ i. record { answers = a i; frames = k i; refusal = 0 }), f.table, f.out)

  filled : (ix : Index) → Meets (start t b (begun (unfit_of ix t) b.network b.count b.frames)) (comes_with ix t b)
  unfolding begun unfit_of comes_to comes_with
  filled ix = go (ltb slots_most (length t)) (indexed ix t) (ltb 1 b.network) (ltb frames_most b.count) (runs_past b.count b.frames) refl
    where
      go : (x i y z w : Bool) → ltb frames_most b.count ≡ z
          → Meets (start t b (cond (not (eqb (cond x TABLE (cond (not i) INDEX 0)) 0)) (refused (cond x TABLE (cond (not i) INDEX 0))) (cond y (refused NETWORK) (cond (z || w) (refused BATCH) (answers (starts_with b.count))))))
          (cond x (refused TABLE) (cond (not i) (refused INDEX) (cond x (refused TABLE) (cond y (refused NETWORK) (cond (z || w) (refused BATCH) (answers (turns_in b.network t b.out (frames_in b.count b.frames))))))))
      go true i y z w e = none_filled TABLE
      go false false y z w e = none_filled INDEX
      go false true true z w e = none_filled NETWORK
      go false true false true w e = none_filled BATCH
      go false true false false true e = none_filled BATCH
      go false true false false false e = all-filled (ltb-false frames_most b.count e)

pub filled-is-batch : (ix : Index) (t : Table) (b : Batch) (u : Table) (r : Answered ℕ Refusal) (out : List ℕ) (new : List ArrivalAnswer)
    → Fills ix t b (replicate frames_most mark) u r out new
    → MeetsBatchBy ix t b (record { answers = new; frames = frames_told (said r); refusal = refusal_told (said r) }) u out
unfolding batch_by
filled-is-batch ix t b u r out new f =
    let m = filled t b ix in
    record {
      said = ap told_by f.same ∙ m.0;
      table = ap (λ (w : Filled). w.table) f.same ∙ m.1;
      output = ap (λ (w : Filled). w.out) f.same ∙ m.2;
    }
