-- A batch with the index: its refusals, and what it leaves of the agreement. Assumes nothing.
use Prim.Native.Nat.{ℕ, suc, ◌≤◌}
use mathlib.Core.Path.{◌≡◌, refl, ap, sym, ◌∙◌, subst}
use mathlib.Core.Bool.{Bool, true, false, not, cond, ◌||◌}
use mathlib.Core.List.{List, [], ◌∷◌, map}
use lib.Dec.{ltb}
use lib.ListN.{length, drop}
use borrow.Author.Tests.{le-ltb}
use Rattle.refusal.specs.Checks.Said.{refused, answers}
use Rattle.refusal.specs.Numbers.{TABLE, INDEX}
use Rattle.record.specs.Sizes.{slots_most}
use Rattle.calls.specs.Table.{Table}
use Rattle.calls.specs.Calls.{arriving, act, after, answer, output, Result, result_of}
use Rattle.calls.proofs.Kept.{length-kept}
use Rattle.index.specs.Index.{Index, indexed}
use Rattle.index.specs.Indexed.{behind_first}
use Rattle.index.proofs.Guard.{guard-exactly}
use Rattle.index.proofs.Arrivals.{arrive-keeps}
use Rattle.batch.specs.Batch.{Batch, Bundle, frames_most, runs_past, frames_in, adds, ends, single, turns_in, comes_to, table_after, answers_of, bundle, batch_of}
use Rattle.batch.specs.Refusals.{batch_checks}
use Rattle.batch.specs.Indexed.{comes_with, batch_by, batch_checks_with, BatchesCoincide, BatchRefusedExactly, BatchRefusedKeeps, BatchTold, BatchWithout}
use Rattle.batch.specs.Told.{frames_told, refusal_told, tell_batch}
use Rattle.batch.specs.declared.Batched.{Batched}
use Rattle.batch.proofs.Reading.{read_each, read_said, read_all, read-answers, read-said}
use Rattle.batch.proofs.Refusing.{refused-bundle, refused-exactly}

pub batches-coincide : BatchesCoincide
batches-coincide ix t b r s u v x y m n = (m.said ∙ sym n.said, m.table ∙ sym n.table, m.output ∙ sym n.output)

said-by : (ix : Index) (t : Table) (b : Batch)
    → (batch_by ix t b).said ≡ cond (ltb slots_most (length t)) (refused TABLE) (cond (not (indexed ix t)) (refused INDEX) (batch_of t b).said)
unfolding batch_by comes_with batch_of bundle
said-by ix t b = go (ltb slots_most (length t)) refl (indexed ix t) refl
  where
    go : (m : Bool) → ltb slots_most (length t) ≡ m → (g : Bool) → indexed ix t ≡ g
        → (batch_by ix t b).said ≡ cond (ltb slots_most (length t)) (refused TABLE) (cond (not (indexed ix t)) (refused INDEX) (batch_of t b).said)
    go true p g q = rw p refl
    go false p true q = rw (p, q) refl
    go false p false q = rw (p, q) refl

pub batch-refused-exactly : BatchRefusedExactly
unfolding batch_checks_with behind_first batch_checks
batch-refused-exactly ix t b n =
    let g = guard-exactly (ltb slots_most (length t)) (indexed ix t) (batch_of t b).said _ n (refused-exactly t b n) in
    (λ e. g.0 (sym (said-by ix t b) ∙ e), λ f. said-by ix t b ∙ g.1 f)

pub batch-refused-keeps : BatchRefusedKeeps
unfolding batch_by
batch-refused-keeps ix t b n e = let k = refused-bundle t b.out (comes_with ix t b) n e in (k.0, k.1)

-- ---- told alike

-- a batch with the index is the batch, or refused with a number
by_cases : (ix : Index) (t : Table) (b : Batch) (P : Bundle → Type 0) → P (batch_of t b) → ((n : ℕ) → P (bundle t b.out (refused (suc n)))) → P (batch_by ix t b)
unfolding batch_by comes_with batch_of
by_cases ix t b P whole refuses = go (ltb slots_most (length t)) refl (indexed ix t) refl
  where
    go : (m : Bool) → ltb slots_most (length t) ≡ m → (g : Bool) → indexed ix t ≡ g → P (batch_by ix t b)
    go true p g q = rw p (refuses 0)
    go false p false q = rw (p, q) (refuses 17)
    go false p true q = rw (p, q) whole

abbrev Reads : Bundle → Type 0
Reads z = (read_said (frames_told z.said) (refusal_told z.said) ≡ z.said) × (map read_each (tell_batch z).answers ≡ z.answers)

reads-by : (ix : Index) (t : Table) (b : Batch) → Reads (batch_by ix t b)
unfolding bundle answers_of
reads-by ix t b = by_cases ix t b Reads (read-said t b, read-answers t b) (λ n. (refl, read_all [] frames_most tt))

pub batch-told : BatchTold
batch-told ix t b jx u c e =
    let p = reads-by ix t b in let q = reads-by jx u c in
    (sym p.0 ∙ ap (λ (r : Batched). read_said r.frames r.refusal) e ∙ q.0, sym p.1 ∙ ap (λ (r : Batched). map read_each r.answers) e ∙ q.1)

-- ---- no arrival changes the agreement, so no batch does

abbrev pub Agreed : Index → Table → Type 0
Agreed ix t = (length t ≤ slots_most) × (indexed ix t ≡ true)

pub arrived-good : (ix : Index) (t : Table) (network : ℕ) (f out : List ℕ) → Agreed ix t → Agreed ix (after t (act t (arriving network f out)))
arrived-good ix t network f out (l, h) = (
  subst (λ (m : ℕ). m ≤ slots_most) (sym (length-kept t (arriving network f out))) l,
  arrive-keeps ix t network f out l h {w = answer t (act t (arriving network f out))} {o = output t out (act t (arriving network f out))} (record { said = refl; table = refl; output = refl }),
)

turns-good : (ix : Index) (network : ℕ) (t : Table) (left : List ℕ) (fs : List (List ℕ)) → Agreed ix t → Agreed ix (table_after t (turns_in network t left fs))
unfolding turns_in table_after
turns-good ix network t left [] g = g
turns-good ix network t left (f ∷ fs) g = go (ends r.said) h (turns-good ix network r.table (drop (length (adds r)) left) fs h)
  where
    r : Result
    r = result_of t (single network f left)

    h : Agreed ix r.table
    h = arrived-good ix t network f (drop 2 left) g

    go : (b : Bool) → Agreed ix r.table → Agreed ix (table_after r.table (turns_in network r.table (drop (length (adds r)) left) fs))
        → Agreed ix (table_after r.table (cond b [] (turns_in network r.table (drop (length (adds r)) left) fs)))
    go true l k = l
    go false l k = k

pub batched-good : (ix : Index) (t : Table) (b : Batch) → Agreed ix t → Agreed ix (batch_of t b).table
unfolding batch_of bundle comes_to
batched-good ix t b g = go (ltb slots_most (length t)) (ltb 1 b.network) (ltb frames_most b.count || runs_past b.count b.frames)
  where
    go : (x y z : Bool) → Agreed ix (bundle t b.out (cond x (refused 1) (cond y (refused 2) (cond z (refused 15) (answers (turns_in b.network t b.out (frames_in b.count b.frames))))))).table
    go true y z = g
    go false true z = g
    go false false true = g
    go false false false = turns-good ix b.network t b.out _ g

pub batch-without : BatchWithout
unfolding batch_by comes_with batch_of
batch-without ix t b l h = (rw (le-ltb slots_most (length t) l, h) refl, (batched-good ix t b (l, h)).1)
