-- A batch is refused with n exactly if n is the first number of its list whose condition holds; a refused batch changes nothing,
-- and what a contract says of a batch is one thing. Assumes nothing.
use Prim.Native.Nat.{ℕ, ◌≤◌}
use mathlib.Core.Path.{◌≡◌, refl, sym, ap, ◌∙◌}
use mathlib.Core.Logic.{◌↔◌}
use mathlib.Core.Bool.{false}
use mathlib.Core.Option.{none}
use mathlib.Core.List.{List}
use native.Mathlib.Omega.{arith}
use lib.Dec.{ltb}
use lib.ListN.{length, replicate}
use borrow.Author.Tests.{le-ltb, ltb-false}
use Rattle.refusal.specs.Checks.{Said, first_of}
use Rattle.refusal.specs.Checks.Said.{refused, answers}
use Rattle.refusal.specs.Numbers.{TABLE, NETWORK, BATCH}
use Rattle.refusal.proofs.Checks.{first-exactly, passed}
use Rattle.record.specs.Sizes.{slots_most}
use Rattle.calls.specs.Table.{Table}
use Rattle.calls.proofs.Exactly.{no-network}
use Rattle.batch.specs.Batch.{Batch, frames_most, runs_past, frames_in, Turn, turns_in, comes_to, answers_of, bundle, batch_of}
use Rattle.batch.specs.Refusals.{bad_frames, batch_checks, RefusedExactly}
use Rattle.batch.specs.Laws.{Coincide, RefusedChangesNothing}
use Rattle.batch.proofs.Lengths.{neither}

-- ---- refused exactly so

abbrev pub turns : Table → Batch → List Turn
turns t b = turns_in b.network t b.out (frames_in b.count b.frames)

comes : (t : Table) (b : Batch) → comes_to t b ≡ first_of (batch_checks t b) (turns t b)
unfolding comes_to first_of batch_checks
comes t b = rw (no-network b.network)

module _ (t : Table) (out : List ℕ) where
  same-refusal : (x : Said (List Turn)) (n : ℕ) → ((bundle t out x).said ≡ refused n) ↔ (x ≡ refused n)
  unfolding bundle
  same-refusal (refused m) n = (λ e. (let z : m ≡ n = cc in ap refused z), λ e. (let z : m ≡ n = cc in ap refused z))
  same-refusal (answers us) n = (λ e. absurd (let z : ◌≡◌ {A = ℕ} 0 1 = cc in omega arith), λ e. absurd (let z : ◌≡◌ {A = ℕ} 0 1 = cc in omega arith))

  pub refused-bundle : (x : Said (List Turn)) (n : ℕ) → (bundle t out x).said ≡ refused n
      → ((bundle t out x).table ≡ t) × ((bundle t out x).output ≡ out) × ((bundle t out x).answers ≡ replicate frames_most none)
  unfolding bundle answers_of
  refused-bundle (refused m) n e = (refl, refl, refl)
  refused-bundle (answers us) n e = absurd (let z : ◌≡◌ {A = ℕ} 0 1 = cc in omega arith)

pub refused-exactly : RefusedExactly
unfolding batch_of
refused-exactly t b n =
    let f = first-exactly (List Turn) (batch_checks t b) (turns t b) n in
    let s = same-refusal t b.out (comes_to t b) n in
    (λ e. f.0 (sym (comes t b) ∙ s.0 e), λ e. s.1 (comes t b ∙ f.1 e))

pub refused-changes-nothing : RefusedChangesNothing
unfolding batch_of
refused-changes-nothing t b n e = refused-bundle t b.out (comes_to t b) n e

-- ---- a batch that is not refused

pub record Good (t : Table) (b : Batch) : Type 0 where
  pub slots : length t ≤ slots_most
  pub network : b.network ≤ 1
  pub few : b.count ≤ frames_most
  pub within : runs_past b.count b.frames ≡ false

-- its turns are those of its frames,
pub good-comes : (t : Table) (b : Batch) → Good t b → comes_to t b ≡ answers (turns t b)
unfolding comes_to
good-comes t b g = simp (le-ltb _ _ g.slots, le-ltb _ _ g.network, le-ltb _ _ g.few, g.within)

-- and it is one where it answers
pub answers-good : (t : Table) (b : Batch) {us : List Turn} → comes_to t b ≡ answers us → Good t b
unfolding comes_to
answers-good t b e =
    let x = passed (ltb slots_most (length t)) TABLE (sym e) in
    let y = passed (ltb 1 b.network) NETWORK x.1 in
    let z = neither (ltb frames_most b.count) (runs_past b.count b.frames) (passed (bad_frames b.count b.frames) BATCH y.1).0 in
    record { slots = ltb-false _ _ x.0; network = ltb-false _ _ y.0; few = ltb-false _ _ z.0; within = z.1 }

-- ---- one thing

pub coincide : Coincide
coincide t b r s u v x y p q = (p.said ∙ sym q.said, p.table ∙ sym q.table, p.output ∙ sym q.output)
