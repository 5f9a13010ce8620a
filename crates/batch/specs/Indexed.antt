-- Document 02, order 9: a batch that takes the index. It is the batch as without the index, behind 1 and 18. Assumes nothing.
use Rattle.std.specs.Prelude.{ℕ, ◌≤◌, ◌≡◌, ◌↔◌, true, not, List, ltb, length}
use Rattle.refusal.specs.Checks.{Said, Check, First}
use Rattle.refusal.specs.Checks.Said.{refused}
use Rattle.refusal.specs.Numbers.{TABLE, INDEX}
use Rattle.std.specs.Prelude.{if◌then◌else◌}
use Rattle.record.specs.Sizes.{slots_most}
use Rattle.calls.specs.Table.{Table}
use Rattle.index.specs.Index.{Index, indexed}
use Rattle.index.specs.Indexed.{behind_first}
use Rattle.batch.specs.Batch.{Batch, Turn, Bundle, comes_to, bundle, batch_of}
use Rattle.batch.specs.Refusals.{batch_checks}
use Rattle.batch.specs.Told.{tell_batch}
use Rattle.batch.specs.declared.Batched.{Batched}

-- "check the agreement once, and then use it": 1, then 18, then the batch as without the index.
unfoldable pub comes_with : Index → Table → Batch → Said (List Turn)
comes_with ix t b = if ltb slots_most (length t) then refused TABLE else if not (indexed ix t) then refused INDEX else comes_to t b

unfoldable pub batch_by : Index → Table → Batch → Bundle
batch_by ix t b = bundle t b.out (comes_with ix t b)

-- The contract: what is told, every record of the table and every byte of the output. (The index is lent to be read: it stays.)
pub record MeetsBatchBy (ix : Index) (t : Table) (b : Batch) (told : Batched) (rows : Table) (bytes : List ℕ) : Type 0 where
  pub said : told ≡ tell_batch (batch_by ix t b)
  pub table : rows ≡ (batch_by ix t b).table
  pub output : bytes ≡ (batch_by ix t b).output

-- ---- what holds of it

-- What is told, the tables and the output bytes of two batches that meet one contract coincide.
abbrev pub BatchesCoincide : Type 0
BatchesCoincide =
    (ix : Index) (t : Table) (b : Batch) (r s : Batched) (u v : Table) (x y : List ℕ) → MeetsBatchBy ix t b r u x → MeetsBatchBy ix t b s v y
    → (r ≡ s) × (u ≡ v) × (x ≡ y)

-- "directly after 1": a batch is refused with n exactly if n is the first number of its list whose condition holds.
unfoldable pub batch_checks_with : Index → Table → Batch → List Check
batch_checks_with ix t b = behind_first (record { number = INDEX; holds = not (indexed ix t) }) (batch_checks t b)

abbrev pub BatchRefusedExactly : Type 0
BatchRefusedExactly = (ix : Index) (t : Table) (b : Batch) (n : ℕ) → ((batch_by ix t b).said ≡ refused n) ↔ First n (batch_checks_with ix t b)

abbrev pub BatchRefusedKeeps : Type 0
BatchRefusedKeeps = (ix : Index) (t : Table) (b : Batch) (n : ℕ) → (batch_by ix t b).said ≡ refused n → ((batch_by ix t b).table ≡ t) × ((batch_by ix t b).output ≡ b.out)

-- Nothing is lost: batches that are told alike said the same and have the same answers.
abbrev pub BatchTold : Type 0
BatchTold =
    (ix : Index) (t : Table) (b : Batch) (jx : Index) (u : Table) (c : Batch) → tell_batch (batch_by ix t b) ≡ tell_batch (batch_by jx u c)
    → ((batch_by ix t b).said ≡ (batch_by jx u c).said) × ((batch_by ix t b).answers ≡ (batch_by jx u c).answers)

-- "unless they give 1 or 18, leave both in agreement and answer as without the index"
abbrev pub BatchWithout : Type 0
BatchWithout =
    (ix : Index) (t : Table) (b : Batch) → length t ≤ slots_most → indexed ix t ≡ true
    → (batch_by ix t b ≡ batch_of t b) × (indexed ix (batch_of t b).table ≡ true)
