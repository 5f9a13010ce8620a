-- Document 02, order 9: what holds of the index and of the calls that take one. Assumes nothing.
use Rattle.std.specs.Prelude.{ℕ, ◌≤◌, ◌≡◌, ◌↔◌, true, false, ltb, length}
use Rattle.refusal.specs.Checks.{First}
use Rattle.refusal.specs.Checks.Said.{refused}
use Rattle.record.specs.Sizes.{slots_most}
use Rattle.calls.specs.Table.{Table}
use Rattle.calls.specs.Calls.{Call, act, after, answer}
use Rattle.index.specs.Index.{Index, Agrees, agrees, indexed, rebuilt}
use Rattle.index.specs.Indexed.{guarded, index_after, checks_with, Indexed, MeetsIndexed}

-- The test over the slots in use is agreement, which is over every key.
abbrev pub AgreesTested : Type 0
AgreesTested = (ix : Index) (t : Table) → (agrees ix t ≡ true) ↔ Agrees ix t

-- The rebuilt index is one, of any table of at most 64 slots.
abbrev pub RebuiltAgrees : Type 0
RebuiltAgrees = (t : Table) → length t ≤ slots_most → indexed (rebuilt t) t ≡ true

-- "Open, close and the batch, unless they give 1 or 18, leave both in agreement and answer as without the index; no refusal changes
-- the index." (The batch: `BatchWithout` of `batch`.)
pub record Without (ix : Index) (t : Table) (c : Call) : Type 0 where
  pub same : indexed ix t ≡ true → guarded ix t c ≡ act t c
  pub both : indexed ix t ≡ true → ltb slots_most (length t) ≡ false → indexed (index_after ix t (guarded ix t c)) (after t (guarded ix t c)) ≡ true
  pub kept : (n : ℕ) → answer t (guarded ix t c) ≡ refused n → (after t (guarded ix t c) ≡ t) × (index_after ix t (guarded ix t c) ≡ ix)

abbrev pub AsWithout : Type 0
AsWithout = (ix : Index) (t : Table) (c : Call) → Without ix t c

-- Refused with n exactly if n is the first of the list whose condition holds.
abbrev pub IndexedExactly : Type 0
IndexedExactly = (ix : Index) (t : Table) (c : Call) (n : ℕ) → (answer t (guarded ix t c) ≡ refused n) ↔ First n (checks_with ix t c)

-- Two outcomes that meet the contract coincide, the index bytes too.
abbrev pub IndexedDetermined : Type 0
IndexedDetermined =
    (ix : Index) (t : Table) (c : Call) (r s : Indexed) → MeetsIndexed ix t c r → MeetsIndexed ix t c s → r ≡ s
