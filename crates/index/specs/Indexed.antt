-- Document 02, order 9: the calls that take the index. Each is the call as without the index, behind 1 and 18. Assumes nothing.
use Rattle.std.specs.Prelude.{ℕ, ◌≡◌, not, List, [], ◌∷◌, eqb, ltb, length, Result, Ok, Err}
use Rattle.refusal.specs.Checks.{Said, Check, first_of}
use Rattle.refusal.specs.Numbers.{TABLE, INDEX, number_of}
use Rattle.refusal.specs.declared.Refusal.{Refusal}
use Rattle.std.specs.Prelude.{if◌then◌else◌}
use Rattle.record.specs.Sizes.{slots_most}
use Rattle.calls.specs.Table.{Table}
use Rattle.calls.specs.Calls.{Call, Act, refuse, arrive, opens, closes, resets, ticks, checked, after, answer, Answer, done}
use Rattle.calls.specs.Refusals.{checks_of, many_slots}
use Rattle.index.specs.Index.{Index, places, indexed, rebuilt}

-- "check the agreement once, and then use it": 1, then 18, then the call as without the index.
unfoldable pub guarded : Index → Table → Call → Act
guarded ix t c = if ltb slots_most (length t) then refuse TABLE else if not (indexed ix t) then refuse INDEX else checked t c

-- The index after it: the rebuilt one where an open filled a slot or a close freed one, and otherwise as it was.
unfoldable pub index_after : Index → Table → Act → Index
index_after ix t (refuse n) = ix
index_after ix t (arrive i number network rank bare) = ix
index_after ix t (opens i s) = rebuilt (after t (opens i s))
index_after ix t (closes i) = rebuilt (after t (closes i))
index_after ix t (resets i) = ix
index_after ix t ticks = ix

-- What an open or a close comes to: its answer, the table and the index bytes.
pub record Indexed : Type 0 where
  pub said : Said Answer
  pub table : Table
  pub index : Index

pub record MeetsIndexed (ix : Index) (t : Table) (c : Call) (r : Indexed) : Type 0 where
  pub said : r.said ≡ answer t (guarded ix t c)
  pub table : r.table ≡ after t (guarded ix t c)
  pub index : r.index ≡ index_after ix t (guarded ix t c)

-- "Another call rebuilds the index from any table": "the rebuild gives 1, then 18 for the length".
unfoldable pub rebuild_checks : Index → Table → List Check
rebuild_checks ix t = record { number = TABLE; holds = many_slots t } ∷ record { number = INDEX; holds = not (eqb (length ix) places) } ∷ []

unfoldable pub rebuilt_by : Index → Table → Index
rebuilt_by ix t = if ltb slots_most (length t) then ix else if not (eqb (length ix) places) then ix else rebuilt t

pub record MeetsRebuild (ix : Index) (t : Table) (told : Said Answer) (after : Index) : Type 0 where
  pub said : told ≡ first_of (rebuild_checks ix t) done
  pub index : after ≡ rebuilt_by ix t

-- ---- the refusals, as a list of conditions of its own

-- "18, index not of 128 places or not in agreement with the table, directly after 1"
unfoldable pub behind_first : Check → List Check → List Check
behind_first k [] = k ∷ []
behind_first k (c ∷ cs) = c ∷ k ∷ cs

unfoldable pub checks_with : Index → Table → Call → List Check
checks_with ix t c = behind_first (record { number = INDEX; holds = not (indexed ix t) }) (checks_of t c)

-- 1 or 18 as a number, and 0 where neither is given: what the code asks once.
unfoldable pub unfit_of : Index → Table → ℕ
unfit_of ix t = if ltb slots_most (length t) then TABLE else if not (indexed ix t) then INDEX else 0

-- What the code answers of it, as that number.
abbrev pub told_unfit : Result Unit Refusal → ℕ
told_unfit (Ok u) = 0
told_unfit (Err refusal) = number_of refusal
