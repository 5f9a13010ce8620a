-- What a search says of `search` and `some_slot`. Assumes nothing.
--     found_at, found_none    the place that was found is the search's, and where nothing was found no slot passes
--     some-place, no_place    the place of a slot that passes lies within the table, and where none does it lies behind it
use Prim.Native.Nat.{ℕ, ◌≤◌, ◌<◌}
use mathlib.Core.Path.{◌≡◌, refl}
use mathlib.Core.Bool.{Bool, true, false, cond}
use native.Mathlib.Omega.{arith}
use lib.ListN.{length}
use borrow.Author.Tests.{ltb-true, ltb-false}
use Rattle.record.specs.declared.Stream.{Stream}
use Rattle.calls.specs.Table.{Table, search, some_slot, found}
use Rattle.std.specs.Prelude.{None, Some}

module _ (p : Stream → Bool) (t : Table) where
  pub found_at : {i : ℕ} → found p t ≡ Some i → (search p t ≡ i) × (some_slot p t ≡ true)
  unfolding found
  found_at {i} e = go (some_slot p t) refl e
    where
      go : (b : Bool) → some_slot p t ≡ b → cond b (Some (search p t)) None ≡ Some i → (search p t ≡ i) × (some_slot p t ≡ true)
      go true s e = (cc, s)
      go false s e = absurd (let z : ◌≡◌ {A = ℕ} 0 1 = cc in omega arith)

  pub found_none : found p t ≡ None → some_slot p t ≡ false
  unfolding found
  found_none e = go (some_slot p t) refl e
    where
      go : (b : Bool) → some_slot p t ≡ b → cond b (Some (search p t)) None ≡ None → some_slot p t ≡ false
      go true s e = absurd (let z : ◌≡◌ {A = ℕ} 0 1 = cc in omega arith)
      go false s e = s

  pub some-found : some_slot p t ≡ true → found p t ≡ Some (search p t)
  unfolding found
  some-found s = rw s

  pub none_found : some_slot p t ≡ false → found p t ≡ None
  unfolding found
  none_found s = rw s

  pub some-place : some_slot p t ≡ true → search p t < length t
  unfolding some_slot
  some-place s = ltb-true _ _ s

  pub no_place : some_slot p t ≡ false → length t ≤ search p t
  unfolding some_slot
  no_place s = ltb-false _ _ s
