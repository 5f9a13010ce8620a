-- What a frame adds to the output fits: it is handed up only where there was room for its two length bytes. Assumes nothing.
use Prim.Native.Nat.{ℕ, ◌+◌, ◌-◌, ◌≤◌, ◌<◌}
use mathlib.Core.Path.{◌≡◌, refl}
use mathlib.Core.Logic.{◌⊎◌, inl, inr}
use mathlib.Core.Bool.{Bool, true, false, cond}
use mathlib.Core.List.{List}
use native.Mathlib.Omega.{arith}
use lib.Dec.{leb}
use lib.ListN.{length, drop, length-drop}
use borrow.Author.Tests.{leb-true}
use Rattle.calls.specs.Table.{Table}
use Rattle.calls.specs.Calls.{arriving, Result, result_of}
use Rattle.calls.specs.Told.{tell_arrival}
use Rattle.batch.specs.Steps.{from_of, next_frame, added}
use Rattle.batch.specs.declared.Cursor.{Cursor}
use Rattle.batch.specs.Steps.{frame_at}
use Rattle.batch.proofs.Arriving.{Leaves, nothing-new, handed-up, leaves}
use Rattle.batch.proofs.Filling.{from_is}

-- An arrival that is given `left` adds nothing, or its two length bytes and no more than `left` has room for.
adds-few : (left : List ℕ) (r : Result) → Leaves left r → (added (tell_arrival r.said) ≡ 0) ⊎ ((0 < length left) × (added (tell_arrival r.said) ≤ 2 + length left))
adds-few left r (nothing-new h w a) = inl (rw h)
adds-few left r (handed-up bare m k h l w a) = inr (omega arith, rw (h, l) (omega arith))

-- given the output from `from_of` on, `size` bytes
fits-behind : (used room k size new : ℕ) → k ≡ from_of used room → size ≡ room - k → used ≤ room → (new ≡ 0) ⊎ ((0 < size) × (new ≤ 2 + size)) → used + new ≤ room
fits-behind used room k size new e l h (inl p) = omega arith
fits-behind used room k size new e l h (inr p) = go (leb (used + 2) room) refl e
  where
    go : (b : Bool) → leb (used + 2) room ≡ b → k ≡ cond b (used + 2) room → used + new ≤ room
    go true q e = omega (arith, leb-true (used + 2) room q, p.1)
    go false q e = absurd (omega (arith, p.0))

pub turn-fits : (t : Table) (network : ℕ) (f out : List ℕ) (c : Cursor) (s : List ℕ) (i j k : ℕ) → next_frame c s (length out) ≡ frame_at i j k → c.used ≤ length out
    → c.used + added (tell_arrival (result_of t (arriving network f (drop k out))).said) ≤ length out
turn-fits t network f out c s i j k e h =
    fits-behind c.used (length out) k (length (drop k out)) _ (from_is s (length out) c i j k e) (length-drop k out) h (adds-few (drop k out) _ (leaves t (drop k out) network f))
