-- What is admitted of what was read of a frame. Assumes nothing.
use mathlib.Core.Path.{◌≡◌, refl, sym}
use mathlib.Core.Bool.{true, false}
use mathlib.Core.List.{List}
use Prim.Native.Nat.{ℕ}
use native.Mathlib.Omega.{arith}
use Rattle.refusal.specs.Checks.{Said}
use Rattle.refusal.specs.Checks.Said.{refused, answers}
use Rattle.refusal.specs.Numbers.{GROUP}
use Rattle.refusal.proofs.Checks.{passed}
use Rattle.frame.specs.Frame.{Tag, group_source}
use Rattle.calls.specs.Calls.{admitted}

module _ (f : List ℕ) where
  -- the tag of a frame without a group source
  pub admits : (x : Said Tag) {g : Tag} → admitted f x ≡ answers g → (group_source f ≡ false) × (x ≡ answers g)
  unfolding admitted
  admits (refused n) e = absurd (let z : ◌≡◌ {A = ℕ} 0 1 = cc in omega arith)
  admits (answers h) e = let p = passed (group_source f) GROUP (sym e) in (p.0, sym p.1)

  -- of such a frame it is what was read,
  pub admits-all : (x : Said Tag) → group_source f ≡ false → admitted f x ≡ x
  unfolding admitted
  admits-all (refused n) s = refl
  admits-all (answers g) s = rw s

  -- and of any other no tag
  pub admits-none : (g : Tag) → group_source f ≡ true → admitted f (answers g) ≡ refused GROUP
  unfolding admitted
  admits-none g s = rw s
