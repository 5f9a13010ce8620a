-- The list of the indices handed up: its highest, and what stands in it. Assumes nothing.
use Prim.Native.Nat.{ℕ, ◌<◌, max}
use mathlib.Core.Path.{◌≡◌, refl}
use mathlib.Core.Bool.{false, ◌||◌}
use mathlib.Core.List.{List, [], ◌∷◌}
use native.Mathlib.Omega.{arith}
use lib.Dec.{eqb}
use borrow.Author.Tests.{ne_eqb}
use Rattle.demands.specs.Unlimited.{elem, highest}

-- what lies above the highest is not in the list
pub above : (x : ℕ) (hs : List ℕ) → highest hs < x → elem x hs ≡ false
unfolding highest elem
above x [] b = refl
above x (y ∷ ys) b = rw (ne_eqb x y (omega arith), above x ys (omega arith))

pub top : (x : ℕ) (hs : List ℕ) → highest (x ∷ hs) ≡ max x (highest hs)
unfolding highest
top x hs = refl

pub more : (y x : ℕ) (hs : List ℕ) → elem y (x ∷ hs) ≡ eqb y x || elem y hs
unfolding elem
more y x hs = refl
