-- Facts on lists and counting that the proofs here share. Assumes nothing.
use mathlib.Core.Path.{◌≡◌, refl}
use Prim.Native.Nat.{ℕ, zero, suc, ◌+◌, ◌-◌, ◌≤◌, ◌<◌}
use native.Mathlib.Nat.{not-suc-le-zero, le_of_suc-le-suc}
use native.Mathlib.Omega.{arith}
use mathlib.Core.List.{List, [], ◌∷◌}
use lib.ListN.{length, get_or, drop}
use mathlib.Core.Bool.{Bool, false}
use Rattle.std.specs.Prelude.{Option, Some, None, MatchOption}

pub get_d_past : {A : Type 0} (xs : List A) (i : ℕ) (d : A) → length xs ≤ i → get_or xs i d ≡ d
get_d_past [] i d h = refl
get_d_past (x ∷ xs) zero d h = absurd (not-suc-le-zero h)
get_d_past (x ∷ xs) (suc i) d h = get_d_past xs i d (le_of_suc-le-suc h)

pub drop_past : {A : Type 0} (xs : List A) (i : ℕ) → length xs ≤ i → drop i xs ≡ []
drop_past [] zero h = refl
drop_past [] (suc i) h = refl
drop_past (x ∷ xs) zero h = absurd (not-suc-le-zero h)
drop_past (x ∷ xs) (suc i) h = drop_past xs i (le_of_suc-le-suc h)

pub one_more : (i : ℕ) → i + 1 ≡ suc i
one_more i = omega arith

pub less : (n i : ℕ) → i < n → n - suc i < n - i
less n i l = omega (arith, l)

-- what `is_some_and` answers, of a closure that computes a test
abbrev pub some_and : {A : Type 0} → (A → Bool) → Option A → Bool
some_and f None = false
some_and f (Some x) = f x

pub some_and-made : {A : Type 0} (o : Option A) (r : Bool) (P : A → Type 0) (f : A → Bool) → MatchOption o (r ≡ false) P → ((x : A) → P x → r ≡ f x) → r ≡ some_and f o
some_and-made None r P f h g = h
some_and-made (Some x) r P f h g = g x h

-- and `and_then`
abbrev pub some_then : {A B : Type 0} → (A → Option B) → Option A → Option B
some_then f None = None
some_then f (Some x) = f x

pub some_then-made : {A B : Type 0} (o : Option A) (r : Option B) (P : A → Type 0) (f : A → Option B) → MatchOption o (r ≡ None) P → ((x : A) → P x → r ≡ f x) → r ≡ some_then f o
some_then-made None r P f h g = h
some_then-made (Some x) r P f h g = g x h
