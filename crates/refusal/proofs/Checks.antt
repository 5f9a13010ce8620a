-- `first_of` gives the number that `First` speaks of. Assumes nothing.
use Prim.Native.Nat.{ℕ, ◌<◌}
use mathlib.Core.Path.{◌≡◌, refl, sym, ap, ◌∙◌}
use Rattle.std.specs.Prelude.{if◌then◌else◌, eqb}
use mathlib.Core.Logic.{◌⊎◌, inl, inr}
use mathlib.Core.Bool.{Bool, true, false, cond}
use mathlib.Core.List.{List, [], ◌∷◌}
use native.Mathlib.Omega.{arith}
use Rattle.std.specs.Prelude.{Result, Ok, Err}
use Rattle.std.specs.Result.{IsErrAnd}
use Rattle.refusal.specs.Checks.{Said, Check, First, first_of, FirstExactly, SaidTells}
use Rattle.refusal.specs.Checks.Said.{refused, answers}
use Rattle.refusal.specs.Numbers.{number_of}
use Rattle.refusal.specs.declared.Refusal.{Refusal}
use Rattle.refusal.specs.declared.Refusal.TheVariants.{Table, Network, Long, Short, Untagged, Unknown, Damaged, Room, Setting, Taken, Full, Slot, Tagged, Group, Batch, Trailer, Index}

module _ (A : Type 0) (a : A) (n : ℕ) where
  to : (cs : List Check) → first_of cs a ≡ refused n → First n cs
  unfolding First first_of
  to [] e = let z : ◌≡◌ {A = ℕ} 0 1 = cc in omega arith
  to (c ∷ cs) e = go c.holds refl e (to cs)
    where
      go : (b : Bool) → c.holds ≡ b → cond b (refused c.number) (first_of cs a) ≡ refused n → (first_of cs a ≡ refused n → First n cs)
          → ((c.holds ≡ true) × (n ≡ c.number)) ⊎ ((c.holds ≡ false) × First n cs)
      go true h e rest = inl (h, cc)
      go false h e rest = inr (h, rest e)

  from : (cs : List Check) → First n cs → first_of cs a ≡ refused n
  unfolding First first_of
  from [] x = absurd x
  from (c ∷ cs) (inl p) = rw p.0 (ap refused (sym p.1))
  from (c ∷ cs) (inr p) = rw p.0 (from cs p.1)

pub first-exactly : FirstExactly
first-exactly A cs a n = (to A a n cs, from A a n cs)

-- a check that an answer has passed
pub passed : {A : Type 0} (b : Bool) (n : ℕ) {z : Said A} {a : A} → answers a ≡ cond b (refused n) z → (b ≡ false) × (answers a ≡ z)
passed true n e = absurd (let z : ◌≡◌ {A = ℕ} 0 1 = cc in omega arith)
passed false n e = (refl, e)

-- the number of what refuses
abbrev pub number_or : {A : Type 0} → ℕ → Said A → ℕ
number_or d (refused n) = n
number_or d (answers a) = d

-- equal answers hold equal values
abbrev pub value_or : {A : Type 0} → A → Said A → A
value_or d (refused n) = d
value_or d (answers a) = a

pub same-value : {A : Type 0} {a b : A} → answers a ≡ answers b → a ≡ b
same-value {A} {a} {b} e = ap (value_or a) e

-- where every number of a list is above 0, so is the first whose condition holds
abbrev pub Positive : List Check → Type 0
Positive [] = Unit
Positive (c ∷ cs) = (0 < c.number) × Positive cs

pub first-positive : (n : ℕ) (cs : List Check) → Positive cs → First n cs → 0 < n
unfolding First
first-positive n [] p x = absurd x
first-positive n (c ∷ cs) p (inl x) = omega (arith, x.1, p.0)
first-positive n (c ∷ cs) p (inr x) = first-positive n cs p.1 x.1

-- the refusal that has a number, and Table where none has
unfoldable refusal_at : ℕ → Refusal
refusal_at n =
    if eqb n 2 then Network else
    if eqb n 3 then Long else
    if eqb n 4 then Short else
    if eqb n 5 then Untagged else
    if eqb n 6 then Unknown else
    if eqb n 7 then Damaged else
    if eqb n 8 then Room else
    if eqb n 9 then Setting else
    if eqb n 10 then Taken else
    if eqb n 11 then Full else
    if eqb n 12 then Slot else
    if eqb n 13 then Tagged else
    if eqb n 14 then Group else
    if eqb n 15 then Batch else
    if eqb n 16 then Trailer else
    if eqb n 18 then Index else
    Table

numbered : (refusal : Refusal) → refusal_at (number_of refusal) ≡ refusal
unfolding refusal_at
numbered Table = refl
numbered Network = refl
numbered Long = refl
numbered Short = refl
numbered Untagged = refl
numbered Unknown = refl
numbered Damaged = refl
numbered Room = refl
numbered Setting = refl
numbered Taken = refl
numbered Full = refl
numbered Slot = refl
numbered Tagged = refl
numbered Group = refl
numbered Batch = refl
numbered Trailer = refl
numbered Index = refl

-- equal numbers mean equal refusals
pub numbers-tell : (p q : Refusal) → number_of p ≡ number_of q → p ≡ q
numbers-tell p q e = sym (numbered p) ∙ ap refusal_at e ∙ numbered q

-- equal `said` means equal answers
pub said-tells : SaidTells
said-tells A (Ok a) (Ok b) e = ap Ok (same-value e)
said-tells A (Ok a) (Err q) e = absurd (let z : ◌≡◌ {A = ℕ} 0 1 = cc in omega arith)
said-tells A (Err p) (Ok b) e = absurd (let z : ◌≡◌ {A = ℕ} 0 1 = cc in omega arith)
said-tells A (Err p) (Err q) e = ap Err (numbers-tell p q (ap (number_or 0) e))

-- what a `?` passes on is the refusal that it met
pub passed-on : {A : Type 0} (r : Result A Refusal) {refusal : Refusal} → IsErrAnd r (λ x. x ≡ refusal) → r ≡ Err refusal
passed-on (Ok a) h = absurd h
passed-on (Err x) h = ap Err h
