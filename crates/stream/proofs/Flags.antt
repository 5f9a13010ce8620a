-- The answer of a chain of tests, as `search flags` proves it: the goal is an equation of a Bool, or of what an `if` picks,
-- and the facts are in the record at hand. Assumes nothing.
use Rattle.std.proofs.Common.{◌≡◌, ℕ, ◌<◌, ◌≤◌, Bool, true, false, cond, not, ◌&&◌, ◌||◌, eqb, leb, sym, refl, ap, ◌∙◌, eq-eqb, ne_eqb, le-leb}
use mathlib.Core.Bool.{beq}
use borrow.Author.Tests.{lt-leb, not-true, not-false}
use Rattle.record.specs.Words.{yes}

pub no-l : (a b : Bool) → false ≡ a → false ≡ (a && b)
no-l true b e = cc
no-l false b e = refl

pub no-r : (a b : Bool) → false ≡ b → false ≡ (a && b)
no-r true b e = e
no-r false b e = refl

-- where the left part holds, the right part decides
pub rest : (a b r : Bool) → true ≡ a → r ≡ b → r ≡ (a && b)
rest true b r e f = f
rest false b r e f = cc

-- one of two
pub or_l : (a b : Bool) → true ≡ a → true ≡ (a || b)
or_l true b e = refl
or_l false b e = cc

pub or_r : (a b r : Bool) → false ≡ a → r ≡ b → r ≡ (a || b)
or_r true b r e f = cc
or_r false b r e f = f

-- two that differ, and two that agree
pub differ : (a b : Bool) → true ≡ a → false ≡ b → false ≡ beq a b
differ true true e f = cc
differ true false e f = refl
differ false b e f = cc

pub agree : (a b : Bool) → false ≡ a → false ≡ b → true ≡ beq a b
agree true b e f = cc
agree false true e f = cc
agree false false e f = refl

pub leb_yes : (a b : ℕ) → a ≤ b → true ≡ leb a b
leb_yes a b h = sym (le-leb a b h)

pub leb_no : (a b : ℕ) → b < a → false ≡ leb a b
leb_no a b h = sym (lt-leb a b h)

pub eqb_yes : (a b : ℕ) → a ≡ b → true ≡ eqb a b
eqb_yes a b h = sym (eq-eqb a b h)

pub eqb_no : (a b : ℕ) → (a ≡ b → ⊥) → false ≡ eqb a b
eqb_no a b h = sym (ne_eqb a b h)

-- a flag that is a byte
pub is-yes : (n : ℕ) → (n ≡ 0 → ⊥) → yes n ≡ true
unfolding yes
is-yes n h = ap not (ne_eqb n 0 h)

pub is-no : (n : ℕ) → n ≡ 0 → yes n ≡ false
unfolding yes
is-no n h = ap not (eq-eqb n 0 h)

pub flag-yes : (b : Bool) → b ≡ true → true ≡ b
flag-yes b e = sym e

pub flag-no : (b : Bool) → b ≡ false → false ≡ b
flag-no b e = sym e

-- what a call answered, and what its contract says of the answer
pub call-yes : (r b : Bool) → r ≡ b → r ≡ true → true ≡ b
call-yes r b e f = sym f ∙ e

pub call-no : (r b : Bool) → r ≡ b → r ≡ false → false ≡ b
call-no r b e f = sym f ∙ e

pub call-not : (r b : Bool) → r ≡ b → not r ≡ true → false ≡ b
call-not r b e f = sym (not-true r f) ∙ e

pub call-not-not : (r b : Bool) → r ≡ b → not r ≡ false → true ≡ b
call-not-not r b e f = sym (not-false r f) ∙ e

-- a choice
pub first : {A : Type 0} (b : Bool) (x y r : A) → true ≡ b → r ≡ x → r ≡ cond b x y
first true x y r e f = f
first false x y r e f = cc

pub second : {A : Type 0} (b : Bool) (x y r : A) → false ≡ b → r ≡ y → r ≡ cond b x y
second true x y r e f = cc
second false x y r e f = f

pub ruleset flags = (no-l, no-r, rest, or_l, or_r, differ, agree, leb_yes, leb_no, eqb_yes, eqb_no, is-yes, is-no, flag-yes, flag-no, call-yes, call-no, call-not, call-not-not, first, second)
