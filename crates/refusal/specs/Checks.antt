-- Document 01, "Calls and the order of checks": what a call says, and the first check of a list that refuses.
-- Assumes nothing.
use Rattle.std.specs.Prelude.{ℕ, ◌≡◌, ◌⊎◌, ◌↔◌, Bool, true, false, cond, List, [], ◌∷◌, Result, Ok, Err}
use Rattle.refusal.specs.Numbers.{number_of}
use Rattle.refusal.specs.declared.Refusal.{Refusal}

-- What a call says: the number of a refusal, or its answer.
pub data Said (A : Type 0) : Type 0 where
  refused : (number : ℕ) → Said A
  answers : A → Said A

-- What the code's answer says: each refusal its number.
abbrev pub said : {A : Type 0} → Result A Refusal → Said A
said (Ok a) = answers a
said (Err refusal) = refused (number_of refusal)

-- Equal `said` means equal answers.
abbrev pub SaidTells : Type 1
SaidTells = (A : Type 0) (r s : Result A Refusal) → said r ≡ said s → r ≡ s

-- A line of the paper's table: a number, and whether its condition holds.
pub record Check : Type 0 where
  pub number : ℕ
  pub holds : Bool

-- n is the first number of a list of checks whose condition holds.
unfoldable pub First : (n : ℕ) → List Check → Type 0
First n [] = ⊥
First n (c ∷ cs) = ((c.holds ≡ true) × (n ≡ c.number)) ⊎ ((c.holds ≡ false) × First n cs)

-- What a call with these checks says: that number, and its answer where no condition holds.
unfoldable pub first_of : {A : Type 0} → List Check → A → Said A
first_of [] a = answers a
first_of (c ∷ cs) a = cond c.holds (refused c.number) (first_of cs a)

-- The two agree: refused with n exactly if n is the first whose condition holds.
abbrev pub FirstExactly : Type 1
FirstExactly = (A : Type 0) (cs : List Check) (a : A) (n : ℕ) → (first_of cs a ≡ refused n) ↔ First n cs
