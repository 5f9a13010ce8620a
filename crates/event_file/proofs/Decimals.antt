-- Decimal digits: the last one and those before it; and `decimal_of` is what std prints of a number of 64 bits, and so has at
-- most 20 of them. Assumes nothing.
use mathlib.Core.Path.{◌≡◌, sym, ap, ◌∙◌}
use Prim.Native.Nat.{ℕ, zero, suc, ◌+◌, ◌/◌, ◌%◌, ◌^◌, ◌≤◌, ◌<◌}
use native.Mathlib.Decide.{dec_lt}
use native.Mathlib.Omega.{arith}
use mathlib.Core.List.{List, [], ◌∷◌, ◌++◌, append_assoc}
use lib.ListN.{length}
use borrow.Author.Tests.{lt-ltb, le-ltb}
use Rattle.std.specs.Fmt.{decimal}
use Rattle.std.proofs.lemmas.Fmt.{decimal_from_appends, length-decimal-le, length-decimal-le_succ}
use Rattle.event_file.specs.Text.{digit, digits_of, decimal_of}

digits-small : (k n : ℕ) → n < 10 → digits_of (suc k) n ≡ (48 + n) ∷ []
unfolding digits_of
digits-small k n h = let m : n % 10 ≡ n = omega arith in simp (lt-ltb _ _ h) (ap (λ (x : ℕ). (48 + x) ∷ []) m)

digits-large : (k n : ℕ) → 10 ≤ n → digits_of (suc k) n ≡ digits_of k (n / 10) ++ (digit n ∷ [])
unfolding digits_of
digits-large k n h = simp (le-ltb _ _ h)

pub decimal-small : (n : ℕ) → n < 10 → decimal_of n ≡ (48 + n) ∷ []
unfolding decimal_of
decimal-small n h = digits-small n n h

module _ (n : ℕ) (h : n < 2 ^ 64) where
  decimal-std : decimal_of n ≡ decimal n
  unfolding decimal_of
  decimal-std = decimal_from_appends digits_of (record { one = digits-small; more = digits-large }) (suc n) n h (omega (arith, length-decimal-le_succ n h))

  pub decimal-most : length (decimal_of n) ≤ 20
  decimal-most = rw decimal-std (length-decimal-le 20 n (omega arith) (omega arith) h)

-- as many places as the number, and one more, are enough
enough : (j k n : ℕ) → n < j → n < k → digits_of j n ≡ digits_of k n
enough zero k n h l = absurd (omega arith)
enough (suc j) zero n h l = absurd (omega arith)
enough (suc j) (suc k) n h l = elim (dec_lt n 10) [ yes p ↦ digits-small j n p ∙ sym (digits-small k n p) | no p ↦ large (omega arith) (λ a b. enough j k (n / 10) a b) ]
  where
    large : 10 ≤ n → (n / 10 < j → n / 10 < k → digits_of j (n / 10) ≡ digits_of k (n / 10)) → digits_of (suc j) n ≡ digits_of (suc k) n
    large p f =
        digits-large j n p ∙ (ap (λ (x : List ℕ). x ++ (digit n ∷ [])) (f (omega arith) (omega arith)) ∙ sym (digits-large k n p))

-- of any number, also of more than 64 bits
pub decimal-large : (n : ℕ) → 10 ≤ n → decimal_of n ≡ decimal_of (n / 10) ++ (digit n ∷ [])
unfolding decimal_of
decimal-large n h = digits-large n n h ∙ ap (λ (x : List ℕ). x ++ (digit n ∷ [])) (enough n (suc (n / 10)) (n / 10) (omega arith) (omega arith))

-- the last two digits, and those before them
pub decimal-two : (n : ℕ) → n < 2 ^ 64 → 100 ≤ n → decimal_of n ≡ decimal_of (n / 100) ++ (digit (n / 10) ∷ (digit n ∷ []))
decimal-two n h l =
    let e : n / 10 / 10 ≡ n / 100 = omega arith in
    decimal-large n (omega arith)
    ∙ (ap (λ (x : List ℕ). x ++ (digit n ∷ [])) (decimal-large (n / 10) (omega arith) ∙ ap (λ (x : ℕ). decimal_of x ++ (digit (n / 10) ∷ [])) e)
    ∙ append_assoc (decimal_of (n / 100)) (digit (n / 10) ∷ []) (digit n ∷ []))

pub decimal-both : (n : ℕ) → n < 100 → 10 ≤ n → decimal_of n ≡ digit (n / 10) ∷ (digit n ∷ [])
decimal-both n h l =
    let m : digit (n / 10) ≡ 48 + n / 10 = omega arith in
    decimal-large n l ∙ ap (λ (x : List ℕ). x ++ (digit n ∷ [])) (decimal-small (n / 10) (omega arith) ∙ ap (λ (d : ℕ). d ∷ []) (sym m))

-- four digits, and those before the last four
abbrev four_of : ℕ → List ℕ
four_of n = digit (n / 1000) ∷ (digit (n / 100) ∷ (digit (n / 10) ∷ (digit n ∷ [])))

pub decimal-four : (n : ℕ) → n < 10000 → 1000 ≤ n → decimal_of n ≡ four_of n
decimal-four n h l =
    let e : n / 100 / 10 ≡ n / 1000 = omega arith in
    decimal-two n (omega arith) (omega arith)
    ∙ (ap (λ (x : List ℕ). x ++ (digit (n / 10) ∷ (digit n ∷ []))) (decimal-both (n / 100) (omega arith) (omega arith))
    ∙ ap (λ (x : ℕ). digit x ∷ (digit (n / 100) ∷ (digit (n / 10) ∷ (digit n ∷ [])))) e)

pub decimal-fours : (n : ℕ) → n < 2 ^ 64 → 10000 ≤ n → decimal_of n ≡ decimal_of (n / 10000) ++ four_of n
decimal-fours n h l =
    let d : n / 100 / 100 ≡ n / 10000 = omega arith in
    let e : n / 100 / 10 ≡ n / 1000 = omega arith in
    decimal-two n h (omega arith)
    ∙ (ap (λ (x : List ℕ). x ++ (digit (n / 10) ∷ (digit n ∷ []))) (decimal-two (n / 100) (omega arith) (omega arith))
    ∙ (append_assoc (decimal_of (n / 100 / 100)) (digit (n / 100 / 10) ∷ (digit (n / 100) ∷ [])) (digit (n / 10) ∷ (digit n ∷ []))
    ∙ (ap (λ (x : ℕ). decimal_of x ++ (digit (n / 100 / 10) ∷ (digit (n / 100) ∷ (digit (n / 10) ∷ (digit n ∷ []))))) d
    ∙ ap (λ (y : ℕ). decimal_of (n / 10000) ++ (digit y ∷ (digit (n / 100) ∷ (digit (n / 10) ∷ (digit n ∷ []))))) e)))
