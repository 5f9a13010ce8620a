-- The eight words of a history, named one by one: the instances of what Words has over any number of words. Assumes nothing.
use Rattle.std.proofs.Common.{◌≡◌, ℕ, ◌^◌, ◌<◌, eqb, ltb, List, [], ◌∷◌, length, get_or, set, refl, ap, ◌∙◌, arith}
use Rattle.std.proofs.Common.{fold, take, drop}
use Rattle.std.proofs.lemmas.List.{take_all}
use lib.Bits.{bit_or}
use Rattle.stream.specs.History.{value, words_of}
use Rattle.stream.proofs.Words.{Small, tab, words-tab, tab-set, above-none}

eight : (f : ℕ → ℕ) → f 0 ∷ f 1 ∷ f 2 ∷ f 3 ∷ f 4 ∷ f 5 ∷ f 6 ∷ f 7 ∷ [] ≡ tab 8 f
unfolding tab
eight f = refl

-- eight words, each as a number has it
pub eight-words : (x : ℕ) (f : ℕ → ℕ) → ((i : ℕ) → i < 8 → get_or (words_of 8 x) i 0 ≡ f i)
    → f 0 ∷ f 1 ∷ f 2 ∷ f 3 ∷ f 4 ∷ f 5 ∷ f 6 ∷ f 7 ∷ [] ≡ words_of 8 x
eight-words x f e = eight f ∙ words-tab 8 x f e

-- one of them changed
pub eight-set : (h : List ℕ) (j v : ℕ) (f : ℕ → ℕ) → length h ≡ 8 → j < 8 → f j ≡ v → ((i : ℕ) → (i ≡ j → ⊥) → f i ≡ get_or h i 0)
    → f 0 ∷ f 1 ∷ f 2 ∷ f 3 ∷ f 4 ∷ f 5 ∷ f 6 ∷ f 7 ∷ [] ≡ set h j v
eight-set h j v f e l a b = eight f ∙ tab-set h 8 j v f e l a b

-- no bit is set above the first of them
pub short : (h : List ℕ) → Small h → length h ≡ 8 → eqb (fold bit_or 0 (take 7 (drop 1 h))) 0 ≡ ltb (value h) (2 ^ 64)
short [] s e = absurd (omega arith)
short (w ∷ ws) s e = ap (λ (l : List ℕ). eqb (fold bit_or 0 l) 0) (take_all 7 ws (omega arith)) ∙ above-none w ws s
