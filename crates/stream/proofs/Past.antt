-- The laws of a history. Assumes nothing.
use Rattle.std.proofs.Common.{◌≡◌, ℕ, zero, suc, ◌+◌, ◌*◌, ◌/◌, ◌%◌, ◌^◌, ◌<◌, ◌≤◌, Bool, true, false, ◌||◌, eqb, ltb, [], ◌∷◌, length, get_or, sym, refl, ap, ◌∙◌, ap₂, lt_of_lt_of_le, add-zero, mod-lt, mod-eq_of_lt, mul-one, arith, pow_pos, pow_mono, ltb-false, ltb-true, le-ltb, lt-ltb, ne_eqb, eqb-true}
use native.Mathlib.Nat.{div-eq_of_lt}
use native.Mathlib.Decide.{dec_lt}
use lib.Dec.{eqb-suc-zero}
use lib.Pow.{pow-lt}
use lib.Bits.{bit_or}
use Rattle.std.specs.Prelude.{if◌then◌else◌}
use Rattle.record.specs.Sizes.{window_most}
use Rattle.stream.specs.History.{History, value, words_of, holding, bit_of, same, empty, is_empty, bit, single, set_bit, push, pushes, advance, within, marked, marked_first}
use Rattle.stream.proofs.Logic.{tests}
use Rattle.stream.proofs.Words.{Small, word_at, word_of, not-clear, value-words, words-num}
use Rattle.stream.proofs.Moves.{held, pushes-at-once}
use Rattle.stream.proofs.Digits.{or-bit}
use Rattle.stream.proofs.Bits.{even, double, below, added, added-lt, none}

-- 1. What rests on the form of the history. L is at most the greatest window. The words hold the bits below 512.
stored-bit : (k v : ℕ) → k < window_most → bit k (holding v) ≡ bit_of k v
unfolding bit
stored-bit k v a = ap (bit_of k) (value-words 8 v) ∙ below k window_most v a

same-is : (v w : History) → same v w ≡ true → v ≡ w
unfolding same
same-is [] [] e = refl
same-is [] (w ∷ ws) e = cc
same-is (v ∷ vs) [] e = cc
same-is (v ∷ vs) (w ∷ ws) e = let p = simp tests at e in rw (p.0, same-is vs ws p.1)

pub empty-is : is_empty empty ≡ true
unfolding is_empty same
empty-is = refl

pub is-empty : (h : History) → is_empty h ≡ true → h ≡ empty
unfolding is_empty
is-empty h e = same-is h empty e

pub no_value : value empty ≡ 0
unfolding value
no_value = refl

no_words : words_of 8 0 ≡ empty
unfolding words_of
no_words = refl

-- eight words that are clear are the empty history
pub empty-clear : (h : History) → Small h → length h ≡ 8 → is_empty h ≡ within (64 * 0) h
unfolding within
empty-clear h s e = go (ltb (value h) (2 ^ (64 * 0))) refl
  where
    other : (v : Bool) → is_empty h ≡ v → ltb (value h) (2 ^ (64 * 0)) ≡ false → is_empty h ≡ false
    other false p q = p
    other true p q = let z : value h ≡ 0 = ap value (is-empty h p) ∙ no_value in let c : ltb (value h) 1 ≡ true = lt-ltb (value h) 1 (omega arith) in cc

    go : (v : Bool) → ltb (value h) (2 ^ (64 * 0)) ≡ v → is_empty h ≡ ltb (value h) (2 ^ (64 * 0))
    go true p =
        let z : value h < 1 = ltb-true (value h) 1 p in
        let none : value h ≡ 0 = omega arith in
        let all : h ≡ empty = sym (words-num h s) ∙ ap₂ words_of e none ∙ no_words in
        rw p (ap is_empty all ∙ empty-is)
    go false p = rw p (other (is_empty h) refl p)

-- with a first word that is zero, and with one that is not
pub first-not : (h : History) → Small h → length h ≡ 8 → (get_or h 0 0 ≡ 0 → ⊥) → is_empty h ≡ false
unfolding within
first-not h s e n = empty-clear h s e ∙ le-ltb (value h) (2 ^ (64 * 0)) (not-clear h s 0 0 (omega arith) n)

pub first-empty : (h : History) → Small h → length h ≡ 8 → get_or h 0 0 ≡ 0 → within 64 h ≡ is_empty h
unfolding within word_at
first-empty h s e z = go (ltb (value h) (2 ^ 64)) refl ∙ sym (empty-clear h s e)
  where
    go : (v : Bool) → ltb (value h) (2 ^ 64) ≡ v → ltb (value h) (2 ^ 64) ≡ ltb (value h) (2 ^ (64 * 0))
    go true p =
        let l : value h < 2 ^ 64 = ltb-true (value h) (2 ^ 64) p in
        let w : value h / 2 ^ (64 * 0) % 2 ^ 64 ≡ get_or h 0 0 = word_of h s 0 in
        let none : value h < 1 = omega (arith, w) in
        p ∙ sym (lt-ltb (value h) 1 none)
    go false p =
        let l : 2 ^ 64 ≤ value h = ltb-false (value h) (2 ^ 64) p in
        let some : 2 ^ (64 * 0) ≤ value h = omega arith in
        p ∙ sym (le-ltb (value h) (2 ^ (64 * 0)) some)

pub empty-bit : (k : ℕ) → bit k empty ≡ false
unfolding bit value
empty-bit k = none k

pub single-bit : (k : ℕ) → bit k single ≡ eqb k 0
unfolding bit value
single-bit zero = added 0 0 0 (none 0)
single-bit (suc k) = added 0 (suc k) 0 (none 0) ∙ rw (eqb-suc-zero, none (suc k))

module _ (l : ℕ) (most : l ≤ window_most) where
  pub single-within : 0 < l → within l single ≡ true
  unfolding within value
  single-within a = lt-ltb 1 (2 ^ l) (pow-lt a)

  keep : (v : ℕ) → v < 2 ^ l → within l (holding v) ≡ true
  unfolding within
  keep v a = rw (held l v most a) (lt-ltb v (2 ^ l) a)

  set-clear : (k j : ℕ) (h : History) → j < l → bit k h ≡ false → bit j (holding (value h + 2 ^ k)) ≡ eqb j k || bit j h
  unfolding bit
  set-clear k j h b e = stored-bit j (value h + 2 ^ k) (omega arith) ∙ added k j (value h) e

  keep-clear : (k : ℕ) (h : History) → k < l → within l h ≡ true → bit k h ≡ false → within l (holding (value h + 2 ^ k)) ≡ true
  unfolding bit within
  keep-clear k h a b e = keep (value h + 2 ^ k) (added-lt k l (value h) a (ltb-true (value h) (2 ^ l) b) e)

  pub set-bit : (k j : ℕ) (h : History) → k < l → j < l → bit j (set_bit k h) ≡ eqb j k || bit j h
  unfolding set_bit
  set-bit k j h a b = go (bit k h) refl
    where
      there : bit k h ≡ true → (v : Bool) → eqb j k ≡ v → bit j h ≡ v || bit j h
      there e true p = let q : j ≡ k = eqb-true j k p in rw q e
      there e false p = refl

      go : (v : Bool) → bit k h ≡ v → bit j (if bit k h then h else holding (value h + 2 ^ k)) ≡ eqb j k || bit j h
      go true e = rw e (there e (eqb j k) refl)
      go false e = rw e (set-clear k j h b e)

  pub set-within : (k : ℕ) (h : History) → k < l → within l h ≡ true → within l (set_bit k h) ≡ true
  unfolding set_bit
  set-within k h a b = go (bit k h) refl
    where
      go : (v : Bool) → bit k h ≡ v → within l (if bit k h then h else holding (value h + 2 ^ k)) ≡ true
      go true e = rw e b
      go false e = rw e (keep-clear k h a b e)

  push-zero : (h : History) → 0 < l → bit 0 (push l h) ≡ false
  unfolding push
  push-zero h b = stored-bit 0 (value h * 2 % 2 ^ l) (omega arith) ∙ below 0 l (value h * 2) b ∙ even (value h)

  push-suc : (m : ℕ) (h : History) → suc m < l → bit (suc m) (push l h) ≡ bit m h
  unfolding push bit
  push-suc m h b =
      stored-bit (suc m) (value h * 2 % 2 ^ l) (omega arith) ∙ below (suc m) l (value h * 2) b ∙ double m (value h)

  push-within : (h : History) → within l (push l h) ≡ true
  unfolding push
  push-within h = keep (value h * 2 % 2 ^ l) (mod-lt (value h * 2) (pow_pos l))

  -- 2. What follows from that. After d places up the bit at m stands at m + d,
  pushes-high : (d : ℕ) (h : History) (m : ℕ) → m + d < l → bit (m + d) (pushes l d h) ≡ bit m h
  unfolding pushes
  pushes-high zero h m b = rw add-zero
  pushes-high (suc d) h m b =
      ap (λ (n : ℕ). bit n (pushes l d (push l h))) (omega arith) ∙ pushes-high d (push l h) (suc m) (omega arith)
      ∙ push-suc m h (omega arith)

  -- the places below d are clear,
  pushes-low : (d : ℕ) (h : History) (k : ℕ) → k < d → k < l → bit k (pushes l d h) ≡ false
  unfolding pushes
  pushes-low zero h k b c = absurd (omega arith)
  pushes-low (suc d) h k b c = elim (dec_lt k d) [
    | yes a ↦ pushes-low d (push l h) k a c
    | no n ↦
        let p : k ≡ 0 + d = omega arith in
        rw p (pushes-high d (push l h) 0 (omega arith) ∙ push-zero h (omega arith))
  ]

  -- and nothing stands at L or above.
  pushes-within : (d : ℕ) (h : History) → 0 < d → within l (pushes l d h) ≡ true
  unfolding pushes
  pushes-within zero h a = absurd (omega arith)
  pushes-within (suc zero) h a = push-within h
  pushes-within (suc (suc d)) h a = pushes-within (suc d) (push l h) (omega arith)

  pub advance-zero : (d : ℕ) (h : History) → 0 < l → bit 0 (advance l d h) ≡ true
  unfolding advance
  advance-zero d h b = set-bit 0 0 (pushes l d h) b b

  pub advance-low : (d : ℕ) (h : History) (k : ℕ) → 0 < k → k < d → k < l → bit k (advance l d h) ≡ false
  unfolding advance
  advance-low d h k a b c =
      set-bit 0 k (pushes l d h) (omega arith) c
      ∙ rw (ne_eqb k 0 (omega arith), pushes-low d h k b c)

  pub advance-high : (d : ℕ) (h : History) (m : ℕ) → 0 < d → m + d < l → bit (m + d) (advance l d h) ≡ bit m h
  unfolding advance
  advance-high d h m a b =
      set-bit 0 (m + d) (pushes l d h) (omega arith) b
      ∙ rw (ne_eqb (m + d) 0 (omega arith), pushes-high d h m b)

  pub advance-within : (d : ℕ) (h : History) → 0 < d → 0 < l → within l (advance l d h) ≡ true
  unfolding advance
  advance-within d h a b = set-within 0 (pushes l d h) b (pushes-within d h a)

-- 3. Marked in one go.
pub marked-late : (l k : ℕ) (h : History) → marked l 0 k h ≡ set_bit k h
unfolding marked pushes
marked-late l k h = refl

pub marked_next : (l d : ℕ) (h : History) → marked l d 0 h ≡ advance l d h
unfolding marked advance
marked_next l d h = refl

pub marked-first : (l : ℕ) → marked l 0 0 empty ≡ single
unfolding marked pushes set_bit bit bit_of value words_of
marked-first l = refl

-- In a window of at most a word the words above the first are clear before and after.
module _ (l : ℕ) (word : l ≤ 64) (h : History) (clear : value h < 2 ^ l) where
  abbrev shifted : ℕ → ℕ
  shifted d = value h * 2 ^ d % 2 ^ l

  first_alone : (d k : ℕ) → marked_first l d k h ≡ holding (if bit_of k (shifted d) then shifted d else shifted d + 2 ^ k)
  unfolding marked_first
  first_alone d k =
      let z : value h / 2 ^ 64 ≡ 0 = div-eq_of_lt (lt_of_lt_of_le clear (pow_mono word)) in
      ap holding (ap (λ (x : ℕ). bit_or (shifted d) (2 ^ k) + 2 ^ 64 * x) z ∙ add-zero (bit_or (shifted d) (2 ^ k)) ∙ or-bit (shifted d) k)

  set-held : (k v : ℕ) → value (holding v) ≡ v → set_bit k (holding v) ≡ holding (if bit_of k v then v else v + 2 ^ k)
  unfolding set_bit bit
  set-held k v e = rw e (go (bit_of k v))
    where
      go : (b : Bool) → (if b then holding v else holding (v + 2 ^ k)) ≡ holding (if b then v else v + 2 ^ k)
      go true = refl
      go false = refl

  pub marked-up : (d k : ℕ) → 1 ≤ d → marked_first l d k h ≡ marked l d k h
  unfolding marked
  marked-up d k p =
      let most : l ≤ window_most = omega arith in
      first_alone d k
      ∙ sym (ap (set_bit k) (pushes-at-once l d h most p) ∙ set-held k (shifted d) (held l (shifted d) most (mod-lt (value h * 2 ^ d) (pow_pos l))))

  pub marked-there : (k : ℕ) → bit k h ≡ false → marked_first l 0 k h ≡ marked l 0 k h
  unfolding marked pushes set_bit bit
  marked-there k e =
      let same : shifted 0 ≡ value h = ap (λ (x : ℕ). x % 2 ^ l) (mul-one (value h)) ∙ mod-eq_of_lt clear in
      first_alone 0 k ∙ rw (same, e)
