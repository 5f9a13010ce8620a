-- Words and their number, over any number of words. Assumes nothing.
use Rattle.std.proofs.Common.{◌≡◌, ℕ, zero, suc, ◌+◌, ◌-◌, ◌*◌, ◌/◌, ◌%◌, ◌^◌, ◌<◌, ◌≤◌, Bool, true, false, eqb, ltb, List, [], ◌∷◌, length, get_or, set, replicate, sym, refl, ap, ◌∙◌, subst, ap₂, lt_of_lt_of_le, mod-eq_of_lt, mul_assoc, mul_comm, add_comm, arith, length-set, get_or-set_other, get_or-set_same, pow_pos, pow_mono, pow-add, shr-shr, shr_lt, ltb-true, lt-ltb, eq-eqb, eqb-true}
use Rattle.std.proofs.Common.{fold, IsTrue, EachIndex, ◌↔◌, take, drop, length-drop}
use Rattle.std.proofs.lemmas.List.{get_or-drop, take_all}
use native.Mathlib.Nat.{div-eq_of_lt, mod-one, zero-div}
use native.Mathlib.Decide.{ℕ_discrete, dec_lt}
use lib.Bits.{bit_or, bit_and, or_add_and, or_zero_l, and_le_l, and_le_r}
use lib.Pow.{field, mod-mod-pow, mod-pow-add}
use lib.Seq.{set-get_or}
use Rattle.std.specs.Prelude.{if◌then◌else◌}
use Rattle.stream.specs.History.{value, words_of, bit_of}
use Rattle.stream.proofs.Bits.{added-lt}
use Rattle.stream.proofs.Digits.{or-bit, one_shl}

-- each word is one of 64 bits
abbrev pub Small : List ℕ → Type 0
Small ws = (i : ℕ) → get_or ws i 0 < 2 ^ 64

-- a number's word i, also beyond its last
unfoldable pub word_at : ℕ → ℕ → ℕ
word_at h i = h / 2 ^ (64 * i) % 2 ^ 64

pub word-suc : (h i : ℕ) → word_at h (suc i) ≡ word_at (h / 2 ^ 64) i
unfolding word_at
word-suc h i =
    let more : 64 * suc i ≡ 64 + 64 * i = omega arith in
    ap (λ (n : ℕ). h / 2 ^ n % 2 ^ 64) more ∙ ap (λ (x : ℕ). x % 2 ^ 64) (sym (shr-shr h 64 (64 * i)))

pub word_of : (ws : List ℕ) → Small ws → (i : ℕ) → word_at (value ws) i ≡ get_or ws i 0
unfolding word_at value
word_of [] s i = ap (λ (x : ℕ). x % 2 ^ 64) (zero-div (2 ^ (64 * i)))
word_of (w ∷ ws) s zero = let p : w < 2 ^ 64 = s 0 in omega arith
word_of (w ∷ ws) s (suc i) =
    let p : w < 2 ^ 64 = s 0 in
    let rest : (w + 2 ^ 64 * value ws) / 2 ^ 64 ≡ value ws = omega arith in
    word-suc (w + 2 ^ 64 * value ws) i ∙ ap (λ (x : ℕ). word_at x i) rest ∙ word_of ws (λ k. s (suc k)) i

pub words-at : (n h i : ℕ) → i < n → get_or (words_of n h) i 0 ≡ word_at h i
unfolding words_of word_at
words-at zero h i p = absurd (omega arith)
words-at (suc n) h zero p = omega arith
words-at (suc n) h (suc i) p = words-at n (h / 2 ^ 64) i (omega arith) ∙ sym (word-suc h i)

pub words-length : (n h : ℕ) → length (words_of n h) ≡ n
unfolding words_of
words-length zero h = refl
words-length (suc n) h = ap suc (words-length n (h / 2 ^ 64))

-- the words of a number's words
pub words-num : (ws : List ℕ) → Small ws → words_of (length ws) (value ws) ≡ ws
unfolding words_of value
words-num [] s = refl
words-num (w ∷ ws) s =
    let p : w < 2 ^ 64 = s 0 in
    let low : (w + 2 ^ 64 * value ws) % 2 ^ 64 ≡ w = omega arith in
    let rest : (w + 2 ^ 64 * value ws) / 2 ^ 64 ≡ value ws = omega arith in
    ap₂ ◌∷◌ low (ap (words_of (length ws)) rest ∙ words-num ws (λ k. s (suc k)))

-- n words hold a number modulo 2 ^ 64n
pub value-words : (n v : ℕ) → value (words_of n v) ≡ v % 2 ^ (64 * n)
unfolding value words_of
value-words zero v = sym (mod-one v)
value-words (suc n) v =
    let more : 64 * n + 64 ≡ 64 * suc n = omega arith in
    ap (λ (m : ℕ). v % 2 ^ 64 + 2 ^ 64 * m) (value-words n (v / 2 ^ 64))
    ∙ add_comm (v % 2 ^ 64) (2 ^ 64 * (v / 2 ^ 64 % 2 ^ (64 * n)))
    ∙ ap (λ (m : ℕ). m + v % 2 ^ 64) (mul_comm (2 ^ 64) (v / 2 ^ 64 % 2 ^ (64 * n)))
    ∙ sym (mod-pow-add v (64 * n) 64) ∙ ap (λ (m : ℕ). v % 2 ^ m) more

-- one bit
bit-mod : (h l k : ℕ) → k < l → h % 2 ^ l / 2 ^ k % 2 ≡ h / 2 ^ k % 2
bit-mod h l k p =
    let whole : l ≡ l - k - 1 + 1 + k = omega arith in
    ap (λ (n : ℕ). h % 2 ^ n / 2 ^ k % 2) whole ∙ ap (λ (x : ℕ). x % 2) (field h (l - k - 1 + 1) k) ∙ mod-mod-pow (h / 2 ^ k) (l - k - 1) 1

pub bit_word : (ws : List ℕ) → Small ws → (k : ℕ) → get_or ws (k / 64) 0 / 2 ^ (k % 64) % 2 ≡ value ws / 2 ^ k % 2
unfolding word_at
bit_word ws s k =
    let whole : 64 * (k / 64) + k % 64 ≡ k = omega arith in
    let small : k % 64 < 64 = omega arith in
    ap (λ (x : ℕ). x / 2 ^ (k % 64) % 2) (sym (word_of ws s (k / 64)))
    ∙ bit-mod (value ws / 2 ^ (64 * (k / 64))) 64 (k % 64) small
    ∙ ap (λ (x : ℕ). x % 2) (shr-shr (value ws) (64 * (k / 64)) (k % 64))
    ∙ ap (λ (n : ℕ). value ws / 2 ^ n % 2) whole

pub bit-same : (ws : List ℕ) → Small ws → (k : ℕ) → bit_of (k % 64) (get_or ws (k / 64) 0) ≡ bit_of k (value ws)
unfolding bit_of
bit-same ws s k = ap (λ (x : ℕ). eqb x 1) (bit_word ws s k)

-- zeros from word i on
pub clear-lt : (ws : List ℕ) → Small ws → (i : ℕ) → ((k : ℕ) → i ≤ k → get_or ws k 0 ≡ 0) → value ws < 2 ^ (64 * i)
unfolding value
clear-lt [] s i z = pow_pos (64 * i)
clear-lt (w ∷ ws) s zero z =
    let a : w ≡ 0 = z 0 (omega arith) in
    let b : value ws < 1 = clear-lt ws (λ k. s (suc k)) 0 (λ k p. z (suc k) (omega arith)) in
    omega arith
clear-lt (w ∷ ws) s (suc i) z =
    let a : w < 2 ^ 64 = s 0 in
    let b : value ws < 2 ^ (64 * i) = clear-lt ws (λ k. s (suc k)) i (λ k p. z (suc k) (omega arith)) in
    let more : 64 * suc i ≡ 64 + 64 * i = omega arith in
    let power : 2 ^ (64 * suc i) ≡ 2 ^ 64 * 2 ^ (64 * i) = ap (λ (n : ℕ). 2 ^ n) more ∙ pow-add 2 64 (64 * i) in
    omega (arith, power)

pub lt-clear : (ws : List ℕ) → Small ws → (i k : ℕ) → value ws < 2 ^ (64 * i) → i ≤ k → get_or ws k 0 ≡ 0
unfolding word_at
lt-clear ws s i k p q =
    let less : 64 * i ≤ 64 * k = omega arith in
    sym (word_of ws s k) ∙ ap (λ (x : ℕ). x % 2 ^ 64) (div-eq_of_lt (lt_of_lt_of_le p (pow_mono less)))

pub not-clear : (ws : List ℕ) → Small ws → (i k : ℕ) → i ≤ k → (get_or ws k 0 ≡ 0 → ⊥) → 2 ^ (64 * i) ≤ value ws
not-clear ws s i k q n = elim (dec_lt (value ws) (2 ^ (64 * i))) [
  | yes p ↦ absurd (n (lt-clear ws s i k p q))
  | no p ↦ omega arith
]

pub beyond : (ws : List ℕ) (k : ℕ) → length ws ≤ k → get_or ws k 0 ≡ 0
beyond [] k p = refl
beyond (w ∷ ws) zero p = absurd (omega arith)
beyond (w ∷ ws) (suc k) p = beyond ws k (omega arith)

-- a test of the words from word i on
all-clear : (ws : List ℕ) → Small ws → (i : ℕ) (b : Bool) → IsTrue b ↔ EachIndex (drop i ws) (λ k. get_or (drop i ws) k 0 ≡ 0)
    → b ≡ ltb (value ws) (2 ^ (64 * i))
all-clear ws s i true e = sym (lt-ltb (value ws) (2 ^ (64 * i)) (clear-lt ws s i (λ k p. each k p (dec_lt k (length ws)))))
  where
    each : (k : ℕ) → i ≤ k → Dec (k < length ws) → get_or ws k 0 ≡ 0
    each k p (yes q) =
        let place : i + (k - i) ≡ k = omega arith in
        let inside : k - i < length (drop i ws) = omega (arith, length-drop i ws) in
        ap (λ (j : ℕ). get_or ws j 0) (sym place) ∙ sym (get_or-drop i ws (k - i) 0) ∙ e.0 refl (k - i) inside
    each k p (no q) = beyond ws k (omega arith)
all-clear ws s i false e = go (ltb (value ws) (2 ^ (64 * i))) refl
  where
    go : (v : Bool) → ltb (value ws) (2 ^ (64 * i)) ≡ v → false ≡ v
    go false l = refl
    go true l = e.1 (λ k p. get_or-drop i ws k 0 ∙ lt-clear ws s i (i + k) (ltb-true (value ws) (2 ^ (64 * i)) l) (omega arith))

pub rest-clear : (ws : List ℕ) → Small ws → (n i : ℕ) (b : Bool) → length ws ≡ n
    → IsTrue b ↔ EachIndex (take (n - i) (drop i ws)) (λ k. get_or (take (n - i) (drop i ws)) k 0 ≡ 0)
    → b ≡ ltb (value ws) (2 ^ (64 * i))
rest-clear ws s n i b long e =
    let all : take (n - i) (drop i ws) ≡ drop i ws = take_all (n - i) (drop i ws) (omega (arith, length-drop i ws)) in
    all-clear ws s i b (subst (λ (l : List ℕ). IsTrue b ↔ EachIndex l (λ k. get_or l k 0 ≡ 0)) all e)

-- the word that a number ends in, from place r on
pub last_word : (ws : List ℕ) → Small ws → (i r : ℕ) → value ws < 2 ^ (64 * (i + 1)) → get_or ws i 0 / 2 ^ r ≡ value ws / 2 ^ (64 * i + r)
unfolding word_at
last_word ws s i r p =
    let more : 64 * (i + 1) ≡ 64 + 64 * i = omega arith in
    let small : value ws / 2 ^ (64 * i) < 2 ^ 64 = shr_lt 64 (64 * i) (subst (λ (n : ℕ). value ws < 2 ^ n) more p) in
    ap (λ (x : ℕ). x / 2 ^ r) (sym (word_of ws s i) ∙ mod-eq_of_lt small) ∙ shr-shr (value ws) (64 * i) r

-- one word changed by a
pub num-set : (h : List ℕ) (i a : ℕ) → i < length h → value (set h i (get_or h i 0 + a)) ≡ value h + a * 2 ^ (64 * i)
unfolding value
num-set [] i a p = absurd (omega arith)
num-set (w ∷ ws) zero a p = omega arith
num-set (w ∷ ws) (suc i) a p =
    let q : i < length ws = omega arith in
    let more : 64 * suc i ≡ 64 + 64 * i = omega arith in
    let power : a * 2 ^ (64 * suc i) ≡ 2 ^ 64 * (a * 2 ^ (64 * i)) =
    ap (λ (n : ℕ). a * 2 ^ n) more ∙ ap (λ (x : ℕ). a * x) (pow-add 2 64 (64 * i)) ∙ swap a (2 ^ 64) (2 ^ (64 * i)) in
    let rest = num-set ws i a q in
    omega (arith, rest, power)
  where
    swap : (x y z : ℕ) → x * (y * z) ≡ y * (x * z)
    swap x y z = sym (mul_assoc x y z) ∙ ap (λ (m : ℕ). m * z) (mul_comm x y) ∙ mul_assoc y x z

pub small-set : (h : List ℕ) → Small h → (i v : ℕ) → i < length h → v < 2 ^ 64 → Small (set h i v)
small-set h s i v q p k = go (ℕ_discrete k i)
  where
    go : Dec (k ≡ i) → get_or (set h i v) k 0 < 2 ^ 64
    go (yes e) = rw e (rw (get_or-set_same h i v 0 q) p)
    go (no e) = rw (get_or-set_other h i k v 0 e) (s k)

-- one bit set, in its word and in the number
module _ (h : List ℕ) (s : Small h) (n k : ℕ) (long : length h ≡ n) (inside : k < 64 * n) where
  in_list : k / 64 < length h
  in_list = omega arith

  pub set_word : set h (k / 64) (bit_or (get_or h (k / 64) 0) ((1 * 2 ^ (k % 64)) % 2 ^ 64)) ≡ (if bit_of k (value h) then h else words_of n (value h + 2 ^ k))
  set_word = ap (set h (k / 64)) (ap (bit_or (get_or h (k / 64) 0)) (one_shl (k % 64) small) ∙ or-bit (get_or h (k / 64) 0) (k % 64)) ∙ go (bit_of (k % 64) (get_or h (k / 64) 0)) refl
    where
      small : k % 64 < 64
      small = omega arith

      go : (v : Bool) → bit_of (k % 64) (get_or h (k / 64) 0) ≡ v
          → set h (k / 64) (if bit_of (k % 64) (get_or h (k / 64) 0) then get_or h (k / 64) 0 else get_or h (k / 64) 0 + 2 ^ (k % 64)) ≡ (if bit_of k (value h) then h else words_of n (value h + 2 ^ k))
      go true e = rw (sym (bit-same h s k) ∙ e, e) (set-get_or h (k / 64) 0)
      go false e =
          let w : ℕ = get_or h (k / 64) 0 in
          let l : List ℕ = set h (k / 64) (w + 2 ^ (k % 64)) in
          let whole : k % 64 + 64 * (k / 64) ≡ k = omega arith in
          let fits : w + 2 ^ (k % 64) < 2 ^ 64 = added-lt (k % 64) 64 w small (s (k / 64)) e in
          let sum : value l ≡ value h + 2 ^ k =
          num-set h (k / 64) (2 ^ (k % 64)) in_list
          ∙ ap (λ (x : ℕ). value h + x) (sym (pow-add 2 (k % 64) (64 * (k / 64))) ∙ ap (λ (m : ℕ). 2 ^ m) whole) in
          rw (sym (bit-same h s k) ∙ e, e) (sym (words-num l (small-set h s (k / 64) (w + 2 ^ (k % 64)) in_list fits))
          ∙ ap₂ words_of (length-set h (k / 64) (w + 2 ^ (k % 64)) ∙ long) sum)

-- the first word is another, and the others stay
pub set_first : (h : List ℕ) → Small h → (n v : ℕ) → length h ≡ suc n → v < 2 ^ 64 → set h 0 v ≡ words_of (suc n) (v + 2 ^ 64 * (value h / 2 ^ 64))
unfolding value words_of
set_first [] s n v long p = absurd (omega arith)
set_first (w ∷ ws) s n v long p =
    let q : w < 2 ^ 64 = s 0 in
    let rest : (w + 2 ^ 64 * value ws) / 2 ^ 64 ≡ value ws = omega arith in
    let others : length ws ≡ n = omega arith in
    let low : (v + 2 ^ 64 * value ws) % 2 ^ 64 ≡ v = omega arith in
    let high : (v + 2 ^ 64 * value ws) / 2 ^ 64 ≡ value ws = omega arith in
    sym (rw rest (ap₂ ◌∷◌ low (ap (words_of n) high ∙ ap (λ (m : ℕ). words_of m (value ws)) (sym others) ∙ words-num ws (λ k. s (suc k)))))

-- a list by its places
unfoldable pub tab : ℕ → (ℕ → ℕ) → List ℕ
tab zero f = []
tab (suc n) f = f 0 ∷ tab n (λ i. f (suc i))

tab-is : (ws : List ℕ) → tab (length ws) (λ i. get_or ws i 0) ≡ ws
unfolding tab
tab-is [] = refl
tab-is (w ∷ ws) = ap (λ (l : List ℕ). w ∷ l) (tab-is ws)

pub tab-of : (n : ℕ) (ws : List ℕ) → length ws ≡ n → tab n (λ i. get_or ws i 0) ≡ ws
tab-of n ws e = ap (λ (m : ℕ). tab m (λ i. get_or ws i 0)) (sym e) ∙ tab-is ws

pub tab-same : (n : ℕ) (f g : ℕ → ℕ) → ((i : ℕ) → i < n → f i ≡ g i) → tab n f ≡ tab n g
unfolding tab
tab-same zero f g e = refl
tab-same (suc n) f g e = ap₂ ◌∷◌ (e 0 (omega arith)) (tab-same n (λ i. f (suc i)) (λ i. g (suc i)) (λ i p. e (suc i) (omega arith)))

-- words, each as a number has it
pub words-tab : (n x : ℕ) (f : ℕ → ℕ) → ((i : ℕ) → i < n → get_or (words_of n x) i 0 ≡ f i) → tab n f ≡ words_of n x
words-tab n x f e = tab-same n f (λ i. get_or (words_of n x) i 0) (λ i p. sym (e i p)) ∙ tab-of n (words_of n x) (words-length n x)

-- one of them changed
pub tab-set : (h : List ℕ) (n j v : ℕ) (f : ℕ → ℕ) → length h ≡ n → j < n → f j ≡ v → ((i : ℕ) → (i ≡ j → ⊥) → f i ≡ get_or h i 0) → tab n f ≡ set h j v
tab-set h n j v f e l a b = tab-same n f (λ i. get_or (set h j v) i 0) (λ i p. go i (ℕ_discrete i j)) ∙ tab-of n (set h j v) (length-set h j v ∙ e)
  where
    here : j < length h
    here = omega arith

    go : (i : ℕ) → Dec (i ≡ j) → f i ≡ get_or (set h j v) i 0
    go i (yes q) = rw q (a ∙ sym (get_or-set_same h j v 0 here))
    go i (no q) = b i q ∙ sym (get_or-set_other h j i v 0 q)

-- words joined by `or` are zero exactly if each is
or-none : (a b : ℕ) → bit_or a b ≡ 0 → (a ≡ 0) × (b ≡ 0)
or-none a b e =
    let s : bit_or a b + bit_and a b ≡ a + b = or_add_and a b in
    let l : bit_and a b ≤ a = and_le_l a b in
    let r : bit_and a b ≤ b = and_le_r a b in
    (omega (arith, s, l, r, e), omega (arith, s, l, r, e))

ors-none : (a : ℕ) (ws : List ℕ) → fold bit_or a ws ≡ 0 → (a ≡ 0) × ((i : ℕ) → get_or ws i 0 ≡ 0)
ors-none a [] e = (e, λ i. refl)
ors-none a (w ∷ ws) e =
    let rest = ors-none (bit_or a w) ws e in
    let first = or-none a w rest.0 in
    (first.0, at w ws first.1 rest.1)
  where
    at : (v : ℕ) (vs : List ℕ) → v ≡ 0 → ((i : ℕ) → get_or vs i 0 ≡ 0) → (i : ℕ) → get_or (v ∷ vs) i 0 ≡ 0
    at v vs p q zero = p
    at v vs p q (suc i) = q i

ors-clear : (ws : List ℕ) → ((i : ℕ) → get_or ws i 0 ≡ 0) → fold bit_or 0 ws ≡ 0
ors-clear [] z = refl
ors-clear (w ∷ ws) z = ap (λ (x : ℕ). fold bit_or x ws) (or_zero_l w ∙ z 0) ∙ ors-clear ws (λ i. z (suc i))

-- no bit is set above the first word
pub above-none : (w : ℕ) (ws : List ℕ) → Small (w ∷ ws) → eqb (fold bit_or 0 ws) 0 ≡ ltb (value (w ∷ ws)) (2 ^ 64)
above-none w ws s = go (ltb (value (w ∷ ws)) (2 ^ 64)) refl
  where
    clear : ((i : ℕ) → get_or ws i 0 ≡ 0) → (k : ℕ) → 1 ≤ k → get_or (w ∷ ws) k 0 ≡ 0
    clear z zero p = absurd (omega arith)
    clear z (suc k) p = z k

    other : (v : Bool) → eqb (fold bit_or 0 ws) 0 ≡ v → ltb (value (w ∷ ws)) (2 ^ 64) ≡ false → eqb (fold bit_or 0 ws) 0 ≡ false
    other false e p = e
    other true e p =
        let z = ors-none 0 ws (eqb-true (fold bit_or 0 ws) 0 e) in
        let l : value (w ∷ ws) < 2 ^ (64 * 1) = clear-lt (w ∷ ws) s 1 (clear z.1) in
        let q : ltb (value (w ∷ ws)) (2 ^ 64) ≡ true = lt-ltb (value (w ∷ ws)) (2 ^ 64) l in
        cc

    go : (v : Bool) → ltb (value (w ∷ ws)) (2 ^ 64) ≡ v → eqb (fold bit_or 0 ws) 0 ≡ ltb (value (w ∷ ws)) (2 ^ 64)
    go true p =
        let l : value (w ∷ ws) < 2 ^ (64 * 1) = ltb-true (value (w ∷ ws)) (2 ^ 64) p in
        rw p (eq-eqb (fold bit_or 0 ws) 0 (ors-clear ws (λ i. lt-clear (w ∷ ws) s 1 (suc i) l (omega arith))))
    go false p = other (eqb (fold bit_or 0 ws) 0) refl p ∙ sym p

-- a number of one word: the word, and zeros above it
pub one_word : (n v : ℕ) → v < 2 ^ 64 → words_of (suc n) v ≡ v ∷ replicate n 0
unfolding words_of
one_word n v p = ap₂ ◌∷◌ (mod-eq_of_lt p) (ap (words_of n) (div-eq_of_lt p) ∙ none n)
  where
    none : (m : ℕ) → words_of m 0 ≡ replicate m 0
    none zero = refl
    none (suc m) = ap₂ ◌∷◌ refl (none m)

-- n words hold a number below 2 ^ 64n, and are those of it
pub all_held : (n : ℕ) (h : List ℕ) → Small h → length h ≡ n → value h < 2 ^ (64 * n)
all_held n h s e = clear-lt h s n (λ k p. beyond h k (omega arith))

pub as-held : (n : ℕ) (h : List ℕ) → Small h → length h ≡ n → h ≡ words_of n (value h % 2 ^ (64 * n))
as-held n h s e = sym (ap (words_of n) (mod-eq_of_lt (all_held n h s e)) ∙ ap (λ (m : ℕ). words_of m (value h)) (sym e) ∙ words-num h s)

-- words that hold a number, cut
pub cut_up : (n x w : ℕ) → w ≤ 64 * n → words_of n (value (words_of n x) % 2 ^ w) ≡ words_of n (x % 2 ^ w)
cut_up n x w p =
    let whole : 64 * n ≡ 64 * n - w + w = omega arith in
    ap (λ (v : ℕ). words_of n (v % 2 ^ w)) (value-words n x ∙ ap (λ (m : ℕ). x % 2 ^ m) whole)
    ∙ ap (words_of n) (mod-mod-pow x (64 * n - w) w)
