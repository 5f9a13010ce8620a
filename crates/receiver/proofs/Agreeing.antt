-- Order 9: the tests that the code makes are the agreement's. Assumes nothing.
use Prim.Native.Nat.{ℕ, zero, suc, ◌+◌, ◌-◌, ◌^◌, ◌%◌, ◌≤◌, ◌<◌}
use mathlib.Core.Path.{◌≡◌, refl, ap, sym, ◌∙◌}
use mathlib.Core.Bool.{Bool, true, false, not, ◌&&◌, ◌||◌, cond, false≢true, and-eq-true_iff}
use native.Mathlib.Decide.{dec_lt}
use native.Mathlib.Omega.{arith}
use lib.Dec.{eqb, ltb, leb}
use lib.ListN.{length, get_or}
use mathlib.Core.List.{[], ◌∷◌}
use mathlib.Core.Path.{subst}
use Rattle.std.specs.List.{list_all, range_with_len, enumerate_from}
use Rattle.record.specs.declared.Stream.{Stream}
use denote.Ref.{Bor}
use Rattle.std.specs.Option.{unwrap_or, option_map}
use Rattle.receiver.proofs.Lists.{some_then}
use borrow.Author.Tests.{le-leb, lt-leb, lt-ltb, le-ltb, eqb-true, ltb-false, eq-eqb, ne_eqb}
use Rattle.record.specs.Words as words
use Rattle.calls.specs.Table.{Table, at, blank}
use Rattle.std.specs.Prelude.{Option, Some, None}
use Rattle.calls.specs.declared.Key.{Key}
use Rattle.index.specs.Index.{key_of, used, keyed, Index, places, home, named, walk, follow, agrees_at, every_to, agrees}
use Rattle.receiver.specs.Seek.{place_as, holder_of, sure_from, sure_at, sure_in, sure_all, not_above, agrees_by}
use Rattle.index.proofs.Search.{key-own}
use Rattle.receiver.proofs.Lists.{one_more, get_d_past}

or_no : (a b : Bool) → (a || b) ≡ false → b ≡ false
or_no true b e = absurd (false≢true (sym e))
or_no false b e = e

-- What is sure is found at or below: the names before a slot's own are of lower slots.
module _ (ix : Index) (t : Table) (k : Key) (i : ℕ) (own : keyed k (at t i) ≡ true) where
  named-low : (v r : ℕ) → (eqb v (suc i) ≡ true) → named t k v r ≤ i
  unfolding named
  named-low zero r e = absurd (let z : 0 ≡ suc i = eqb-true 0 (suc i) e in omega (arith, z))
  named-low (suc j) r e = let z : suc j ≡ suc i = eqb-true (suc j) (suc i) e in let y : j ≡ i = omega (arith, z) in rw (y, own) (omega arith)

  named-lower : (v r : ℕ) → (eqb v 0 || ltb i v) ≡ false → r ≤ i → named t k v r ≤ i
  unfolding named
  named-lower zero r e l = absurd (false≢true (sym e))
  named-lower (suc j) r e l = go (keyed k (at t j)) refl
    where
      low : suc j ≤ i
      low = ltb-false i (suc j) (or_no (eqb (suc j) 0) (ltb i (suc j)) e)

      go : (b : Bool) → keyed k (at t j) ≡ b → cond (keyed k (at t j)) j r ≤ i
      go true q = rw q (omega (arith, low))
      go false q = rw q l

  pub sure-low : (n p : ℕ) → sure_from ix i n p ≡ true → walk ix t k n p ≤ i
  unfolding sure_from walk
  sure-low zero p h = absurd (false≢true h)
  sure-low (suc n) p h = go (eqb (get_or ix (p % places) 0) (suc i)) refl (eqb (get_or ix (p % places) 0) 0 || ltb i (get_or ix (p % places) 0)) refl h (sure-low n (suc p))
    where
      go : (a : Bool) → eqb (get_or ix (p % places) 0) (suc i) ≡ a → (b : Bool) → (eqb (get_or ix (p % places) 0) 0 || ltb i (get_or ix (p % places) 0)) ≡ b
          → cond a true (cond b false (sure_from ix i n (suc p))) ≡ true → (sure_from ix i n (suc p) ≡ true → walk ix t k n (suc p) ≤ i)
          → named t k (get_or ix (p % places) 0) (walk ix t k n (suc p)) ≤ i
      go true e b f h more = named-low (get_or ix (p % places) 0) (walk ix t k n (suc p)) e
      go false e true f h more = absurd (false≢true h)
      go false e false f h more = named-lower (get_or ix (p % places) 0) (walk ix t k n (suc p)) f (more h)

place_in : (t : Table) (m : ℕ) → m < length t → place_as t m ≡ Some m
unfolding place_as
place_in t m b = rw (lt-ltb m (length t) b)

place-past : (t : Table) (m : ℕ) → length t ≤ m → place_as t m ≡ None
unfolding place_as
place-past t m b = rw (le-ltb m (length t) b)

above_at : (j i : ℕ) → not_above (Some j) i ≡ leb j i
unfolding not_above
above_at j i = refl

above-none : (i : ℕ) → not_above None i ≡ false
unfolding not_above
above-none i = refl

and_no : (b : Bool) → (b && false) ≡ false
and_no true = refl
and_no false = refl

none-free : (k : Key) → Some k ≡ holder_of blank → ⊥
unfolding words.yes
none-free k g = let f : Some k ≡ None = g in cc

-- the key of a record that is there, and of none
pub holder-made : (o : Option (Bor Stream)) → some_then (λ s. holder_of s.now) o ≡ holder_of (unwrap_or (option_map (λ s. s.now) o) blank)
unfolding words.yes
holder-made None = refl
holder-made (Some s) = refl

-- ---- a slot
module _ (ix : Index) (t : Table) (i : ℕ) where
  pub sure-agrees : sure_in ix t i ≡ true → agrees_at ix t i ≡ true
  unfolding sure_in sure_at agrees_at follow
  sure-agrees h = go (words.yes (at t i).used) refl
    where
      go : (u : Bool) → words.yes (at t i).used ≡ u → (not (words.yes (at t i).used) || leb (walk ix t (key_of (at t i)) places (home (key_of (at t i)))) i) ≡ true
      go false e = rw e refl
      go true e =
          let f : sure_from ix i places (home (key_of (at t i))) ≡ true = rw e at h in
          rw (e, le-leb _ i (sure-low ix t (key_of (at t i)) i (key-own (at t i) e) places (home (key_of (at t i))) f)) refl

  pub sure-made : (h : Option Key) → h ≡ holder_of (get_or t i blank) → (r : Bool) → r ≡ sure_at ix h i → r ≡ sure_in ix t i
  unfolding sure_in
  sure-made h held r said = said ∙ ap (λ (x : Option Key). sure_at ix x i) held

  -- a slot that is not in use agrees, and one in use where following finds a slot that is not above it
  pub free-agrees : None ≡ holder_of (at t i) → true ≡ agrees_at ix t i
  unfolding agrees_at
  free-agrees h = go (used (at t i)) refl h
    where
      go : (u : Bool) → used (at t i) ≡ u → None ≡ cond (used (at t i)) (Some (key_of (at t i))) None
          → true ≡ (not (used (at t i)) || leb (follow ix t (key_of (at t i))) i)
      go false e h = rw e refl
      go true e h = let g : None ≡ Some (key_of (at t i)) = rw e at h in cc

  pub holds-within : (k : Key) → Some k ≡ holder_of (at t i) → i < length t
  holds-within k h = elim (dec_lt i (length t)) [
    | yes l ↦ l
    | no l ↦ absurd (let a : length t ≤ i = omega (arith, l) in let g : Some k ≡ holder_of blank = rw (get_d_past t i blank a) at h in none-free k g)
  ]

  -- a slot whose key is k
  key-agrees : (k : Key) → Some k ≡ holder_of (at t i) → leb (follow ix t k) i ≡ agrees_at ix t i
  unfolding agrees_at
  key-agrees k h = go (used (at t i)) refl h
    where
      go : (u : Bool) → used (at t i) ≡ u → Some k ≡ cond (used (at t i)) (Some (key_of (at t i))) None
          → leb (follow ix t k) i ≡ (not (used (at t i)) || leb (follow ix t (key_of (at t i))) i)
      go true e h = let g : Some k ≡ Some (key_of (at t i)) = rw e at h in let q : k ≡ key_of (at t i) = cc in rw (e, q) refl
      go false e h = let g : Some k ≡ None = rw e at h in cc

  pub follow-agrees : (h : Option Key) → h ≡ holder_of (get_or t i blank) → (f : Option ℕ) → ((k : Key) → h ≡ Some k → f ≡ place_as t (follow ix t k))
      → (r : Bool) → r ≡ agrees_by h f i → r ≡ agrees_at ix t i
  unfolding agrees_by
  follow-agrees None held f said r by = by ∙ free-agrees held
  follow-agrees (Some k) held f said r by =
      by ∙ ap (λ (g : Option ℕ). not_above g i) (said k refl) ∙ above (follow ix t k) ∙ key-agrees k held
    where
      l : i < length t
      l = holds-within k held

      above : (m : ℕ) → not_above (place_as t m) i ≡ leb m i
      above m = elim (dec_lt m (length t)) [
        | yes b ↦ ap (λ (g : Option ℕ). not_above g i) (place_in t m b) ∙ above_at m i
        | no b ↦ (let a : length t ≤ m = omega (arith, b) in ap (λ (g : Option ℕ). not_above g i) (place-past t m a) ∙ above-none i ∙ sym (lt-leb m i (omega (arith, a, l))))
      ]

-- ---- all slots, of any test
module _ (p : ℕ → Bool) where
  pub none_yet : (n : ℕ) → (0 ≤ n) × (every_to p 0 ≡ true)
  unfolding every_to
  none_yet n = (omega arith, refl)

  module _ (n i : ℕ) where
    pub all_pass : (i ≤ n) × (every_to p i ≡ true) → n ≤ i → true ≡ every_to p n
    all_pass f h = let e : i ≡ n = (let a : i ≤ n = f.0 in omega (arith, a, h)) in sym (ap (every_to p) (sym e) ∙ f.1)

    pub one-more-passes : i < n → (i ≤ n) × (every_to p i ≡ true) → {r : Bool} → r ≡ p i → r ≡ true → (i + 1 ≤ n) × (every_to p (i + 1) ≡ true)
    unfolding every_to
    one-more-passes l f said y = (omega (arith, l), ap (every_to p) (one_more i) ∙ rw (f.1, sym said ∙ y))

  fails-on : (i n : ℕ) → i < n → p i ≡ false → every_to p n ≡ false
  unfolding every_to
  fails-on i zero l e = absurd (omega (arith, l))
  fails-on i (suc n) l e = elim (dec_lt i n) [
    | yes b ↦ rw (fails-on i n b e)
    | no b ↦ (let q : n ≡ i = omega (arith, l, b) in ap (λ (m : ℕ). every_to p n && p m) q ∙ ap (λ (c : Bool). every_to p n && c) e ∙ and_no (every_to p n))
  ]

  pub one-fails : (n i : ℕ) → i < n → {r : Bool} → r ≡ p i → r ≡ false → false ≡ every_to p n
  one-fails n i l said y = sym (fails-on i n l (sym said ∙ y))

-- a test of all numbers below, and of all slots with their records, one after the other
module _ (p : ℕ → Bool) where
  and_nothing : (b : Bool) → b ≡ (b && true)
  and_nothing true = refl
  and_nothing false = refl

  and_assoc : (a b c : Bool) → ((a && b) && c) ≡ (a && (b && c))
  and_assoc true b c = refl
  and_assoc false b c = refl

  all-range : (n k : ℕ) → every_to p (k + n) ≡ (every_to p k && list_all p (range_with_len k n))
  unfolding every_to
  all-range zero k = ap (every_to p) (let e : k + 0 ≡ k = omega arith in e) ∙ and_nothing (every_to p k)
  all-range (suc n) k =
      ap (every_to p) (let e : k + suc n ≡ k + 1 + n = omega arith in e) ∙ all-range n (k + 1)
      ∙ ap (λ (b : Bool). b && list_all p (range_with_len (k + 1) n)) (ap (every_to p) (one_more k))
      ∙ and_assoc (every_to p k) (p k) (list_all p (range_with_len (k + 1) n))

  -- of the numbers below n
  pub all-below : (n : ℕ) → list_all p (range_with_len 0 n) ≡ every_to p n
  unfolding every_to
  all-below n = let e : 0 + n ≡ n = omega arith in sym (subst (λ (m : ℕ). every_to p m ≡ list_all p (range_with_len 0 n)) e (all-range n 0))

  module _ (q : ℕ × Stream → Bool) where
    all-from : (xs : Table) (k : ℕ) → ((i : ℕ) → q (k + i, at xs i) ≡ p (k + i)) → every_to p (k + length xs) ≡ (every_to p k && list_all q (enumerate_from k xs))
    unfolding every_to
    all-from [] k same = ap (every_to p) (let e : k + 0 ≡ k = omega arith in e) ∙ and_nothing (every_to p k)
    all-from (x ∷ xs) k same =
        let here : p k ≡ q (k, x) = (let e : k + 0 ≡ k = omega arith in sym (subst (λ (m : ℕ). q (m, x) ≡ p m) e (same 0))) in
        ap (every_to p) (let e : k + suc (length xs) ≡ k + 1 + length xs = omega arith in e)
        ∙ all-from xs (k + 1) (λ i. (let e : k + suc i ≡ k + 1 + i = omega arith in subst (λ (m : ℕ). q (m, at xs i) ≡ p m) e (same (suc i))))
        ∙ ap (λ (b : Bool). b && list_all q (enumerate_from (k + 1) xs)) (ap (every_to p) (one_more k) ∙ ap (λ (b : Bool). every_to p k && b) here)
        ∙ and_assoc (every_to p k) (q (k, x)) (list_all q (enumerate_from (k + 1) xs))

    -- of the slots of a table
    pub all-slots : (t : Table) → ((i : ℕ) → q (i, at t i) ≡ p i) → list_all q (enumerate_from 0 t) ≡ every_to p (length t)
    unfolding every_to
    all-slots t same =
        let e : 0 + length t ≡ length t = omega arith in
        let f : (i : ℕ) → i ≡ 0 + i = λ i. omega arith in
        sym (subst (λ (m : ℕ). every_to p m ≡ list_all q (enumerate_from 0 t)) e (all-from t 0 (λ i. subst (λ (m : ℕ). q (m, at t i) ≡ p m) (f i) (same i))))

every-gives : (p q : ℕ → Bool) → ((i : ℕ) → p i ≡ true → q i ≡ true) → (n : ℕ) → every_to p n ≡ true → every_to q n ≡ true
unfolding every_to
every-gives p q g zero h = refl
every-gives p q g (suc n) h = let a = (and-eq-true_iff (every_to p n) (p n)).0 h in (and-eq-true_iff _ _).1 (every-gives p q g n a.0, g n a.1)

pub all-sure-agree : (ix : Index) (t : Table) {ok : Bool} → ok ≡ sure_all ix t → ok ≡ true → true ≡ agrees ix t
unfolding sure_all agrees
all-sure-agree ix t e y = sym (every-gives (sure_in ix t) (agrees_at ix t) (sure-agrees ix t) (length t) (sym e ∙ y))

pub slot_small : (t : Table) (i : ℕ) → i < length t → length t < 2 ^ 64 → i + 1 < 2 ^ 64
slot_small t i l r = omega (arith, l, r)

-- ---- the loop of `sure_from`: what is left from the k-th place on comes to what all comes to
abbrev pub SureLeft : Index → (slot from k : ℕ) → Type 0
SureLeft ix i from k = (k ≤ places) × (sure_from ix i (places - k) (from + k) ≡ sure_from ix i places from)

module _ (ix : Index) (i from : ℕ) where
  pub sure-start : SureLeft ix i from 0
  sure-start = (omega arith, ap (sure_from ix i places) (let z : from + 0 ≡ from = omega arith in z))

  module _ (k : ℕ) (f : SureLeft ix i from k) where
    pub sure-out : places ≤ k → false ≡ sure_from ix i places from
    unfolding sure_from
    sure-out h = let z : places - k ≡ 0 = (let a : k ≤ places = f.0 in omega (arith, a, h)) in sym (sym f.1 ∙ ap (λ (m : ℕ). sure_from ix i m (from + k)) z)

    module _ (l : k < places) {x : ℕ} (e : x ≡ get_or ix ((from + k) % places) 0) where
      here : sure_from ix i places from
          ≡ cond (eqb x (suc i)) true (cond (eqb x 0 || ltb i x) false (sure_from ix i (places - suc k) (suc (from + k))))
      unfolding sure_from
      here = let z : places - k ≡ suc (places - suc k) = omega (arith, l) in
          sym f.1 ∙ ap (λ (m : ℕ). sure_from ix i m (from + k)) z ∙ ap (λ (v : ℕ). cond (eqb v (suc i)) true (cond (eqb v 0 || ltb i v) false (sure_from ix i (places - suc k) (suc (from + k))))) (sym e)

      pub sure-hit : x ≡ i + 1 → true ≡ sure_from ix i places from
      sure-hit q = sym (here ∙ rw (eq-eqb x (suc i) (omega (arith, q))))

      pub sure-empty : x ≡ 0 → false ≡ sure_from ix i places from
      sure-empty q = sym (here ∙ rw (ne_eqb x (suc i) (λ z. omega (arith, z, q)), eq-eqb x 0 q))

      pub sure-above : (x ≡ i + 1 → ⊥) → i < x → false ≡ sure_from ix i places from
      sure-above q h = sym (here ∙ rw (ne_eqb x (suc i) (λ z. q (omega (arith, z))), lt-ltb i x h) (or_yes (eqb x 0)))
        where
          or_yes : (b : Bool) → cond (b || true) false (sure_from ix i (places - suc k) (suc (from + k))) ≡ false
          or_yes true = refl
          or_yes false = refl

      pub sure-on : (x ≡ i + 1 → ⊥) → (x ≡ 0 → ⊥) → x ≤ i → SureLeft ix i from (k + 1)
      sure-on q z h =
          let w : sure_from ix i places from ≡ sure_from ix i (places - suc k) (suc (from + k)) = here ∙ rw (ne_eqb x (suc i) (λ y. q (omega (arith, y))), ne_eqb x 0 z, le-ltb i x h) in
          let a : places - suc k ≡ places - (k + 1) = omega arith in
          let b : suc (from + k) ≡ from + (k + 1) = omega arith in
          (omega (arith, l), sym (w ∙ ap (λ (m : ℕ). sure_from ix i m (suc (from + k))) a ∙ ap (sure_from ix i (places - (k + 1))) b))

-- ---- the other tests
pub sure-free : (ix : Index) (h : Option Key) (i : ℕ) → h ≡ None → true ≡ sure_at ix h i
unfolding sure_at
sure-free ix h i e = rw e

pub sure-used : (ix : Index) (h : Option Key) (i : ℕ) {k : Key} {from : ℕ} {r : Bool} → h ≡ Some k → from ≡ home k → r ≡ sure_from ix i places from → r ≡ sure_at ix h i
unfolding sure_at
sure-used ix h i e f g = g ∙ rw (e, f)

pub above-is : (f : Option ℕ) (i j : ℕ) → f ≡ Some j → leb j i ≡ not_above f i
above-is f i j e = sym (ap (λ (g : Option ℕ). not_above g i) e ∙ above_at j i)

pub by-free : (h : Option Key) (f : Option ℕ) (i : ℕ) → h ≡ None → true ≡ agrees_by h f i
unfolding agrees_by
by-free h f i e = rw e

pub by-used : (h : Option Key) (f : Option ℕ) (i : ℕ) {k : Key} {r : Bool} → h ≡ Some k → r ≡ not_above f i → r ≡ agrees_by h f i
unfolding agrees_by
by-used h f i e g = g ∙ rw e
