-- Order 9: the rebuilt index agrees with its table. Assumes nothing.
use Prim.Native.Nat.{ℕ, zero, suc, ◌+◌, ◌-◌, ◌≤◌, ◌<◌, ◌%◌}
use mathlib.Core.Path.{◌≡◌, refl, ap, sym, ◌∙◌, subst}
use mathlib.Core.Logic.{◌≢◌}
use mathlib.Core.Bool.{Bool, true, false, cond, false≢true}
use mathlib.Core.List.{[], ◌∷◌}
use native.Mathlib.Nat.{le_of_suc-le-suc}
use native.Mathlib.Omega.{arith}
use lib.Dec.{eqb}
use lib.ListN.{length, get_or, set, replicate, length-set, length-replicate}
use lib.Seq.{get_or-set_same, get_or-set_other}
use borrow.Author.Tests.{eqb-true, eqb-false}
use Rattle.calls.specs.Table.{Table, at}
use Rattle.calls.specs.declared.Key.{Key}
use Rattle.index.specs.Index.{key_of, keyed, used, Index, places, home, named, walk, follow, Agrees, vacant, probe, entered, built, rebuilt}
use Rattle.index.proofs.Search.{key-own}
use Rattle.index.proofs.Agree.{Good, good-agrees}

-- What is found stays found when an empty place is filled: the places on the way to it are not empty.
named-same : (t : Table) (k : Key) (v a b : ℕ) → (a < length t → b ≡ a) → named t k v a < length t → named t k v b ≡ named t k v a
unfolding named
named-same t k zero a b f l = refl
named-same t k (suc i) a b f l = go (keyed k (at t i)) refl l
  where
    go : (v : Bool) → keyed k (at t i) ≡ v → cond (keyed k (at t i)) i a < length t
        → cond (keyed k (at t i)) i b ≡ cond (keyed k (at t i)) i a
    go true e c = rw e refl
    go false e c = rw e (f (rw e at c))

named_none : (t : Table) (k : Key) (a : ℕ) → named t k 0 a ≡ length t
unfolding named
named_none t k a = refl

pub walk-set : (ix : Index) (t : Table) (k : Key) (q v n p : ℕ) → get_or ix q 0 ≡ 0
    → walk ix t k n p < length t → walk (set ix q v) t k n p ≡ walk ix t k n p
unfolding walk
walk-set ix t k q v zero p e l = refl
walk-set ix t k q v (suc n) p e l = go (eqb (p % places) q) refl (walk-set ix t k q v n (suc p) e)
  where
    go : (b : Bool) → eqb (p % places) q ≡ b
        → (walk ix t k n (suc p) < length t → walk (set ix q v) t k n (suc p) ≡ walk ix t k n (suc p))
        → walk (set ix q v) t k (suc n) p ≡ walk ix t k (suc n) p
    go true c f =
        let z : get_or ix (p % places) 0 ≡ 0 = ap (λ (x : ℕ). get_or ix x 0) (eqb-true (p % places) q c) ∙ e in
        let w : walk ix t k (suc n) p ≡ length t = rw z (named_none t k _) in
        absurd (omega (arith, w, l))
    go false c f =
        let z : get_or (set ix q v) (p % places) 0 ≡ get_or ix (p % places) 0 = get_or-set_other ix q (p % places) v 0 (eqb-false (p % places) q c) in
        rw z (named-same t k (get_or ix (p % places) 0) (walk ix t k n (suc p)) (walk (set ix q v) t k n (suc p)) f l)

-- The places name only slots below n.
abbrev pub Below : Index → ℕ → Type 0
Below ix n = (p : ℕ) → get_or ix p 0 ≤ n

-- One of c places from p on is empty.
abbrev pub Room : Index → (c p : ℕ) → Type 0
Room ix c p = (j : ℕ) × (j < c) × (get_or ix ((p + j) % places) 0 ≡ 0)

room_next : (ix : Index) (c p m : ℕ) → get_or ix (p % places) 0 ≡ suc m → Room ix (suc c) p → Room ix c (suc p)
room_next ix c p m e (zero, b, z) =
    let q : p + 0 ≡ p = omega arith in
    absurd (let w : 0 ≡ suc m = sym z ∙ ap (λ (x : ℕ). get_or ix (x % places) 0) q ∙ e in omega arith)
room_next ix c p m e (suc j, b, z) =
    let q : suc p + j ≡ p + suc j = omega arith in
    (j, omega arith, ap (λ (x : ℕ). get_or ix (x % places) 0) q ∙ z)

-- The probe then finds an empty place.
pub probe-empty : (ix : Index) (c p : ℕ) → Room ix c p → (get_or ix (probe ix c p) 0 ≡ 0) × (probe ix c p < places)
unfolding probe vacant
probe-empty ix zero p r = absurd (let b = r.1 in omega arith)
probe-empty ix (suc c) p r = go (get_or ix (p % places) 0) refl (λ m e. probe-empty ix c (suc p) (room_next ix c p m e r))
  where
    go : (v : ℕ) → get_or ix (p % places) 0 ≡ v
        → ((m : ℕ) → get_or ix (p % places) 0 ≡ suc m → (get_or ix (probe ix c (suc p)) 0 ≡ 0) × (probe ix c (suc p) < places))
        → (get_or ix (probe ix (suc c) p) 0 ≡ 0) × (probe ix (suc c) p < places)
    go zero e f = rw e (e, omega arith)
    go (suc m) e f = rw e (f m e)

-- A slot put at the first empty place is found, or one below it.
pub walk_put : (ix : Index) (t : Table) (k : Key) (i c p : ℕ) → Below ix i → length ix ≡ places → keyed k (at t i) ≡ true
    → Room ix c p → walk (set ix (probe ix c p) (suc i)) t k c p ≤ i
unfolding walk probe vacant named
walk_put ix t k i zero p below len h r = absurd (let b = r.1 in omega arith)
walk_put ix t k i (suc c) p below len h r =
    go (get_or ix (p % places) 0) refl (λ m e. walk_put ix t k i c (suc p) below len h (room_next ix c p m e r))
  where
    goes : (m : ℕ) (q : ℕ) → suc m ≤ i → walk (set ix q (suc i)) t k c (suc p) ≤ i
        → (b : Bool) → keyed k (at t m) ≡ b → cond (keyed k (at t m)) m (walk (set ix q (suc i)) t k c (suc p)) ≤ i
    goes m q l w true e = rw e (omega arith)
    goes m q l w false e = rw e w

    go : (v : ℕ) → get_or ix (p % places) 0 ≡ v
        → ((m : ℕ) → get_or ix (p % places) 0 ≡ suc m → walk (set ix (probe ix c (suc p)) (suc i)) t k c (suc p) ≤ i)
        → walk (set ix (probe ix (suc c) p) (suc i)) t k (suc c) p ≤ i
    go zero e f =
        let s : get_or (set ix (p % places) (suc i)) (p % places) 0 ≡ suc i = get_or-set_same ix (p % places) (suc i) 0 (omega arith) in
        rw (e, s, h) (omega arith)
    go (suc m) e f =
        let q : ℕ = probe ix c (suc p) in
        let z = probe-empty ix c (suc p) (room_next ix c p m e r) in
        let other : p % places ≢ q = λ x. (let w : suc m ≡ 0 = sym e ∙ ap (λ (y : ℕ). get_or ix y 0) x ∙ z.0 in absurd (omega arith)) in
        let s : get_or (set ix q (suc i)) (p % places) 0 ≡ suc m = get_or-set_other ix q (p % places) (suc i) 0 other ∙ e in
        let l : suc m ≤ i = subst (λ (x : ℕ). x ≤ i) e (below (p % places)) in
        let v : probe ix (suc c) p ≡ q = rw e refl in
        subst (λ (x : ℕ). walk (set ix x (suc i)) t k (suc c) p ≤ i) (sym v) (rw s (goes m q l (f m e) (keyed k (at t m)) refl))

-- How many places are not empty.
unfoldable pub full : Index → ℕ
full [] = 0
full (zero ∷ l) = full l
full (suc v ∷ l) = suc (full l)

full-up : (v : ℕ) (l : Index) → (full l ≤ full (v ∷ l)) × (full (v ∷ l) ≤ suc (full l))
unfolding full
full-up zero l = (omega arith, omega arith)
full-up (suc v) l = (omega arith, omega arith)

full-set : (l : Index) (q v : ℕ) → full (set l q v) ≤ suc (full l)
unfolding full
full-set [] q v = omega arith
full-set (x ∷ l) zero v = let a = full-up x l in let b = full-up v l in omega arith
full-set (zero ∷ l) (suc q) v = full-set l q v
full-set (suc x ∷ l) (suc q) v = let a : full (set l q v) ≤ suc (full l) = full-set l q v in omega arith

gap : (l : Index) → full l < length l → (q : ℕ) × (q < length l) × (get_or l q 0 ≡ 0)
unfolding full
gap [] b = absurd (omega arith)
gap (zero ∷ l) b = (0, omega arith, refl)
gap (suc x ∷ l) b = let r = gap l (le_of_suc-le-suc b) in (suc r.0, (let c = r.1 in omega arith), r.2)

room : (ix : Index) (p : ℕ) → length ix ≡ places → full ix < places → Room ix places p
room ix p len b =
    let r = gap ix (omega arith) in
    let l : r.0 < places = (let c = r.1 in omega arith) in
    let j : ℕ = (r.0 + (places - p % places)) % places in
    let e : (p + (r.0 + (places - p % places)) % places) % places ≡ r.0 = omega arith in
    ((r.0 + (places - p % places)) % places, omega arith, ap (λ (x : ℕ). get_or ix x 0) e ∙ r.2)

-- What holds after n slots.
pub record Built (ix : Index) (t : Table) (n : ℕ) : Type 0 where
  pub size : length ix ≡ places
  pub below : Below ix n
  pub few : full ix ≤ n
  pub good : Good ix t n

full-empty : (n : ℕ) → full (replicate n 0) ≡ 0
unfolding full
full-empty zero = refl
full-empty (suc n) = full-empty n

below-empty : (n p : ℕ) → get_or (replicate n 0) p 0 ≤ 0
below-empty zero p = omega arith
below-empty (suc n) zero = omega arith
below-empty (suc n) (suc p) = below-empty n p

below_set : (ix : Index) (q n : ℕ) → Below ix n → Below (set ix q (suc n)) (suc n)
below_set [] q n b p = let a : get_or [] p 0 ≤ n = b p in omega arith
below_set (x ∷ ix) zero n b zero = omega arith
below_set (x ∷ ix) zero n b (suc p) = let a : get_or ix p 0 ≤ n = b (suc p) in omega arith
below_set (x ∷ ix) (suc q) n b zero = let a : x ≤ n = b zero in omega arith
below_set (x ∷ ix) (suc q) n b (suc p) = below_set ix q n (λ j. b (suc j)) p

entered-built : (ix : Index) (t : Table) (n : ℕ) → n < length t → n < places → Built ix t n → Built (entered t n ix) t (suc n)
unfolding entered follow
entered-built ix t n l m b = go (used (at t n)) refl
  where
    k : Key
    k = key_of (at t n)

    q : ℕ
    q = probe ix places (home k)

    r : Room ix places (home k)
    r = let f : full ix ≤ n = b.few in room ix (home k) b.size (omega arith)

    put : used (at t n) ≡ true → Good (set ix q (suc n)) t (suc n)
    put u i d v = at_i (eqb i n) refl
      where
        at_i : (w : Bool) → eqb i n ≡ w → follow (set ix q (suc n)) t (key_of (at t i)) ≤ i
        at_i true e =
            subst (λ (x : ℕ). follow (set ix q (suc n)) t (key_of (at t x)) ≤ x) (sym (eqb-true i n e))
            (walk_put ix t k n places (home k) b.below b.size (key-own (at t n) u) r)
        at_i false e =
            let ne : i ≢ n = eqb-false i n e in
            let g : walk ix t (key_of (at t i)) places (home (key_of (at t i))) ≤ i = b.good i (omega arith) v in
            let s : walk (set ix q (suc n)) t (key_of (at t i)) places (home (key_of (at t i))) ≡ walk ix t (key_of (at t i)) places (home (key_of (at t i))) =
            walk-set ix t (key_of (at t i)) q (suc n) places (home (key_of (at t i))) (probe-empty ix places (home k) r).0 (omega arith) in
            rw s g

    go : (w : Bool) → used (at t n) ≡ w → Built (entered t n ix) t (suc n)
    go true u = rw u (record {
      size = length-set ix q (suc n) ∙ b.size;
      below = below_set ix q n b.below;
      few = let a = full-set ix q (suc n) in let f = b.few in omega arith;
      good = put u;
    })
    go false u = rw u (record {
      size = b.size;
      below = λ p. (let a = b.below p in omega arith);
      few = let f = b.few in omega arith;
      good = λ i d v. free i d v (eqb i n) refl;
    })
      where
        free : (i : ℕ) → i < suc n → used (at t i) ≡ true → (w : Bool) → eqb i n ≡ w → follow ix t (key_of (at t i)) ≤ i
        free i d v true e = absurd (false≢true (sym u ∙ ap (λ (x : ℕ). used (at t x)) (sym (eqb-true i n e)) ∙ v))
        free i d v false e = let ne : i ≢ n = eqb-false i n e in b.good i (omega arith) v

pub built-is : (t : Table) (n : ℕ) → n ≤ length t → n ≤ places → Built (built t n) t n
unfolding built
built-is t zero l m = record {
  size = length-replicate {A = ℕ} places 0;
  below = below-empty places;
  few = rw (full-empty places) (omega arith);
  good = λ i d v. absurd (omega arith);
}
built-is t (suc n) l m = entered-built (built t n) t n l m (built-is t n (omega arith) (omega arith))

-- THE REBUILT INDEX AGREES, and is of 128 places.
pub rebuilt-size : (t : Table) → length t ≤ places → length (rebuilt t) ≡ places
unfolding rebuilt
rebuilt-size t l = (built-is t (length t) (omega arith) l).size

pub rebuilt-agrees : (t : Table) → length t ≤ places → Agrees (rebuilt t) t
unfolding rebuilt
rebuilt-agrees t l = good-agrees (built t (length t)) t (built-is t (length t) (omega arith) l).good
