-- Order 9: the test of agreement is agreement. Assumes nothing.
use Prim.Native.Nat.{ℕ, zero, suc, ◌≤◌, ◌<◌, ◌%◌}
use mathlib.Core.Path.{◌≡◌, refl, sym, subst}
use mathlib.Core.Logic.{◌≢◌}
use mathlib.Core.Bool.{Bool, true, false, ◌||◌, not, cond, false≢true, and-eq-true_iff}
use native.Mathlib.Decide.{dec_lt}
use native.Mathlib.Omega.{arith}
use lib.Dec.{eqb}
use lib.ListN.{length, get_or}
use borrow.Author.Tests.{leb-true, le-leb, eqb-true, eqb-false}
use Rattle.calls.specs.Table.{Table, at, search}
use Rattle.calls.specs.declared.Key.{Key}
use Rattle.index.specs.Index.{key_of, keyed, used, Index, places, home, named, walk, follow, Agrees, agrees_at, every_to, agrees}
use Rattle.index.specs.Laws.{AgreesTested}
use Rattle.index.proofs.Search.{key-own, key-only, within, found, lowest, at_most}

-- Following finds none or a slot in use with the key.
pub data Found (t : Table) (k : Key) (r : ℕ) : Type 0 where
  none : r ≡ length t → Found t k r
  slot : r < length t → keyed k (at t r) ≡ true → Found t k r

named-sound : (t : Table) (k : Key) (v r : ℕ) → Found t k r → Found t k (named t k v r)
unfolding named
named-sound t k zero r f = none refl
named-sound t k (suc i) r f = go (keyed k (at t i)) refl
  where
    go : (v : Bool) → keyed k (at t i) ≡ v → Found t k (cond (keyed k (at t i)) i r)
    go true e = rw e (slot (within k t i e) e)
    go false e = rw e f

pub walk-sound : (ix : Index) (t : Table) (k : Key) (n p : ℕ) → Found t k (walk ix t k n p)
unfolding walk
walk-sound ix t k zero p = none refl
walk-sound ix t k (suc n) p = named-sound t k (get_or ix (p % places) 0) _ (walk-sound ix t k n (suc p))

pub follow-sound : (ix : Index) (t : Table) (k : Key) → Found t k (follow ix t k)
unfolding follow
follow-sound ix t k = walk-sound ix t k places (home k)

-- The test, as facts.
abbrev pub Good : Index → Table → ℕ → Type 0
Good ix t n = (i : ℕ) → i < n → used (at t i) ≡ true → follow ix t (key_of (at t i)) ≤ i

implied : (a b : Bool) → not a || b ≡ true → a ≡ true → b ≡ true
implied true b h e = h
implied false b h e = absurd (false≢true e)

implies : (a b : Bool) → (a ≡ true → b ≡ true) → not a || b ≡ true
implies true b f = f refl
implies false b f = refl

pub good_of : (ix : Index) (t : Table) (n : ℕ) → every_to (agrees_at ix t) n ≡ true → Good ix t n
unfolding every_to agrees_at
good_of ix t zero h i b u = absurd (omega arith)
good_of ix t (suc n) h i b u = go (eqb i n) refl (good_of ix t n ((and-eq-true_iff _ _).0 h).0 i)
  where
    go : (v : Bool) → eqb i n ≡ v → (i < n → used (at t i) ≡ true → follow ix t (key_of (at t i)) ≤ i) → follow ix t (key_of (at t i)) ≤ i
    go true e f =
        let q : i ≡ n = eqb-true i n e in
        let a : agrees_at ix t i ≡ true = rw q ((and-eq-true_iff (every_to (agrees_at ix t) n) (agrees_at ix t n)).0 h).1 in
        leb-true _ _ (implied (used (at t i)) _ a u)
    go false e f =
        let q : i ≢ n = eqb-false i n e in
        f (omega arith) u

pub of-good : (ix : Index) (t : Table) (n : ℕ) → Good ix t n → every_to (agrees_at ix t) n ≡ true
unfolding every_to agrees_at
of-good ix t zero g = refl
of-good ix t (suc n) g = (and-eq-true_iff _ _).1 (
  of-good ix t n (λ i b. g i (omega arith)),
  implies (used (at t n)) _ (λ u. le-leb _ _ (g n (omega arith) u)),
)

-- What is good is agreement: the lowest slot with a key is found, and no slot where there is none.
pub good-agrees : (ix : Index) (t : Table) → Good ix t (length t) → Agrees ix t
good-agrees ix t g k = go (follow-sound ix t k)
  where
    m : ℕ
    m = search (keyed k) t

    reaches : m < length t → follow ix t k ≤ m
    reaches b =
        let own = key-only k (at t m) (found (keyed k) t b) in
        subst (λ (x : Key). follow ix t x ≤ m) own.1 (g m b own.0)

    go : Found t k (follow ix t k) → follow ix t k ≡ m
    go (none e) = elim (dec_lt m (length t)) [
      | yes b ↦ let r : follow ix t k ≤ m = reaches b in absurd (omega arith)
      | no b ↦ let a : m ≤ length t = at_most (keyed k) t in omega arith
    ]
    go (slot b h) =
        let l : m ≤ follow ix t k = lowest (keyed k) t (follow ix t k) b h in
        let r : follow ix t k ≤ m = reaches (omega arith) in
        omega arith

pub agrees-good : (ix : Index) (t : Table) → Agrees ix t → Good ix t (length t)
agrees-good ix t a i b u =
    subst (λ (x : ℕ). x ≤ i) (sym (a (key_of (at t i)))) (lowest (keyed (key_of (at t i))) t i b (key-own (at t i) u))

-- THE TEST IS AGREEMENT.
pub agrees-iff : AgreesTested
unfolding agrees
agrees-iff ix t = (
  λ h. good-agrees ix t (good_of ix t (length t) h),
  λ a. of-good ix t (length t) (agrees-good ix t a),
)
