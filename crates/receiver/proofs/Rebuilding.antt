-- Order 9: the steps of a rebuild are the rebuilt index. Assumes nothing.
use Prim.Native.Nat.{ℕ, zero, suc, ◌+◌, ◌-◌, ◌%◌, ◌≤◌, ◌<◌}
use mathlib.Core.Path.{◌≡◌, refl, ap, sym, ◌∙◌, subst}
use mathlib.Core.Bool.{Bool, true, false, cond}
use native.Mathlib.Omega.{arith}
use lib.ListN.{length, get_or, set, replicate}
use Rattle.record.specs.Sizes.{slots_most}
use Rattle.calls.specs.Table.{Table, at}
use Rattle.index.specs.Index.{Index, key_of, used, home, places, vacant, probe, entered, built, rebuilt}
use Rattle.receiver.specs.Seek.{entered_as, holder_of}
use Rattle.std.specs.Prelude.{Option, Some, None}
use Rattle.calls.specs.declared.Key.{Key}
use Rattle.receiver.proofs.Lists.{one_more}

-- ---- the first empty place: what is left to look at comes to what all comes to
abbrev pub VacantLeft : Index → (from k : ℕ) → Type 0
VacantLeft ix from k = (k ≤ places) × (probe ix (places - k) (from + k) ≡ probe ix places from)

pub vacant-start : (ix : Index) (from : ℕ) → VacantLeft ix from 0
vacant-start ix from = (omega arith, ap (probe ix places) (let e : from + 0 ≡ from = omega arith in e))

probe-hit : (ix : Index) (m p : ℕ) → get_or ix (p % places) 0 ≡ 0 → probe ix (suc m) p ≡ p % places
unfolding probe vacant
probe-hit ix m p e = rw e

vacant-no : (v here rest : ℕ) → 0 < v → vacant v here rest ≡ rest
unfolding vacant
vacant-no zero here rest l = absurd (omega (arith, l))
vacant-no (suc i) here rest l = refl

probe-on : (ix : Index) (m p : ℕ) → 0 < get_or ix (p % places) 0 → probe ix (suc m) p ≡ probe ix m (suc p)
unfolding probe
probe-on ix m p l = vacant-no _ _ _ l

module _ (ix : Index) (from k : ℕ) (left : VacantLeft ix from k) (l : k < places) where
  left' : probe ix (suc (places - suc k)) (from + k) ≡ probe ix places from
  left' = ap (λ (m : ℕ). probe ix m (from + k)) (let e : suc (places - suc k) ≡ places - k = omega (arith, l) in e) ∙ left.1

  pub vacant-hit : get_or ix ((from + k) % places) 0 ≡ 0 → (((from + k) % places) ≡ probe ix places from) × (((from + k) % places) < places)
  vacant-hit e = (sym (probe-hit ix (places - suc k) (from + k) e) ∙ left', omega arith)

  pub vacant-on : 0 < get_or ix ((from + k) % places) 0 → VacantLeft ix from (k + 1)
  vacant-on e = (
    omega (arith, l),
    (let a : places - (k + 1) ≡ places - suc k = omega arith in let b : from + (k + 1) ≡ suc (from + k) = omega arith in λ j. probe ix (a j) (b j))
        ∙ sym (probe-on ix (places - suc k) (from + k) e) ∙ left',
  )

pub vacant-none : (ix : Index) (from k : ℕ) → VacantLeft ix from k → places ≤ k → from < places → (from ≡ probe ix places from) × (from < places)
unfolding probe
vacant-none ix from k left h f =
    let e : k ≡ places = (let a : k ≤ places = left.0 in omega (arith, a, h)) in
    let g : probe ix (places - places) (from + places) ≡ probe ix places from = subst (λ (m : ℕ). probe ix (places - m) (from + m) ≡ probe ix places from) e left.1 in
    let r : from ≡ (from + places) % places = omega (arith, f) in
    (r ∙ g, f)

-- ---- a slot in use is entered
pub enter-free : (h : Option Key) (i : ℕ) (ix : Index) → h ≡ None → ix ≡ entered_as h i ix
unfolding entered_as
enter-free h i ix e = rw e

pub enter-used : (h : Option Key) (i : ℕ) (ix : Index) {k : Key} {from p v : ℕ} → h ≡ Some k → from ≡ home k → p ≡ probe ix places from → v ≡ suc i → set ix p v ≡ entered_as h i ix
unfolding entered_as
enter-used h i ix e f q w = rw e ((λ j. set ix (q j) (w j)) ∙ ap (λ (x : ℕ). set ix (probe ix places x) (suc i)) f)

entered-same : (t : Table) (i : ℕ) (ix : Index) → entered_as (holder_of (at t i)) i ix ≡ entered t i ix
unfolding entered entered_as
entered-same t i ix = go (used (at t i)) refl
  where
    go : (u : Bool) → used (at t i) ≡ u → entered_as (cond (used (at t i)) (Some (key_of (at t i))) None) i ix
        ≡ cond (used (at t i)) (set ix (probe ix places (home (key_of (at t i)))) (suc i)) ix
    go true e = rw e
    go false e = rw e

pub built-more : (t : Table) (i : ℕ) (ix jx : Index) (h : Option Key) → ix ≡ built t i → h ≡ holder_of (at t i) → jx ≡ entered_as h i ix → jx ≡ built t (i + 1)
unfolding built
built-more t i ix jx h b held e = e ∙ (λ j. entered_as (held j) i (b j)) ∙ entered-same t i (built t i) ∙ ap (built t) (sym (one_more i))

pub built-none : (t : Table) (ix : Index) → ix ≡ replicate places 0 → ix ≡ built t 0
unfolding built
built-none t ix e = e

pub built-all : (t : Table) (i : ℕ) (ix : Index) → i ≤ length t → length t ≤ i → ix ≡ built t i → ix ≡ rebuilt t
unfolding rebuilt
built-all t i ix a b e = e ∙ ap (built t) (let q : i ≡ length t = omega (arith, a, b) in q)

pub slot-below : (i n : ℕ) → i < n → n ≤ slots_most → i < 255
slot-below i n a b = omega (arith, a, b)
