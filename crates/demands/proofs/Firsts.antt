-- Where every arrival is close to the highest that arrived, the receiver with unlimited memory hands up the first arrival of each
-- index. Assumes nothing.
use Prim.Native.Nat.{ℕ, zero, suc, ◌≤◌, ◌<◌, max}
use mathlib.Core.Path.{◌≡◌, refl, ap, sym, ◌∙◌}
use mathlib.Core.Bool.{Bool, true, false, ◌&&◌, ◌||◌, not, false≢true}
use mathlib.Core.List.{List, [], ◌∷◌, map}
use native.Mathlib.Omega.{arith}
use native.Mathlib.Decide.{dec_lt}
use lib.Dec.{eqb, ltb}
use lib.IntN.{ℤ}
use borrow.Author.Tests.{lt-ltb, eqb-true}
use Rattle.record.specs.Sizes.{window_most}
use Rattle.stream.specs.Decisions.{Verdict, is_up, is_rogue}
use Rattle.stream.proofs.Logic.{tests}
use Rattle.demands.specs.Unlimited.{elem, highest, apart, judged, remembered, near, unlimited, all_near}
use Rattle.demands.specs.Corollaries.{sum_once}
use Rattle.demands.specs.Missed.{all_close, firsts}
use Rattle.demands.proofs.Handed.{above, top, more}
use Rattle.demands.proofs.Absent.{memory, swap}

-- The indices handed up are those that arrived.
record Alike (hs bs : List ℕ) : Type 0 where
  elems : (y : ℕ) → elem y hs ≡ elem y bs
  tops : highest hs ≡ highest bs

-- and none has arrived where none is handed up
abbrev Agree : List ℕ → List ℕ → Type 0
Agree [] [] = Unit {0}
Agree [] (b ∷ bs) = ⊥
Agree (h ∷ hs) [] = ⊥
Agree (h ∷ hs) (b ∷ bs) = Alike (h ∷ hs) (b ∷ bs)

pub under : (x : ℕ) (hs : List ℕ) → elem x hs ≡ true → x ≤ highest hs
under x hs e = elim (dec_lt (highest hs) x) [ yes a ↦ absurd (false≢true (sym (above x hs a) ∙ e)) | no b ↦ omega arith ]

-- one more of an index that was there
again : (x : ℕ) (hs bs : List ℕ) → Alike hs bs → elem x hs ≡ true → Alike hs (x ∷ bs)
again x hs bs a e = record {
  elems = λ y. go y (eqb y x) refl;
  tops = omega (arith, a.tops, top x bs, under x hs e);
}
  where
    go : (y : ℕ) (v : Bool) → eqb y x ≡ v → elem y hs ≡ elem y (x ∷ bs)
    go y true q = rw (more, q) (ap (λ (n : ℕ). elem n hs) (eqb-true y x q) ∙ e)
    go y false q = rw (more, q) (a.elems y)

-- a new index on both sides
anew : (x : ℕ) (hs bs : List ℕ) → Alike hs bs → Alike (x ∷ hs) (x ∷ bs)
anew x hs bs a = record {
  elems = λ y. more y x hs ∙ rw (a.elems y) (sym (more y x bs));
  tops = omega (arith, a.tops, top x hs, top x bs);
}

unfoldable pub all : (Verdict → Bool) → List Verdict → Bool
all p [] = true
all p (v ∷ vs) = p v && all p vs

abbrev pub tame : Verdict → Bool
tame v = not (is_rogue v)

-- With hs handed up and bs arrived, the arrivals xs are judged by whether they are the first of their index.
pub record Unmissed (l : ℕ) (hs bs xs : List ℕ) : Type 0 where
  pub nears : all_near l hs xs ≡ true
  pub ups : map is_up (unlimited l hs xs) ≡ firsts bs xs
  pub tames : all tame (unlimited l hs xs) ≡ true
  pub elems : (y : ℕ) → elem y (memory l hs xs) ≡ elem y xs || elem y bs
  pub tops : highest (memory l hs xs) ≡ max (highest xs) (highest bs)

module _ (l : ℕ) (most : l ≤ window_most) where
  -- demand 3's second premise
  is-near : (x h : ℕ) (hs : List ℕ) → apart x (highest (h ∷ hs)) < l → near l (h ∷ hs) x ≡ true
  unfolding near
  is-near x h hs d = simp tests (omega (arith, d))

  later : (x : ℕ) (xs : List ℕ) (h : ℕ) (hs : List ℕ) (b : ℕ) (bs : List ℕ) → Alike (h ∷ hs) (b ∷ bs)
      → apart x (highest (b ∷ bs)) < l
      → ((is : List ℕ) → Agree is (x ∷ b ∷ bs) → Unmissed l is (x ∷ b ∷ bs) xs)
      → Unmissed l (h ∷ hs) (b ∷ bs) (x ∷ xs)
  unfolding all_near unlimited firsts judged remembered all memory
  later x xs h hs b bs a c f = go (elem x (h ∷ hs)) refl
    where
      d : apart x (highest (h ∷ hs)) < l
      d = rw a.tops c

      n : near l (h ∷ hs) x ≡ true
      n = is-near x h hs d

      w : ltb (apart x (highest (h ∷ hs))) l ≡ true
      w = lt-ltb (apart x (highest (h ∷ hs))) l d

      both : (is : List ℕ) → Unmissed l is (x ∷ b ∷ bs) xs → (y : ℕ) → elem y (memory l is xs) ≡ elem y (x ∷ xs) || elem y (b ∷ bs)
      both is r y =
          r.elems y ∙ ap (λ (v : Bool). elem y xs || v) (more y x (b ∷ bs))
          ∙ swap (elem y xs) (eqb y x) (elem y (b ∷ bs)) ∙ ap (λ (v : Bool). v || elem y (b ∷ bs)) (sym (more y x xs))

      go : (v : Bool) → elem x (h ∷ hs) ≡ v → Unmissed l (h ∷ hs) (b ∷ bs) (x ∷ xs)
      go true e =
          let r = f (h ∷ hs) (again x (h ∷ hs) (b ∷ bs) a e) in
          record {
            nears = rw (n, w, e) r.nears;
            ups = rw (w, e) (λ j. ap not (sym e ∙ a.elems x) j ∷ r.ups j);
            tames = rw (w, e) r.tames;
            elems = λ y. rw (w, e) (both (h ∷ hs) r y);
            tops = rw (w, e) (omega (arith, r.tops, top x xs, top x (b ∷ bs)));
          }
      go false e =
          let r = f (x ∷ h ∷ hs) (anew x (h ∷ hs) (b ∷ bs) a) in
          record {
            nears = rw (n, w, e) r.nears;
            ups = rw (w, e) (λ j. ap not (sym e ∙ a.elems x) j ∷ r.ups j);
            tames = rw (w, e) r.tames;
            elems = λ y. rw (w, e) (both (x ∷ h ∷ hs) r y);
            tops = rw (w, e) (omega (arith, r.tops, top x xs, top x (b ∷ bs)));
          }

  goes_on : (xs hs bs : List ℕ) → Agree hs bs → all_close l bs xs ≡ true → Unmissed l hs bs xs
  unfolding all_near unlimited firsts all_close near judged remembered elem highest all memory
  goes_on [] [] [] a c = record { nears = refl; ups = refl; tames = refl; elems = λ y. refl; tops = omega arith }
  goes_on [] [] (b ∷ bs) a c = absurd a
  goes_on [] (h ∷ hs) [] a c = absurd a
  goes_on [] (h ∷ hs) (b ∷ bs) a c = record { nears = refl; ups = refl; tames = refl; elems = a.elems; tops = omega (arith, a.tops) }
  goes_on (x ∷ xs) [] [] a c =
      let r = goes_on xs (x ∷ []) (x ∷ []) (record { elems = λ y. refl; tops = refl }) c in
      record {
        nears = r.nears;
        ups = ap (λ (bs : List Bool). true ∷ bs) r.ups;
        tames = r.tames;
        elems = λ y. r.elems y ∙ swap (elem y xs) (eqb y x) false;
        tops = omega (arith, r.tops);
      }
  goes_on (x ∷ xs) [] (b ∷ bs) a c = absurd a
  goes_on (x ∷ xs) (h ∷ hs) [] a c = absurd a
  goes_on (x ∷ xs) (h ∷ hs) (b ∷ bs) a c =
      let k = simp tests at c in
      later x xs h hs b bs a k.0 (λ is g. goes_on xs is (x ∷ b ∷ bs) g k.1)

  pub unmissed : (xs : List ℕ) → all_close l [] xs ≡ true → Unmissed l [] [] xs
  unmissed xs c = goes_on xs [] [] tt c

-- A sum that counts each index once asks only which there are.
pub sum_same : (f : ℕ → ℤ) (n : ℕ) (hs is : List ℕ) → ((y : ℕ) → elem y hs ≡ elem y is) → sum_once f n hs ≡ sum_once f n is
unfolding sum_once
sum_same f zero hs is e = refl
sum_same f (suc n) hs is e = rw (e n, sum_same f n hs is e)
