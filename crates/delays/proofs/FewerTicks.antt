-- The ticks between two copies of one index. Assumes nothing.
use Prim.Native.Nat.{ℕ, zero, suc, ◌+◌, ◌-◌, ◌*◌, ◌≤◌, ◌<◌, max}
use mathlib.Core.Path.{◌≡◌, refl, ap, sym, ◌∙◌}
use mathlib.Core.Logic.{◌⊎◌, inl, inr}
use mathlib.Core.Bool.{Bool, true, false, not, ◌||◌, false≢true}
use mathlib.Core.List.{List, [], ◌∷◌}
use native.Mathlib.Omega.{arith}
use native.Mathlib.Nat.{mul-zero, mul-suc, mul_comm}
use lib.Dec.{eqb}
use borrow.Author.Tests.{ne_eqb}
use Rattle.stream.specs.Decisions.{is_up}
use Rattle.stream.proofs.Logic.{tests}
use Rattle.calls.specs.Table.{at}
use Rattle.demands.specs.Unlimited.{elem, judged, remembered}
use Rattle.demands.specs.Corollaries.{handed_of, distinct}
use Rattle.demands.proofs.Once.{new, Single, add}
use Rattle.delays.specs.Formulas.{least_time}
use Rattle.delays.specs.Line.{Known, most, J, Event, came, ticked, indices, kept}
use Rattle.delays.specs.Forgetting.{forgetting}
use Rattle.delays.specs.OnceEach.{Sees, DecidesAcross, none_behind, fewer_between, FewerTicks, NoneTwice}
use Rattle.delays.proofs.Lists.{none, either, not_there, not-here}
use Rattle.delays.proofs.Sending.{spread, long, comes, ticks}

-- ---- fewer than R, by the delays

-- Behind the latest time of a copy none comes,
gone : (k : Known) (x : ℕ) (es : List Event) (now due : ℕ) → kept k now due es ≡ true → k.sent x + most k < now → elem x (indices es) ≡ false
unfolding indices elem
gone k x [] now due q h = refl
gone k x (came y a ∷ es) now due q h =
    let c = comes q in
    rw (ne_eqb x y (λ e. let z : k.sent x ≡ k.sent y = ap k.sent e in omega arith), gone k x es a due c.rest (omega arith))
gone k x (ticked c ∷ es) now due q h = let t = ticks q in gone k x es c (c + k.tau) t.rest (omega arith)

-- and so none behind n + 1 ticks, if the last of these is later.
behind : (k : Known) (x n : ℕ) (es : List Event) (now due : ℕ) → kept k now due es ≡ true → k.sent x + most k < max now due + k.tau * n
    → none_behind (suc n) x es ≡ true
unfolding none_behind indices
behind k x n [] now due q h = refl
behind k x n (came y a ∷ es) now due q h = let c = comes q in behind k x n es a due c.rest (omega arith)
behind k x zero (ticked c ∷ es) now due q h =
    let t = ticks q in
    let u : k.sent x + most k < c = omega (arith, mul-zero k.tau) in
    rw (gone k x es c (c + k.tau) t.rest u)
behind k x (suc n) (ticked c ∷ es) now due q h =
    let t = ticks q in
    behind k x n es c (c + k.tau) t.rest (omega (arith, mul-suc k.tau n))

fewer : (k : Known) (es : List Event) (now due : ℕ) → 1 ≤ k.tau → kept k now due es ≡ true → fewer_between (least_time (J k) k.tau) es ≡ true
unfolding fewer_between
fewer k [] now due some q = refl
fewer k (came x a ∷ es) now due some q =
    let c = comes q in
    let r = least_time (J k) k.tau in
    let z : suc (r - 1) ≡ r = omega arith in
    let b = behind k x (r - 1) es a due c.rest (omega (arith, long (J k) k.tau r some (omega arith), mul_comm k.tau (r - 1), spread k)) in
    rw (rw z at b) (fewer k es a due some c.rest)
fewer k (ticked c ∷ es) now due some q = let t = ticks q in fewer k es c (c + k.tau) some t.rest

pub fewer-ticks : FewerTicks
fewer-ticks k start es q = fewer k es start 0 q.some q.kept

-- ---- so none is handed up twice

-- What does not come behind so many ticks does not behind one copy less, nor behind more ticks.
pub dropped : (n y x a : ℕ) (es : List Event) → none_behind n y (came x a ∷ es) ≡ true → none_behind n y es ≡ true
unfolding none_behind indices elem
dropped zero y x a es e = go (eqb y x) e
  where
    go : (b : Bool) → not (b || elem y (indices es)) ≡ true → not (elem y (indices es)) ≡ true
    go true e = absurd (false≢true e)
    go false e = e
dropped (suc n) y x a es e = e

later : (n y : ℕ) (es : List Event) → none_behind n y es ≡ true → none_behind (suc n) y es ≡ true
unfolding none_behind indices
later n y [] e = refl
later zero y (came x a ∷ es) e = later zero y es (dropped zero y x a es e)
later zero y (ticked c ∷ es) e = e
later (suc n) y (came x a ∷ es) e = later (suc n) y es e
later (suc n) y (ticked c ∷ es) e = later n y es e

later-by : (d n y : ℕ) (es : List Event) → none_behind n y es ≡ true → none_behind (n + d) y es ≡ true
later-by zero n y es e = let z : n + 0 ≡ n = omega arith in rw z e
later-by (suc d) n y es e = let z : n + suc d ≡ suc (n + d) = omega arith in rw z (later (n + d) y es (later-by d n y es e))

-- The same of all indices.
pub more-ticks : (n m : ℕ) (es : List Event) → n ≤ m → fewer_between n es ≡ true → fewer_between m es ≡ true
unfolding fewer_between
more-ticks n m [] h q = refl
more-ticks n m (came x a ∷ es) h q =
    let p = simp tests at q in
    let z : n + (m - n) ≡ m = omega arith in
    rw (rw z at (later-by (m - n) n x es p.0)) (more-ticks n m es h p.1)
more-ticks n m (ticked c ∷ es) h q = more-ticks n m es h q

pub no_more : (y : ℕ) (es : List Event) → none_behind 0 y es ≡ true → elem y (indices es) ≡ false
unfolding none_behind
no_more y es e = go (elem y (indices es)) refl
  where
    go : (b : Bool) → elem y (indices es) ≡ b → elem y (indices es) ≡ false
    go true q = absurd (false≢true (ap not (sym q) ∙ e))
    go false q = q

-- us were handed up in all, hs since the stream last forgot: what it has forgotten comes no more, and what it remembers does not come
-- behind the tick at which it forgets.
record Kept (left : ℕ) (hs us : List ℕ) (es : List Event) : Type 0 where
  forgotten : (y : ℕ) → elem y us ≡ true → elem y hs ≡ false → elem y (indices es) ≡ false
  remembers : (y : ℕ) → elem y hs ≡ true → none_behind left y es ≡ true

module _ (l r : ℕ) where
  module _ {left x a : ℕ} {hs us : List ℕ} {es : List Event} (o : Kept left hs us (came x a ∷ es)) where
    on-pass : Kept left hs us es
    unfolding indices
    on-pass = record {
      forgotten = λ y i j. not_there y x (indices es) (o.forgotten y i j);
      remembers = λ y i. dropped left y x a es (o.remembers y i);
    }

    on-up : left ≤ r → none_behind r x es ≡ true → Kept r (x ∷ hs) (x ∷ us) es
    on-up few h = record {
      forgotten = λ y i j. lost y j (either y x us i);
      remembers = λ y i. stays y (either y x hs i);
    }
      where
        lost : (y : ℕ) → elem y (x ∷ hs) ≡ false → (y ≡ x) ⊎ (elem y us ≡ true) → elem y (indices es) ≡ false
        lost y j (inl e) = absurd (not-here y x hs j e)
        lost y j (inr e) = on-pass.forgotten y e (not_there y x hs j)

        stays : (y : ℕ) → (y ≡ x) ⊎ (elem y hs ≡ true) → none_behind r y es ≡ true
        stays y (inl e) = rw e h
        stays y (inr e) = let z : left + (r - left) ≡ r = omega arith in rw z at (later-by (r - left) left y es (on-pass.remembers y e))

    -- What comes and is not remembered was not handed up.
    is-new : elem x hs ≡ false → elem x us ≡ false
    unfolding indices
    is-new j = go (elem x us) refl
      where
        go : (b : Bool) → elem x us ≡ b → elem x us ≡ false
        go true i = absurd (not-here x x (indices es) (o.forgotten x i j) refl)
        go false i = i

  on-tick : {n c : ℕ} {hs us : List ℕ} {es : List Event} → Kept (suc n) hs us (ticked c ∷ es) → Kept n hs us es
  unfolding none_behind indices
  on-tick o = record { forgotten = o.forgotten; remembers = o.remembers }

  on-reset : {c : ℕ} {hs us : List ℕ} {es : List Event} → Kept 1 hs us (ticked c ∷ es) → Kept 0 [] us es
  unfolding none_behind indices
  on-reset {c} {hs} {us} {es} o = record { forgotten = λ y i j. go y i (elem y hs) refl; remembers = λ y i. absurd (none y i) }
    where
      go : (y : ℕ) → elem y us ≡ true → (b : Bool) → elem y hs ≡ b → elem y (indices es) ≡ false
      go y i true q = no_more y es (o.remembers y q)
      go y i false q = o.forgotten y i q

  tells : (es : List Event) (left : ℕ) (hs us : List ℕ) → Kept left hs us es → left ≤ r → fewer_between r es ≡ true
      → Single us (handed_of (forgetting l r left hs es) (indices es))
  unfolding fewer_between indices forgetting remembered handed_of distinct elem none_behind
  tells [] left hs us o w q = record { apart = refl; fresh = λ y e. refl }
  tells (came x a ∷ es) left hs us o w q =
      let p = simp tests at q in
      go (is_up (judged l hs x)) refl p.0 (λ left hs us o w. tells es left hs us o w p.1)
    where
      go : (v : Bool) → is_up (judged l hs x) ≡ v → none_behind r x es ≡ true
          → ((left : ℕ) (hs us : List ℕ) → Kept left hs us es → left ≤ r → Single us (handed_of (forgetting l r left hs es) (indices es)))
          → Single us (handed_of (forgetting l r left hs (came x a ∷ es)) (x ∷ indices es))
      go true i h g =
          rw i (add x us (handed_of (forgetting l r r (x ∷ hs) es) (indices es)) (is-new o (new l hs x i)) (g r (x ∷ hs) (x ∷ us) (on-up o w h) (omega arith)))
      go false i h g = rw i (g left hs us (on-pass o) w)
  tells (ticked c ∷ es) zero hs us o w q = tells es 0 hs us (record { forgotten = o.forgotten; remembers = o.remembers }) w q
  tells (ticked c ∷ es) (suc zero) hs us o w q = tells es 0 [] us (on-reset o) (omega arith) q
  tells (ticked c ∷ es) (suc (suc n)) hs us o w q =
      let z : suc (suc n) - 1 ≡ suc n = omega arith in
      rw (ne_eqb (suc (suc n)) 1 (λ e. omega arith), z) (tells es (suc n) hs us (on-tick o) (omega arith) q)

pub none-twice : {A : Type 0} {sees : Sees A} → DecidesAcross sees → NoneTwice sees
none-twice d t i run es f p few near =
    let e = d t i run es f p near in
    let s = tells (at t i).window (at t i).time es 0 [] [] (record { forgotten = λ y i j. absurd (none y i); remembers = λ y i. absurd (none y i) }) (omega arith) few in
    record { verdicts = e; once = rw e s.apart }
