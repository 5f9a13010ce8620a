-- Outages: none is taken for another. Assumes nothing.
use Prim.Native.Nat.{ℕ, suc, ◌+◌, ◌-◌, ◌*◌, ◌≤◌}
use mathlib.Core.Path.{◌≡◌, refl}
use mathlib.Core.Bool.{Bool, true, false}
use mathlib.Core.List.{List, [], ◌∷◌}
use native.Mathlib.Omega.{arith}
use native.Mathlib.Decide.{dec_lt}
use native.Mathlib.Nat.{mul-zero, mul-suc, mul_comm, mul-le-mul_left}
use lib.Dec.{eqb}
use borrow.Author.Tests.{le-leb, eqb-false}
use Rattle.stream.specs.Decisions.{is_up}
use Rattle.stream.proofs.Logic.{tests}
use Rattle.calls.specs.Table.{at}
use Rattle.demands.specs.Unlimited.{highest, apart, judged, remembered, near}
use Rattle.demands.proofs.Firsts.{under}
use Rattle.delays.specs.Formulas.{least_time, span}
use Rattle.delays.specs.Line.{Known, most, J, Sends, Event, came, ticked, kept, frequent}
use Rattle.delays.specs.Forgetting.{all_near_since}
use Rattle.delays.specs.OnceEach.{Sees, DecidesAcross, NoneForAnother}
use Rattle.delays.proofs.Lists.{top_in, here}
use Rattle.delays.proofs.Sending.{spread, no-sooner, apart_by, long, Comes, comes, Ticks, ticks}
use Rattle.delays.proofs.FewerTicks.{fewer-ticks, more-ticks, none-twice}
use Rattle.delays.proofs.Holds.{Holds, start-holds, on-up, on-pass, on-tick, on-reset}

-- The next tick comes soon enough after what was last handed up.
record Soon (k : Known) (r left : ℕ) (hs : List ℕ) (latest : ℕ) : Type 0 where
  some : 1 ≤ left
  few : left ≤ r
  bound : latest ≤ k.sent (highest hs) + most k + k.tau_most * suc (r - left)

abbrev Recent : (k : Known) (r left : ℕ) (hs : List ℕ) (latest : ℕ) → Type 0
Recent k r left [] latest = Unit {0}
Recent k r left (h ∷ hs) latest = Soon k r left (h ∷ hs) latest

older : (k : Known) (r left : ℕ) (hs : List ℕ) (latest c : ℕ) → Recent k r left hs latest → eqb left 1 ≡ false → c ≤ latest
    → Recent k r (left - 1) hs (c + k.tau_most)
older k r left [] latest c w e b = tt
older k r left (h ∷ hs) latest c w e b =
    let s = w.some in
    let f = w.few in
    let z : left ≡ 1 → ⊥ = eqb-false left 1 e in
    let y : r - (left - 1) ≡ suc (r - left) = omega arith in
    record { some = omega arith; few = omega arith; bound = rw (y, mul-suc k.tau_most (suc (r - left))) (omega (arith, w.bound)) }

module _ (k : Known) (some : 1 ≤ k.tau) (l r c : ℕ) (time : least_time (J k) k.tau ≤ r)
    (sends : Sends k (span r k.tau_most (J k)) c) (round : c ≤ 65536 - l) where
  module _ {left : ℕ} {hs us : List ℕ} {now due since x a : ℕ} {es : List Event} (o : Holds k r left hs us now due since)
      (e : Comes k now due x a es) (latest : ℕ) (u : a ≤ latest) where
    nearby : Recent k r left hs latest → near l hs x ≡ true
    unfolding near apart
    nearby w = go hs o w
      where
        go : (hs : List ℕ) → Holds k r left hs us now due since → Recent k r left hs latest → near l hs x ≡ true
        go [] o w = refl
        go (h ∷ hs) o w =
            let g = highest (h ∷ hs) in
            le-leb ((x - g) + (g - x)) (65536 - l)
            (elim (dec_lt g x) [
              | yes y ↦
                  let d : suc (r - left) ≤ r = omega (arith, w.some, w.few) in
                  let z = mul-le-mul_left k.tau_most d in
                  let f = apart_by sends g x (omega arith) (omega (arith, w.bound, mul_comm k.tau_most r, spread k)) in
                  omega arith
              | no y ↦
                  let f = apart_by sends x g (omega arith) (omega (arith, o.past g (o.known g (top_in h hs)), spread k)) in
                  omega arith
            ])

    renewed : latest ≤ a + k.tau_most → Recent k r r (x ∷ hs) latest
    renewed b =
        let z : r - r ≡ 0 = omega arith in
        let s = no-sooner sends x (highest (x ∷ hs)) (under x (x ∷ hs) (here x x hs refl)) in
        record { some = omega arith; few = omega arith; bound = rw (z, mul-suc k.tau_most 0, mul-zero k.tau_most) (omega arith) }

  nears : (es : List Event) (left : ℕ) (hs us : List ℕ) (now due since latest : ℕ) → Holds k r left hs us now due since
      → Recent k r left hs latest → latest ≤ now + k.tau_most
      → kept k now due es ≡ true → frequent k.tau_most latest es ≡ true
      → all_near_since l r left hs es ≡ true
  unfolding frequent all_near_since remembered
  nears [] left hs us now due since latest o w b q f = refl
  nears (came x a ∷ es) left hs us now due since latest o w b q f =
      let e = comes q in
      let u = simp tests at f in
      go e u.0 (is_up (judged l hs x)) refl (λ left hs us s v. nears es left hs us a due since latest s v (omega arith) e.rest u.1)
    where
      go : Comes k now due x a es → a ≤ latest → (v : Bool) → is_up (judged l hs x) ≡ v
          → ((left : ℕ) (hs us : List ℕ) → Holds k r left hs us a due since → Recent k r left hs latest → all_near_since l r left hs es ≡ true)
          → all_near_since l r left hs (came x a ∷ es) ≡ true
      go e u true i g = rw (nearby o e latest u w, i) (g r (x ∷ hs) (x ∷ us) (on-up o e) (renewed o e latest u (omega arith)))
      go e u false i g = rw (nearby o e latest u w, i) (g left hs us (on-pass o a e.ordered) w)
  nears (ticked t ∷ es) left hs us now due since latest o w b q f =
      let e = ticks q in
      let u = simp tests at f in
      go e u.0 (eqb left 1) refl
      (λ left hs since s v. nears es left hs us t (t + k.tau) since (t + k.tau_most) s v (omega arith) e.rest u.1)
    where
      go : Ticks k now due t es → t ≤ latest → (v : Bool) → eqb left 1 ≡ v
          → ((left : ℕ) (hs : List ℕ) (since : ℕ) → Holds k r left hs us t (t + k.tau) since → Recent k r left hs (t + k.tau_most)
          → all_near_since l r left hs es ≡ true)
          → all_near_since l r left hs (ticked t ∷ es) ≡ true
      go e u true i g = rw i (g 0 [] t (on-reset o e i (long (J k) k.tau r some time)) tt)
      go e u false i g = rw i (g (left - 1) hs since (on-tick o e) (older k r left hs latest t w i u))

pub none-for-another : {A : Type 0} {sees : Sees A} → DecidesAcross sees → NoneForAnother sees
none-for-another d k c start es t i run f p q ticks time s round =
    let r = (at t i).time in
    none-twice d t i run es f p (more-ticks (least_time (J k) k.tau) r es time (fewer-ticks k start es q))
    (nears k q.some (at t i).window r c time s round es 0 [] [] start 0 0 (start + k.tau_most) (start-holds k r start 0) tt (omega arith) q.kept ticks)
