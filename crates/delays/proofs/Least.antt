-- The constants are least; here the reset time and the wait. Assumes nothing.
use Prim.Native.Nat.{ℕ, zero, suc, ◌+◌, ◌-◌, ◌*◌, ◌/◌, ◌≤◌}
use mathlib.Core.Path.{◌≡◌, refl, ap, sym}
use mathlib.Core.Bool.{true, false, false≢true}
use mathlib.Core.List.{List, [], ◌∷◌, ◌++◌, map, head-eq_of_cons-eq, tail-eq_of_cons-eq}
use native.Mathlib.Omega.{arith}
use native.Mathlib.Nat.{mul-zero, mul-suc, mul_comm, mul-le-mul_left, div-mul-le_self}
use borrow.Author.Tests.{le-leb, ne_eqb}
use Rattle.stream.specs.Decisions.{is_up}
use Rattle.demands.specs.Unlimited.{elem, highest, judged, remembered}
use Rattle.demands.specs.Corollaries.{handed_of, distinct}
use Rattle.demands.specs.Missed.{firsts}
use Rattle.demands.proofs.Firsts.{under}
use Rattle.delays.specs.Line.{Known, least, most, Event, came, ticked, indices, kept, Keeps, Loses}
use Rattle.delays.specs.Forgetting.{forgetting}
use Rattle.delays.specs.StartedAgain.{copies_in, ticks_in}
use Rattle.delays.specs.Least.{even, Wrong, LeastConstants, LeastWait}
use Rattle.delays.proofs.Lists.{none}
use Rattle.delays.proofs.LeastWindow.{spaced-even, least-even, most-even, kept-came, window-less, traffic-less}

-- ---- the reset time: 0 comes as soon as it can, then R ticks from that instant on, then its twin as late as it can
abbrev beats : (tau n c : ℕ) → List Event → List Event
beats tau zero c es = es
beats tau (suc n) c es = ticked c ∷ beats tau n (c + tau) es

beats-indices : (tau n c : ℕ) (es : List Event) → indices (beats tau n c es) ≡ indices es
unfolding indices
beats-indices tau zero c es = refl
beats-indices tau (suc n) c es = beats-indices tau n (c + tau) es

-- They keep to what is known, if what follows does in its time.
beats-kept : (k : Known) (n c now due y a : ℕ) → now ≤ c → due ≤ c → now ≤ a → c + k.tau * n ≤ a + k.tau
    → k.sent y + least k ≤ a → a ≤ k.sent y + most k
    → kept k now due (beats k.tau n c (came y a ∷ [])) ≡ true
unfolding kept
beats-kept k zero c now due y a h g i f p q = kept-came k now due y a [] i p q refl
beats-kept k (suc n) c now due y a h g i f p q =
    let z = mul-suc k.tau n in
    rw (le-leb now c h, le-leb due c g) (beats-kept k n (c + k.tau) c (c + k.tau) y a (omega arith) (omega arith) (omega arith) (omega arith) p q)

forgets : (tau window time n c : ℕ) (hs : List ℕ) (es : List Event)
    → forgetting window time (suc n) hs (beats tau (suc n) c es) ≡ forgetting window time 0 [] es
unfolding forgetting
forgets tau window time zero c hs es = refl
forgets tau window time (suc n) c hs es =
    let p : suc (suc n) - 1 ≡ suc n = omega arith in
    rw (ne_eqb (suc (suc n)) 1 (omega arith), p) (forgets tau window time n (c + tau) hs es)

-- so many ticks between the two
abbrev twins : (tau q j n : ℕ) → List Event
twins tau q j n = came 0 q ∷ beats tau n q (came 0 (q + j) ∷ [])

twins-indices : (tau q j n : ℕ) → indices (twins tau q j n) ≡ 0 ∷ 0 ∷ []
unfolding indices
twins-indices tau q j n = rw (beats-indices tau n q (came 0 (q + j) ∷ []))

module _ (T q j tau m n : ℕ) (e : 1 ≤ tau) (few : n ≤ suc (j / tau)) where
  within : tau * n ≤ j + tau
  within =
      let z : tau * n ≤ tau * suc (j / tau) = mul-le-mul_left tau few in
      omega (arith, mul-suc tau (j / tau), mul_comm tau (j / tau), div-mul-le_self j tau)

  twins-keep : Keeps (even T q j tau m) 0 (twins tau q j n)
  twins-keep =
      let d = least-even T q j tau m in
      let u = most-even T q j tau m in
      let z = mul-zero T in
      record {
        some = e;
        kept = kept-came (even T q j tau m) 0 0 0 q _ (omega arith) (omega arith) (omega arith)
            (beats-kept (even T q j tau m) n q q 0 0 (q + j) (omega arith) (omega arith) (omega arith)
            (omega (arith, within)) (omega arith) (omega arith));
      }

  twins-lose : Loses (even T q j tau m) [] (twins tau q j n)
  unfolding highest
  twins-lose = record {
    awaits = λ y i. absurd (none y i);
    losses = λ h y i g c. absurd (let z : y ≤ highest (0 ∷ 0 ∷ []) = under y (0 ∷ 0 ∷ []) (rw (twins-indices tau q j n) at g) in omega arith);
  }

time-wrong : (tau q j window n : ℕ) → map is_up (forgetting window (suc n) 0 [] (twins tau q j (suc n))) ≡ firsts [] (indices (twins tau q j (suc n))) → ⊥
unfolding forgetting firsts judged remembered elem
time-wrong tau q j window n p =
    let f = forgets tau window (suc n) n q (0 ∷ []) (came 0 (q + j) ∷ []) in
    let r : true ∷ true ∷ [] ≡ true ∷ false ∷ [] = rw (twins-indices tau q j (suc n), f) at p in
    false≢true (sym (head-eq_of_cons-eq (tail-eq_of_cons-eq r)))

time-less : (T q j tau m window n : ℕ) → 1 ≤ T → 1 ≤ tau → n ≤ j / tau → Wrong (even T q j tau m) T window (suc n) []
time-less T q j tau m window n s e few = record {
  still = [];
  es = twins tau q j (suc n);
  sends = spaced-even T q j tau m s;
  keeps = twins-keep T q j tau m (suc n) e (omega arith);
  loses = twins-lose T q j tau m (suc n) e (omega arith);
  wrong = time-wrong tau q j window n;
}

pub least-constants : LeastConstants
least-constants = record {
  window = window-less;
  traffic = traffic-less;
  time = λ T q j tau m window time s e some less.
      let z : suc (time - 1) ≡ time = omega arith in
      rw z at (time-less T q j tau m window (time - 1) s e (omega arith));
}

-- ---- the wait: the same run, with its second copy in the new life

beats-append : (tau n c : ℕ) (es : List Event) → beats tau n c [] ++ es ≡ beats tau n c es
beats-append tau zero c es = refl
beats-append tau (suc n) c es = ap (λ (l : List Event). ticked c ∷ l) (beats-append tau n (c + tau) es)

beats-ticks : (tau n c : ℕ) → ticks_in (beats tau n c []) ≡ n
unfolding ticks_in
beats-ticks tau zero c = refl
beats-ticks tau (suc n) c = ap suc (beats-ticks tau n (c + tau))

pub least-wait : LeastWait
unfolding copies_in indices forgetting judged handed_of distinct elem
least-wait T q j tau m n s e less =
    let z = beats-append tau n q (came 0 (q + j) ∷ []) in
    record {
      old = came 0 q ∷ [];
      wait = beats tau n q [];
      es = came 0 (q + j) ∷ [];
      sends = spaced-even T q j tau m s;
      keeps = rw z (twins-keep T q j tau m n e (omega arith));
      loses = rw z (twins-lose T q j tau m n e (omega arith));
      waited = beats-ticks tau n q;
      twice = λ window time. refl;
    }
