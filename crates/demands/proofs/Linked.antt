-- A record and the receiver with unlimited memory, side by side: one arrival. Assumes nothing.
use Prim.Native.Nat.{ℕ, zero, suc, ◌+◌, ◌-◌, ◌%◌, ◌≤◌, ◌<◌}
use mathlib.Core.Path.{◌≡◌, refl, ap, sym, ◌∙◌}
use mathlib.Core.Bool.{Bool, true, false, ◌||◌}
use mathlib.Core.List.{List, [], ◌∷◌}
use native.Mathlib.Omega.{arith}
use native.Mathlib.Decide.{dec_lt}
use lib.Dec.{eqb, ltb}
use borrow.Author.Tests.{lt-ltb, le-ltb, eqb-true, eqb-false, eq-eqb, ne_eqb}
use Rattle.record.specs.Words.{yes as holds}
use Rattle.record.specs.Sizes.{vector_rule, window_most}
use Rattle.stream.specs.History.{bit, single, advance}
use Rattle.stream.specs.Record.{State, Stream}
use Rattle.stream.specs.Decisions.{far, again, late, next, difference, vector_case, case_of, verdict_of, state_after}
use Rattle.demands.specs.Unlimited.{elem, highest, apart, judged, remembered, near}
use Rattle.stream.proofs.Logic.{tests}
use Rattle.stream.proofs.Past.{set-bit, advance-zero, advance-low, advance-high, single-bit}
use Rattle.demands.proofs.Wrap.{forward, backward, far-forward, far-backward}
use Rattle.demands.proofs.Handed.{above, top, more}

-- The anchor is the highest index handed up, modulo 65536, and bit k says whether the index k below it was handed up.
pub record Linked (l : ℕ) (t : State) (hs : List ℕ) : Type 0 where
  pub any : holds t.any ≡ false
  pub anchor : t.anchor ≡ highest hs % 65536
  pub seen : (x k : ℕ) → x + k ≡ highest hs → k < l → bit k t.history ≡ elem x hs

abbrev pub Sim : ℕ → State → List ℕ → Type 0
Sim l t [] = holds t.any ≡ true
Sim l t (h ∷ hs) = Linked l t (h ∷ hs)

pub record Step (l : ℕ) (s : Stream) (hs : List ℕ) (x : ℕ) : Type 0 where
  pub same : verdict_of (case_of s (x % 65536)) ≡ judged l hs x
  pub keeps : Sim l (state_after s (x % 65536) (case_of s (x % 65536))) (remembered l hs x)

-- Two tests on the same question.
eqb_same : (j k y x : ℕ) → y + j ≡ x + k → eqb j k ≡ eqb y x
eqb_same j k y x e = go (eqb j k) refl
  where
    go : (b : Bool) → eqb j k ≡ b → b ≡ eqb y x
    go true q = let r = eqb-true j k q in sym (eq-eqb y x (omega arith))
    go false q = let r : j ≡ k → ⊥ = eqb-false j k q in sym (ne_eqb y x (omega arith))

or-false : (b : Bool) → b || false ≡ b
or-false true = refl
or-false false = refl

module _ (l : ℕ) (s : Stream) (rule : s.rule ≡ vector_rule) (window : s.window ≡ l) (least : 2 ≤ l) (most : l ≤ window_most) where
  -- the first arrival
  first-linked : (x : ℕ) (t : State) → holds t.any ≡ false → t.anchor ≡ x % 65536 → t.history ≡ single → Linked l t (x ∷ [])
  unfolding highest elem
  first-linked x t a n e = record {
    any = a;
    anchor = n ∙ ap (λ (m : ℕ). m % 65536) (omega arith);
    seen = λ y k q b. ap (bit k) e ∙ single-bit k ∙ eqb_same k 0 y x (omega arith) ∙ sym (or-false (eqb y x));
  }

  on-first : (x : ℕ) → holds s.state.any ≡ true → Step l s [] x
  unfolding case_of judged remembered state_after holds
  on-first x a = record { same = rw a; keeps = rw (a, rule) (first-linked x _ refl refl refl) }

  module _ (h : ℕ) (hs : List ℕ) (linked : Linked l s.state (h ∷ hs)) where
    -- what the record makes of a number
    vector : (n : ℕ) → case_of s n ≡ vector_case l s.state.history (difference n (highest (h ∷ hs) % 65536))
    unfolding case_of
    vector n = rw (linked.any, rule, window, linked.anchor)

    -- far off: nothing changes
    on-far : (x : ℕ) → case_of s (x % 65536) ≡ far → l ≤ apart x (highest (h ∷ hs)) → Step l s (h ∷ hs) x
    unfolding judged remembered state_after
    on-far x c b = record { same = rw (c, le-ltb (apart x (highest (h ∷ hs))) l b); keeps = rw (c, le-ltb (apart x (highest (h ∷ hs))) l b) linked }

    -- ahead of the highest, within the window
    next-seen : (x d : ℕ) → x ≡ highest (h ∷ hs) + d → 0 < d → d < l → (y k : ℕ) → y + k ≡ x → k < l
        → bit k (advance l d s.state.history) ≡ eqb y x || elem y (h ∷ hs)
    next-seen x d e a b y zero q c = rw (eq-eqb y x (omega arith)) (advance-zero l most d s.state.history (omega arith))
    next-seen x d e a b y (suc k) q c = elim (dec_lt (suc k) d) [
      | yes p ↦
          rw (ne_eqb y x (omega arith), above y (h ∷ hs) (omega arith))
          (advance-low l most d s.state.history (suc k) (omega arith) p c)
      | no p ↦
          let m : suc k ≡ (suc k - d) + d = omega arith in
          rw (ne_eqb y x (omega arith))
          (ap (λ (n : ℕ). bit n (advance l d s.state.history)) m
          ∙ advance-high l most d s.state.history (suc k - d) a (omega arith)
          ∙ linked.seen y (suc k - d) (omega arith) (omega arith))
    ]

    next-linked : (x d : ℕ) → x ≡ highest (h ∷ hs) + d → 0 < d → d < l
        → Linked l (state_after s (x % 65536) (next d)) (x ∷ h ∷ hs)
    unfolding state_after holds
    next-linked x d e a b = record {
      any = refl;
      anchor = ap (λ (n : ℕ). n % 65536) (omega (arith, top x (h ∷ hs)));
      seen = λ y k q c. rw (window, more y x (h ∷ hs)) (next-seen x d e a b y k (omega (arith, top x (h ∷ hs))) c);
    }

    pub next-case : (x d : ℕ) → x ≡ highest (h ∷ hs) + d → 0 < d → d < l → case_of s (x % 65536) ≡ next d
    unfolding vector_case
    next-case x d e a b = vector (x % 65536) ∙ rw (e, forward (highest (h ∷ hs)) d a (omega arith), lt-ltb d l b)

    on-next : (x d : ℕ) → x ≡ highest (h ∷ hs) + d → 0 < d → d < l → Step l s (h ∷ hs) x
    unfolding judged remembered apart
    on-next x d e a b =
        let c = next-case x d e a b in
        let n : elem x (h ∷ hs) ≡ false = above x (h ∷ hs) (omega arith) in
        let i : ltb (apart x (highest (h ∷ hs))) l ≡ true = lt-ltb (apart x (highest (h ∷ hs))) l (omega arith) in
        record { same = rw (c, i, n); keeps = rw (c, i, n) (next-linked x d e a b) }

    -- behind it, within the window, and not yet handed up
    late-linked : (x k : ℕ) → highest (h ∷ hs) ≡ x + k → k < l → bit k s.state.history ≡ false
        → Linked l (state_after s (x % 65536) (late k)) (x ∷ h ∷ hs)
    unfolding state_after holds
    late-linked x k e b z = record {
      any = refl;
      anchor = linked.anchor ∙ ap (λ (n : ℕ). n % 65536) (omega (arith, top x (h ∷ hs)));
      seen = λ y j q c.
          let r : y + j ≡ highest (h ∷ hs) = omega (arith, top x (h ∷ hs)) in
          set-bit l most k j s.state.history b c
          ∙ rw (eqb_same j k y x (omega arith), linked.seen y j r c, more y x (h ∷ hs));
    }

    pub late-case : (x k : ℕ) → highest (h ∷ hs) ≡ x + k → k < l → bit k s.state.history ≡ false → case_of s (x % 65536) ≡ late k
    unfolding vector_case
    late-case x k e b z = vector (x % 65536) ∙ rw (e, backward x k (omega arith), lt-ltb k l b, z)

    on-back : (x k : ℕ) → highest (h ∷ hs) ≡ x + k → k < l → Step l s (h ∷ hs) x
    unfolding judged remembered vector_case apart state_after
    on-back x k e b = go (bit k s.state.history) refl
      where
        i : ltb (apart x (highest (h ∷ hs))) l ≡ true
        i = lt-ltb (apart x (highest (h ∷ hs))) l (omega arith)

        go : (v : Bool) → bit k s.state.history ≡ v → Step l s (h ∷ hs) x
        go true z =
            let c : case_of s (x % 65536) ≡ again = vector (x % 65536) ∙ rw (e, backward x k (omega arith), lt-ltb k l b, z) in
            let n : elem x (h ∷ hs) ≡ true = sym (linked.seen x k (sym e) b) ∙ z in
            record { same = rw (c, i, n); keeps = rw (c, i, n) linked }
        go false z =
            let c = late-case x k e b z in
            let n : elem x (h ∷ hs) ≡ false = sym (linked.seen x k (sym e) b) ∙ z in
            record { same = rw (c, i, n); keeps = rw (c, i, n) (late-linked x k e b z) }

    on-ahead : (x d : ℕ) → x ≡ highest (h ∷ hs) + d → 0 < d → d ≤ 65536 - l → Step l s (h ∷ hs) x
    unfolding apart
    on-ahead x d e a b = elim (dec_lt d l) [
      | yes p ↦ on-next x d e a p
      | no p ↦ on-far x
          (vector (x % 65536) ∙ rw e (far-forward l s.state.history (highest (h ∷ hs)) d (omega arith) b (omega arith) (omega arith)))
          (omega arith)
    ]

    on-behind : (x k : ℕ) → highest (h ∷ hs) ≡ x + k → k ≤ 65536 - l → Step l s (h ∷ hs) x
    unfolding apart
    on-behind x k e b = elim (dec_lt k l) [
      | yes p ↦ on-back x k e p
      | no p ↦ on-far x
          (vector (x % 65536) ∙ rw e (far-backward l s.state.history x k (omega arith) b (omega arith) (omega arith)))
          (omega arith)
    ]

    -- any arrival after the first that is near enough
    on-later : (x : ℕ) → near l (h ∷ hs) x ≡ true → Step l s (h ∷ hs) x
    unfolding near apart
    on-later x r =
        let q = simp tests at r in
        let b : (x - highest (h ∷ hs)) + (highest (h ∷ hs) - x) ≤ 65536 - l = omega (arith, q) in
        elim (dec_lt (highest (h ∷ hs)) x) [
          | yes p ↦ on-ahead x (x - highest (h ∷ hs)) (omega arith) (omega arith) (omega arith)
          | no p ↦ on-behind x (highest (h ∷ hs) - x) (omega arith) (omega arith)
        ]

  pub on-arrival : (hs : List ℕ) (x : ℕ) → Sim l s.state hs → near l hs x ≡ true → Step l s hs x
  on-arrival [] x m r = on-first x m
  on-arrival (h ∷ hs) x m r = on-later h hs m x r
