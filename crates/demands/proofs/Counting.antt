-- How lost moves with one arrival: by the indices that are missed from then on. Assumes nothing.
use Prim.Native.Nat.{ℕ, zero, suc, ◌+◌, ◌-◌, ◌%◌, ◌^◌, ◌≤◌, ◌<◌}
use mathlib.Core.Path.{◌≡◌, refl, ap, sym, ◌∙◌}
use mathlib.Core.Bool.{Bool, true, false, not, ◌&&◌, ◌||◌, false≢true}
use mathlib.Core.List.{List, [], ◌∷◌}
use native.Mathlib.Nat.{mod-add-mod}
use native.Mathlib.Omega.{arith}
use native.Mathlib.Decide.{dec_lt}
use lib.Dec.{eqb}
use borrow.Author.Tests.{eq-eqb, ne_eqb}
use Rattle.record.specs.Words.{yes as holds}
use Rattle.record.specs.Sizes.{vector_rule, window_most}
use Rattle.stream.specs.History.{History, bit, one, leaving}
use Rattle.stream.specs.Record.{Stream}
use Rattle.stream.specs.Decisions.{is_up, rise, losses, tally, counts_after, case_of, verdict_of, state_after, decided}
use Rattle.stream.proofs.Changes.{kept}
use Rattle.stream.proofs.Leaves.{leaving-last}
use Rattle.demands.specs.Unlimited.{elem, highest, apart, judged, remembered, near}
use Rattle.demands.specs.Lost.{absent, missed}
use Rattle.demands.proofs.Handed.{top, more}
use Rattle.demands.proofs.Linked.{Linked, Sim, next-case, late-case, on-arrival}
use Rattle.demands.proofs.Absent.{absent-beyond, within}
use Rattle.demands.proofs.Once.{new}

-- The first stands among those handed up, early is what the highest has left of its L - 1 places, and lost counts the missed.
pub record Counted (l first before : ℕ) (s : Stream) (hs : List ℕ) : Type 0 where
  pub has : elem first hs ≡ true
  pub early : s.state.early ≡ first + (l - 1) - highest hs
  pub lost : s.counts.lost ≡ rise before (missed l first hs)

rise-twice : (c a b : ℕ) → rise (rise c a) b ≡ rise c (a + b)
rise-twice c a b = mod-add-mod (c + a) (2 ^ 64) b ∙ ap (λ (n : ℕ). n % 2 ^ 64) (omega arith)

or-true : (b : Bool) → b || true ≡ true
or-true true = refl
or-true false = refl

-- The places left after d more: some, or none.
some_left : (a m d : ℕ) → m + d < a → a - m - d ≡ 0 → ⊥
some_left a m d b e = omega arith

none_left : (a m d : ℕ) → a ≤ m + d → a - m - d ≡ 0
none_left a m d b = omega arith

-- The next place up lets one index more fall to highest - L. If it comes after the first and was not handed up it counts.
module _ (l f : ℕ) (most : l ≤ window_most) (h : History) (hs : List ℕ) (has : elem f hs ≡ true)
    (seen : (x k : ℕ) → x + k ≡ highest hs → k < l → bit k h ≡ elem x hs) where
  one_more : (d : ℕ) → d < l
      → absent f hs (highest hs + suc d - l - f)
      ≡ absent f hs (highest hs + d - l - f) + one (eqb (f + (l - 1) - highest hs - d) 0 && not (bit (l - 1 - d) h))
  unfolding absent
  one_more d b = elim (dec_lt (highest hs + d) (l + f)) [
    | no p ↦
        let n : ℕ = highest hs + d - l - f in
        let e : highest hs + suc d - l - f ≡ suc n = omega arith in
        let z : eqb (f + (l - 1) - highest hs - d) 0 ≡ true = eq-eqb (f + (l - 1) - highest hs - d) 0 (none_left (f + (l - 1)) (highest hs) d (omega arith)) in
        let y : bit (l - 1 - d) h ≡ elem (f + suc n) hs = seen (f + suc n) (l - 1 - d) (omega arith) (omega arith) in
        rw (e, z, y) (omega arith)
    | yes p ↦
        let e : highest hs + suc d - l - f ≡ 0 = omega arith in
        let g : highest hs + d - l - f ≡ 0 = omega arith in
        rw (e, g) (elim (dec_lt (highest hs + d) (f + (l - 1))) [
          | yes q ↦ rw (ne_eqb (f + (l - 1) - highest hs - d) 0 (some_left (f + (l - 1)) (highest hs) d q))
          | no q ↦
              let z : eqb (f + (l - 1) - highest hs - d) 0 ≡ true = eq-eqb (f + (l - 1) - highest hs - d) 0 (none_left (f + (l - 1)) (highest hs) d (omega arith)) in
              rw (z, seen f (l - 1 - d) (omega arith) (omega arith), has)
        ])
  ]

  pub places-up : (d : ℕ) → d ≤ l
      → absent f hs (highest hs + d - l - f) ≡ missed l f hs + leaving l d (f + (l - 1) - highest hs) h
  unfolding leaving
  places-up zero b =
      let e : highest hs + 0 ≡ highest hs = omega arith in
      rw e (omega arith)
  places-up (suc d) b =
      let e = leaving-last l most d (f + (l - 1) - highest hs) h b in
      let o = one_more d b in
      let r = places-up d (omega arith) in
      omega arith

module _ (l : ℕ) (s : Stream) (rule : s.rule ≡ vector_rule) (window : s.window ≡ l) (least : 2 ≤ l) (most : l ≤ window_most) where
  pub on-first-counted : (x w : ℕ) → holds s.state.any ≡ true → Counted l x s.counts.lost (decided s (x % 65536) w) (x ∷ [])
  unfolding decided case_of state_after counts_after tally losses highest elem absent
  on-first-counted x w a = record {
    has = rw (eq-eqb x x refl);
    early = rw (a, rule, window) (omega arith);
    lost = let z : highest (x ∷ []) - l - x ≡ 0 = omega arith in rw (a, z);
  }

  module _ (f c h : ℕ) (hs : List ℕ) (linked : Linked l s.state (h ∷ hs)) (m : Counted l f c s (h ∷ hs)) where
    still-has : (x : ℕ) → elem f (x ∷ h ∷ hs) ≡ true
    still-has x = more f x (h ∷ hs) ∙ rw m.has (or-true (eqb f x))

    next-counted : (x d w : ℕ) → x ≡ highest (h ∷ hs) + d → 0 < d → d < l → Counted l f c (decided s (x % 65536) w) (x ∷ h ∷ hs)
    unfolding decided state_after counts_after tally losses
    next-counted x d w e a b =
        let n = next-case l s rule window least most h hs linked x d e a b in
        let t : highest (x ∷ h ∷ hs) ≡ highest (h ∷ hs) + d = omega (arith, top x (h ∷ hs)) in
        let p = places-up l f most s.state.history (h ∷ hs) m.has linked.seen d (omega arith) in
        let q = absent-beyond f x (highest (h ∷ hs) + d - l - f) (h ∷ hs) (omega arith) in
        let r = rise-twice c (missed l f (h ∷ hs)) (leaving l d (f + (l - 1) - highest (h ∷ hs)) s.state.history) in
        record {
          has = still-has x;
          early = rw (n, t, m.early) (omega arith);
          lost = rw (n, t, window, m.lost, m.early) (r ∙ ap (rise c) (sym (q ∙ p)));
        }

    late-counted : (x k w : ℕ) → highest (h ∷ hs) ≡ x + k → k < l → bit k s.state.history ≡ false
        → Counted l f c (decided s (x % 65536) w) (x ∷ h ∷ hs)
    unfolding decided state_after counts_after tally losses
    late-counted x k w e b z =
        let n = late-case l s rule window least most h hs linked x k e b z in
        let t : highest (x ∷ h ∷ hs) ≡ highest (h ∷ hs) = omega (arith, top x (h ∷ hs)) in
        let q = absent-beyond f x (highest (h ∷ hs) - l - f) (h ∷ hs) (omega arith) in
        let y : missed l f (h ∷ hs) + 0 ≡ missed l f (h ∷ hs) = omega arith in
        record {
          has = still-has x;
          early = rw (n, t) m.early;
          lost = rw (n, t, m.lost) (rise-twice c (missed l f (h ∷ hs)) 0 ∙ ap (rise c) (y ∙ sym q));
        }

    -- what is handed up
    up-counted : (x w : ℕ) → is_up (judged l (h ∷ hs) x) ≡ true → Counted l f c (decided s (x % 65536) w) (x ∷ h ∷ hs)
    unfolding apart
    up-counted x w e =
        let a = within l h hs x e in
        let o = new l (h ∷ hs) x e in
        elim (dec_lt (highest (h ∷ hs)) x) [
          | yes p ↦ next-counted x (x - highest (h ∷ hs)) w (omega arith) (omega arith) (omega arith)
          | no p ↦
              let k : ℕ = highest (h ∷ hs) - x in
              late-counted x k w (omega arith) (omega arith) (linked.seen x k (omega arith) (omega arith) ∙ o)
        ]

    -- and what is not
    kept-counted : (x w : ℕ) → is_up (verdict_of (case_of s (x % 65536))) ≡ false → Counted l f c (decided s (x % 65536) w) (h ∷ hs)
    unfolding decided counts_after tally
    kept-counted x w e = record {
      has = m.has;
      early = rw (kept s (x % 65536) (case_of s (x % 65536)) e) m.early;
      lost = rw e m.lost;
    }

  pub on-later-counted : (f c : ℕ) (hs : List ℕ) (x w : ℕ) → Sim l s.state hs → near l hs x ≡ true → Counted l f c s hs
      → Counted l f c (decided s (x % 65536) w) (remembered l hs x)
  unfolding elem remembered
  on-later-counted f c [] x w k r m = absurd (false≢true m.has)
  on-later-counted f c (h ∷ hs) x w k r m = go (is_up (judged l (h ∷ hs) x)) refl
    where
      go : (v : Bool) → is_up (judged l (h ∷ hs) x) ≡ v → Counted l f c (decided s (x % 65536) w) (remembered l (h ∷ hs) x)
      go true e = rw e (up-counted f c h hs k m x w e)
      go false e = rw e (kept-counted f c h hs k m x w (ap is_up (on-arrival l s rule window least most (h ∷ hs) x k r).same ∙ e))
