-- What a decision changes. Assumes nothing.
use Rattle.std.proofs.Common.{◌≡◌, ℕ, Bool, true, false, not, eqb, ltb, sym, refl, ap, ◌∙◌}
use Rattle.std.specs.Prelude.{if◌then◌else◌}
use Rattle.stream.specs.History.{History, bit}
use Rattle.stream.specs.Record.{Stream}
use Rattle.stream.specs.Decisions.{Case, first, far, again, late, next, moved, vector_case, case_of, verdict_of, is_up, state_after, out_of_order, rise, tally, counts_after, verdict, decided, behind}
use Rattle.stream.specs.Laws.{DuplicateChanges, RogueChanges, OnlyUpRenews, OnlyUpPasses, AnchorStays, Coincide}

module _ (s : Stream) (n : ℕ) where
  pub kept : (c : Case) → is_up (verdict_of c) ≡ false → state_after s n c ≡ s.state
  unfolding state_after
  kept first e = cc
  kept far e = refl
  kept again e = refl
  kept (late k) e = cc
  kept (next d) e = cc
  kept (moved b) e = cc

  pub in_order : (c : Case) → is_up (verdict_of c) ≡ false → out_of_order c ≡ false
  unfolding out_of_order
  in_order first e = cc
  in_order far e = refl
  in_order again e = refl
  in_order (late k) e = cc
  in_order (next d) e = cc
  in_order (moved b) e = cc

  renewed : (c : Case) → (state_after s n c).remaining ≡ (if is_up (verdict_of c) then s.time else s.state.remaining)
  unfolding state_after
  renewed first = refl
  renewed far = refl
  renewed again = refl
  renewed (late k) = refl
  renewed (next d) = refl
  renewed (moved b) = refl

not-if : (b : Bool) (x y : ℕ) → (if not b then x else y) ≡ (if b then y else x)
not-if true x y = refl
not-if false x y = refl

pub duplicate-changes : DuplicateChanges
unfolding decided counts_after tally verdict
duplicate-changes s n w e =
    let q : is_up (verdict_of (case_of s n)) ≡ false = ap is_up e in
    rw (kept s n (case_of s n) q, in_order s n (case_of s n) q, e, not-if (eqb w 0) (rise s.counts.arrivals1 1) s.counts.arrivals1)

pub rogue-changes : RogueChanges
unfolding decided counts_after tally verdict
rogue-changes s n w e =
    let q : is_up (verdict_of (case_of s n)) ≡ false = ap is_up e in
    rw (kept s n (case_of s n) q, in_order s n (case_of s n) q, e, not-if (eqb w 0) (rise s.counts.arrivals1 1) s.counts.arrivals1)

pub only-up-renews : OnlyUpRenews
unfolding decided verdict
only-up-renews s n w = renewed s n (case_of s n)

pub only-up-passes : OnlyUpPasses
unfolding decided verdict counts_after tally
only-up-passes s n w = refl

-- A number behind the anchor: far, again or late.
stays : (s : Stream) (n : ℕ) (window : ℕ) (h : History) (k : ℕ) → (state_after s n (vector_case window h (behind k))).anchor ≡ s.state.anchor
unfolding vector_case state_after
stays s n window h k = go (ltb k window) (bit k h)
  where
    go : (a b : Bool) → (state_after s n (if a then (if b then again else late k) else far)).anchor ≡ s.state.anchor
    go true true = refl
    go true false = refl
    go false b = refl

pub anchor-stays : AnchorStays
unfolding decided case_of
anchor-stays s n w k a r e = rw (a, r, e) (stays s n s.window s.state.history k)

pub coincide : Coincide
coincide A meant one other p q = p ∙ sym q
