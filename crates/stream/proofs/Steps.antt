-- The two steps of the code are the decision. Assumes nothing.
use Rattle.std.proofs.Common.{◌≡◌, ℕ, ◌-◌, ◌^◌, ◌<◌, ◌≤◌, Bool, true, false, eqb, sym, refl, ap, ◌∙◌, subst, arith, pow_pos, ltb-true, lt-ltb, le-leb}
use mathlib.Core.Option.{some}
use Rattle.std.specs.Prelude.{Some}
use Rattle.std.specs.Prelude.{if◌then◌else◌}
use Rattle.record.specs.Words.{yes}
use Rattle.record.specs.Sizes.{window_least, window_most, vector_rule}
use Rattle.stream.specs.History.{History, value, empty, single, bit, within, marked, marked_first}
use Rattle.stream.specs.Record.{Stream, lawful}
use Rattle.stream.specs.Decisions.{Case, first, far, again, late, next, moved, case_of, verdict_of, handed_up, state_after, out_of_order, losses, counts_after, with, verdict, decided}
use Rattle.stream.specs.Steps.{Marks, Weighed, marks_of, history_after, short_after, HandedUp, Duplicate, Rogue, weighed_as, weighed, said, record_up, record_after, record_short}
use Rattle.stream.specs.Laws.{StepsTellVerdict, StepsDecide, StepsDamaged, StepsLeave, ShortStep}
use Rattle.stream.proofs.Past.{no_value, empty-bit, marked-late, marked_next, marked-first, marked-up, marked-there}
use Rattle.stream.proofs.Law.{Law, law, size, idle-fresh, fresh-parts, vector-within}
use Rattle.stream.proofs.Told.{Fact, case-told}

module _ (s : Stream) (n : ℕ) where
  tells : (c : Case) → said (Some (weighed_as s n c)) ≡ some (verdict_of c)
  unfolding weighed_as
  tells first = refl
  tells far = refl
  tells again = refl
  tells (late k) = refl
  tells (next d) = refl
  tells (moved b) = refl

  -- The history after the marks of a case is that of the case.
  fits : Law s → (m : Marks) → eqb s.rule vector_rule ≡ true → m.places < s.window → m.bit < window_most
      → history_after s.rule s.window m s.state.history ≡ marked s.window m.places m.bit s.state.history
  unfolding history_after
  fits l m r p b = rw (r, lt-ltb m.places s.window p, le-leb s.window window_most (size l).most, lt-ltb m.bit window_most b)

  stays : (m : Marks) → eqb s.rule vector_rule ≡ false → history_after s.rule s.window m s.state.history ≡ s.state.history
  unfolding history_after
  stays m r = rw r

  first-history : Law s → yes s.state.any ≡ true
      → history_after s.rule s.window (marks_of s n first) s.state.history ≡ (if eqb s.rule vector_rule then single else empty)
  first-history l a = go (eqb s.rule vector_rule) refl
    where
      none : s.state.history ≡ empty
      none = (fresh-parts {t = s.state} (idle-fresh l a)).history

      go : (v : Bool) → eqb s.rule vector_rule ≡ v
          → history_after s.rule s.window (marks_of s n first) s.state.history ≡ (if v then single else empty)
      go true r =
          let w : window_least ≤ s.window = (size l).least in
          fits l (marks_of s n first) r (omega arith) (omega arith) ∙ ap (marked s.window 0 0) none ∙ marked-first s.window
      go false r = stays (marks_of s n first) r ∙ none

  gives : (network : ℕ) (c : Case) → Law s → Fact s c
      → record_after s network (Some (weighed_as s n c)) ≡ with s (state_after s n c) (counts_after s network c)
  unfolding weighed_as record_after state_after counts_after out_of_order losses
  gives network first l a =
      ap (λ (h : History). with s (handed_up s n (if eqb s.rule vector_rule then s.window - 1 else 0) h) (counts_after s network first))
      (first-history l a)
  gives network far l f = refl
  gives network again l f = refl
  gives network (late k) l (a, r, b, z) =
      let w : s.window ≤ window_most = (size l).most in
      ap (λ (h : History). with s (handed_up s s.state.anchor s.state.early h) (counts_after s network (late k)))
      (fits l (marks_of s n (late k)) r (omega arith) (omega arith) ∙ marked-late s.window k s.state.history)
  gives network (next d) l (a, r, b, z) =
      let w : s.window ≤ window_most = (size l).most in
      ap (λ (h : History). with s (handed_up s n (s.state.early - d) h) (counts_after s network (next d)))
      (fits l (marks_of s n (next d)) r z (omega arith) ∙ marked_next s.window d s.state.history)
  gives network (moved b) l (a, r) =
      ap (λ (h : History). with s (handed_up s n s.state.early h) (counts_after s network (moved b))) (stays (marks_of s n (moved b)) r)

  -- By the first word alone, where the window is at most a word.
  module _ (l : Law s) (word : s.window ≤ 64) where
    short-fits : (m : Marks) → eqb s.rule vector_rule ≡ true → m.places < s.window → m.bit < 64
        → short_after s.rule s.window m s.state.history ≡ marked_first s.window m.places m.bit s.state.history
    unfolding short_after
    short-fits m r p b = rw (r, lt-ltb m.places s.window p, le-leb s.window 64 word, lt-ltb m.bit 64 b)

    short-stays : (m : Marks) → eqb s.rule vector_rule ≡ false → short_after s.rule s.window m s.state.history ≡ s.state.history
    unfolding short_after
    short-stays m r = rw r

    abbrev Alike : Marks → Type 0
    Alike m = short_after s.rule s.window m s.state.history ≡ history_after s.rule s.window m s.state.history

    alike : (m : Marks) → eqb s.rule vector_rule ≡ true → m.places < s.window → m.bit < 64
        → marked_first s.window m.places m.bit s.state.history ≡ marked s.window m.places m.bit s.state.history → Alike m
    alike m r p b e = short-fits m r p b ∙ e ∙ sym (fits l m r p (omega arith))

    below : yes s.state.any ≡ false → eqb s.rule vector_rule ≡ true → value s.state.history < 2 ^ s.window
    unfolding within
    below a r = ltb-true (value s.state.history) (2 ^ s.window) (vector-within l a r)

    first_alike : yes s.state.any ≡ true → Alike (marks_of s n first)
    first_alike a = go (eqb s.rule vector_rule) refl
      where
        none : s.state.history ≡ empty
        none = (fresh-parts {t = s.state} (idle-fresh l a)).history

        clear : value s.state.history < 2 ^ s.window
        clear = rw (none, no_value) (pow_pos s.window)

        go : (v : Bool) → eqb s.rule vector_rule ≡ v → Alike (marks_of s n first)
        go true r =
            let w : window_least ≤ s.window = (size l).least in
            alike (marks_of s n first) r (omega arith) (omega arith)
            (marked-there s.window word s.state.history clear 0 (ap (bit 0) none ∙ empty-bit 0))
        go false r = short-stays (marks_of s n first) r ∙ sym (stays (marks_of s n first) r)

    abbrev shortened : (network : ℕ) → Weighed → Stream
    shortened network (HandedUp m) = record_short s network m
    shortened network Duplicate = record_after s network (Some Duplicate)
    shortened network Rogue = record_after s network (Some Rogue)

    shortens : (network : ℕ) (c : Case) → Fact s c
        → shortened network (weighed_as s n c) ≡ record_after s network (Some (weighed_as s n c))
    unfolding weighed_as record_after record_short
    shortens network first a = ap (record_up s network (marks_of s n first)) (first_alike a)
    shortens network far f = refl
    shortens network again f = refl
    shortens network (late k) (a, r, b, z) =
        ap (record_up s network (marks_of s n (late k)))
        (alike (marks_of s n (late k)) r (omega arith) (omega arith) (marked-there s.window word s.state.history (below a r) k z))
    shortens network (next d) (a, r, b, z) =
        ap (record_up s network (marks_of s n (next d)))
        (alike (marks_of s n (next d)) r z (omega arith) (marked-up s.window word s.state.history (below a r) d 0 b))
    shortens network (moved b) (a, r) =
        ap (record_up s network (marks_of s n (moved b))) (short-stays (marks_of s n (moved b)) r ∙ sym (stays (marks_of s n (moved b)) r))

pub steps-tell-verdict : StepsTellVerdict
unfolding weighed verdict
steps-tell-verdict s n l = rw l (tells s n (case_of s n))

pub steps-decide : StepsDecide
unfolding weighed decided
steps-decide s n network l = rw l (gives s n network (case_of s n) (law l) (case-told s n).fact)

pub steps-damaged : StepsDamaged
unfolding weighed
steps-damaged s n l = rw l

pub steps-leave : StepsLeave
unfolding record_after
steps-leave s n network l = rw (steps-damaged s n l)

pub short-step : ShortStep
unfolding weighed
short-step s n network m word e = go (lawful s) refl
  where
    go : (b : Bool) → lawful s ≡ b → record_short s network m ≡ record_after s network (Some (HandedUp m))
    go false l = let d = steps-damaged s n l in cc
    go true l =
        let same : Some (weighed_as s n (case_of s n)) ≡ Some (HandedUp m) = rw l at e in
        let is : weighed_as s n (case_of s n) ≡ HandedUp m = cc in
        subst (λ (w : Weighed). shortened s n (law l) word network w ≡ record_after s network (Some w)) is
        (shortens s n (law l) word network (case_of s n) (case-told s n).fact)
