-- A call is refused with n exactly if n is the first number of its list whose condition holds. Assumes nothing.
use Prim.Native.Nat.{ℕ, ◌+◌}
use mathlib.Core.Path.{◌≡◌, refl, sym, ap, ◌∙◌}
use mathlib.Core.Logic.{◌↔◌}
use mathlib.Core.Bool.{Bool, true, false, cond, not, ◌&&◌, ◌||◌}
use mathlib.Core.List.{List, [], ◌∷◌}
use native.Mathlib.Omega.{arith}
use lib.Dec.{eqb, ltb, leb}
use lib.ListN.{length}
use borrow.Author.Tests.{lt-ltb, le-ltb, ltb-true, ltb-false, le-leb, lt-leb, eqb-true, eqb-false}
use Rattle.refusal.specs.Checks.{Said, First, first_of}
use Rattle.refusal.specs.Checks.Said.{refused, answers}
use Rattle.refusal.specs.Numbers.{TABLE, LONG, SHORT, UNTAGGED, SLOT}
use Rattle.refusal.proofs.Checks.{first-exactly}
use Rattle.record.specs.declared.Stream.{Stream}
use Rattle.record.specs.Sizes.{frame_most}
use Rattle.record.specs.Words.{yes}
use Rattle.frame.specs.Frame.{Tag, type_at, is_tagged, head_short, tag_short, header_of, number_in, dest_of, vlan_of, untagged, read_of, rank_of, unranked}
use Rattle.frame.specs.Refusals.{too_long, short, no_tag}
use Rattle.stream.specs.Record.{settled, damaged}
use Rattle.stream.specs.Decisions.{verdict, expires}
use Rattle.calls.specs.Table.{Table, at, search, some_slot, hears, is_free, count}
use Rattle.calls.specs.Calls.{Call, arriving, linking, opening, closing, resetting, ticking, Act, refuse, closes, admitted, arrival_at, arrival, link_arrival, in_use, open-call, checked, act, answer, Answer, arrived, placed, done, swept, verdict_with}
use Rattle.frame.specs.Link.{Link, link_of, last_byte, but_last}
use Rattle.calls.specs.Refusals.{some, many_slots, no_network, checks_of, RefusedExactly}
use Rattle.calls.proofs.Search.{some-cons}

-- ---- the conditions, as the call tests them

pub some-slot : (p : Stream → Bool) (t : Table) → some p t ≡ some_slot p t
unfolding some some_slot search
some-slot p [] = refl
some-slot p (s ∷ t) = ap (λ (b : Bool). p s || b) (some-slot p t) ∙ sym (some-cons p s t)

not-below : (a b : ℕ) → leb b a ≡ not (ltb a b)
not-below a b = go (ltb a b) refl
  where
    go : (x : Bool) → ltb a b ≡ x → leb b a ≡ not x
    go true e = lt-leb b a (ltb-true a b e)
    go false e = le-leb b a (ltb-false a b e)

no_stream : (p : Stream → Bool) (t : Table) → leb (length t) (search p t) ≡ not (some p t)
unfolding some_slot
no_stream p t = not-below (search p t) (length t) ∙ ap not (sym (some-slot p t))

pub no-network : (n : ℕ) → ltb 1 n ≡ no_network n
no-network n = go (eqb n 0) (eqb n 1) refl refl
  where
    go : (a b : Bool) → eqb n 0 ≡ a → eqb n 1 ≡ b → ltb 1 n ≡ not (a || b)
    go true b e f = le-ltb 1 n (omega (arith, eqb-true n 0 e))
    go false true e f = le-ltb 1 n (omega (arith, eqb-true n 1 f))
    go false false e f = let x : n ≡ 0 → ⊥ = eqb-false n 0 e in let y : n ≡ 1 → ⊥ = eqb-false n 1 f in lt-ltb 1 n (omega arith)

not-and : (a b : Bool) → not (a && b) ≡ (not a || not b)
not-and true b = refl
not-and false b = refl

-- ---- what is read of a frame

pub read_first : (f : List ℕ)
    → read_of f
    ≡ cond (too_long frame_most f) (refused LONG) (cond (short f) (refused SHORT) (cond (no_tag f) (refused UNTAGGED) (answers (record { header = header_of f; number = number_in f }))))
unfolding read_of tag_short
read_first f = ap (cond (ltb frame_most (length f)) (refused LONG)) (go (head_short f) (is_tagged f) (ltb (length f) (type_at f + 8)) _)
  where
    go : (a b c : Bool) (x : Tag)
        → cond a (refused SHORT) (cond (not b) (refused UNTAGGED) (cond (b && c) (refused SHORT) (answers x)))
        ≡ cond (a || (b && c)) (refused SHORT) (cond (not b) (refused UNTAGGED) (answers x))
    go true b c x = refl
    go false true true x = refl
    go false true false x = refl
    go false false c x = refl

-- ---- a check in front of a call
answer-cond : (t : Table) (b : Bool) (n : ℕ) (a : Act) → answer t (cond b (refuse n) a) ≡ cond b (refused n) (answer t a)
unfolding answer
answer-cond t true n a = refl
answer-cond t false n a = refl

admitted-cond : (f : List ℕ) (b : Bool) (n : ℕ) (x : Said Tag) → admitted f (cond b (refused n) x) ≡ cond b (refused n) (admitted f x)
unfolding admitted
admitted-cond f true n x = refl
admitted-cond f false n x = refl

arrival-cond : (t : Table) (network : ℕ) (f out : List ℕ) (b : Bool) (n : ℕ) (x : Said Tag)
    → answer t (arrival t network f out (cond b (refused n) x)) ≡ cond b (refused n) (answer t (arrival t network f out x))
unfolding answer arrival
arrival-cond t network f out true n x = refl
arrival-cond t network f out false n x = refl

-- ---- each call says what its list says

-- its answer where it is not refused
abbrev slot_for : Table → List ℕ → ℕ
slot_for t f = search (hears false (dest_of f) (vlan_of f)) t

arrival-says : (t : Table) (network : ℕ) (f out : List ℕ)
    → answer t (act t (arriving network f out))
    ≡ first_of (checks_of t (arriving network f out)) (arrived (slot_for t f) (number_in f) (rank_of f) (verdict_with (length (untagged f)) (verdict (at t (slot_for t f)) (number_in f))))
unfolding act checked admitted arrival arrival_at answer checks_of first_of header_of
arrival-says t network f out = simp (answer-cond, read_first, admitted-cond, arrival-cond, no-network, no_stream)

-- an arrival of a virtual link
link-cond : (t : Table) (network : ℕ) (f out : List ℕ) (b : Bool) (n : ℕ) (x : Said Link)
    → answer t (link_arrival t network f out (cond b (refused n) x)) ≡ cond b (refused n) (answer t (link_arrival t network f out x))
unfolding answer link_arrival
link-cond t network f out true n x = refl
link-cond t network f out false n x = refl

abbrev link_for : Table → List ℕ → ℕ
link_for t f = search (hears true (dest_of f) 0) t

link-says : (t : Table) (network : ℕ) (f out : List ℕ)
    → answer t (act t (linking network f out))
    ≡ first_of (checks_of t (linking network f out)) (arrived (link_for t f) (last_byte f) unranked (verdict_with (length (but_last f)) (verdict (at t (link_for t f)) (last_byte f))))
unfolding act checked link_arrival link_of arrival_at answer checks_of first_of
link-says t network f out = simp (answer-cond, link-cond, no-network, no_stream)

module _ (t : Table) where
  open-says : (dest : List ℕ) (vlan rule window time : ℕ)
      → answer t (act t (opening dest vlan rule window time)) ≡ first_of (checks_of t (opening dest vlan rule window time)) (placed (search is_free t))
  unfolding act checked open-call checks_of first_of answer settled
  open-says dest vlan rule window time = simp (answer-cond, some-slot)

  slot-says : (i : ℕ) → not (in_use t i) ≡ (leb (length t) i || is_free (at t i))
  unfolding in_use is_free
  slot-says i = not-and (ltb i (length t)) (yes (at t i).used) ∙ ap (λ (b : Bool). b || is_free (at t i)) (sym (not-below i (length t)))

  close-says : (i : ℕ) → answer t (act t (closing i)) ≡ first_of (checks_of t (closing i)) done
  unfolding act checked checks_of first_of answer
  close-says i = go (many_slots t) (in_use t i) ∙ ap (λ (b : Bool). cond (many_slots t) (refused TABLE) (cond b (refused SLOT) (answers done))) (slot-says i)
    where
      go : (a b : Bool) → answer t (cond a (refuse TABLE) (cond b (closes i) (refuse SLOT))) ≡ cond a (refused TABLE) (cond (not b) (refused SLOT) (answers done))
      go true b = refl
      go false true = refl
      go false false = refl

  reset-says : (i : ℕ) → answer t (act t (resetting i)) ≡ first_of (checks_of t (resetting i)) done
  unfolding act checked checks_of first_of answer
  reset-says i = simp (answer-cond, slot-says)

  tick-says : answer t (act t ticking) ≡ first_of (checks_of t ticking) (swept (count expires t) (count damaged t))
  unfolding act checked checks_of first_of answer
  tick-says = simp answer-cond

-- ---- the law

exactly : (t : Table) (c : Call) (n : ℕ) (a : Answer) → answer t (act t c) ≡ first_of (checks_of t c) a → (answer t (act t c) ≡ refused n) ↔ First n (checks_of t c)
exactly t c n a e = (λ h. (first-exactly Answer (checks_of t c) a n).0 (sym e ∙ h), λ h. e ∙ (first-exactly Answer (checks_of t c) a n).1 h)

pub refused-exactly : RefusedExactly
refused-exactly t (arriving network f out) n = exactly t _ n _ (arrival-says t network f out)
refused-exactly t (linking network f out) n = exactly t _ n _ (link-says t network f out)
refused-exactly t (opening dest vlan rule window time) n = exactly t _ n _ (open-says t dest vlan rule window time)
refused-exactly t (closing i) n = exactly t _ n _ (close-says t i)
refused-exactly t (resetting i) n = exactly t _ n _ (reset-says t i)
refused-exactly t ticking n = exactly t _ n _ (tick-says t)
