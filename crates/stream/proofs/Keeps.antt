-- The decision, a tick, a reset and an open leave a record lawful. Assumes nothing.
use Rattle.std.proofs.Common.{◌≡◌, ℕ, zero, suc, ◌-◌, ◌<◌, ◌≤◌, Bool, true, false, not, ◌&&◌, ◌||◌, eqb, leb, sym, refl, ◌∙◌, zero-le, arith, ne_eqb, le-leb}
use borrow.Author.Tests.{eqb-false}
use Rattle.std.specs.Prelude.{if◌then◌else◌}
use Rattle.record.specs.Words.{yes}
use Rattle.record.specs.Sizes.{vector_rule, link_rule}
use Rattle.stream.specs.History.{History, empty, same, is_empty, single}
use Rattle.stream.specs.Record.{State, Counts, Stream, fresh, is_fresh, settled, placed, linked, shaped, lawful}
use Rattle.stream.specs.Decisions.{Case, first, far, again, late, next, moved, case_of, handed_up, with, state_after, counts_after, decided, reset, expires, aged, ticked}
use Rattle.stream.specs.Laws.{Fitting, LawfulWithoutCounters, DecidedLawful, TickedLawful, ResetLawful, OpenedLawful}
use Rattle.stream.proofs.Logic.{tests}
use Rattle.stream.proofs.Law.{Law, Sizes, law, unlaw, size}
use Rattle.stream.proofs.Told.{Fact, case-told}
use Rattle.stream.proofs.Early.{none-placed, first-placed, late-placed, next-placed}
use Rattle.stream.proofs.Past.{empty-is, set-bit, set-within, single-bit, single-within, advance-zero, advance-within}

pub lawful-without-counters : LawfulWithoutCounters
unfolding lawful settled
lawful-without-counters s c = refl

pub law-with : {s : Stream} (t : State) (c : Counts) → Law s → t ≡ s.state → Law (with s t c)
unfolding settled
law-with {s} t c l e = record {
  used = l.used;
  settled = l.settled;
  rest = rw e l.rest;
  idle = rw e l.idle;
  place = rw e l.place;
  shape = rw e l.shape;
}

-- What a reset and a tick leave: a lawful record with the same settings and no more ticks than one less.
pub record Aged (s u : Stream) : Type 0 where
  pub law : Law u
  pub rule : u.rule ≡ s.rule
  pub window : u.window ≡ s.window
  pub time : u.time ≡ s.time
  pub less : u.state.remaining ≤ s.state.remaining - 1

fresh-shape : (rule window : ℕ) → shaped rule window fresh ≡ true
unfolding shaped is_fresh yes is_empty same
fresh-shape rule window = refl

pub after-reset : (s : Stream) → yes s.used ≡ true → settled s ≡ true → Aged s (reset s)
unfolding reset settled yes
after-reset s u e = record {
  law = record { used = u; settled = e; rest = zero-le; idle = refl; place = none-placed s.window empty; shape = fresh-shape s.rule s.window };
  rule = refl;
  window = refl;
  time = refl;
  less = zero-le;
}

pub reset-lawful : ResetLawful
reset-lawful s u e = unlaw (after-reset s u e).law

pub opened-lawful : OpenedLawful
unfolding yes
opened-lawful dest vlan rule window time e =
    unlaw (record { used = refl; settled = e; rest = zero-le; idle = refl; place = none-placed window empty; shape = fresh-shape rule window })

idle-aged : (n : ℕ) → eqb n 1 ≡ false → eqb (n - 1) 0 ≡ eqb n 0
idle-aged zero e = refl
idle-aged (suc zero) e = absurd (eqb-false 1 1 e refl)
idle-aged (suc (suc n)) e =
    ne_eqb (suc (suc n) - 1) 0 (omega arith) ∙ sym (ne_eqb (suc (suc n)) 0 (omega arith))

after-age : {s : Stream} → Law s → eqb s.state.remaining 1 ≡ false → Aged s (with s (aged s.state) s.counts)
unfolding settled shaped is_fresh
after-age {s} l e = record {
  law = record {
    used = l.used;
    settled = l.settled;
    rest = omega (arith, l.rest);
    idle = idle-aged s.state.remaining e ∙ l.idle;
    place = l.place;
    shape = rw (idle-aged s.state.remaining e) l.shape;
  };
  rule = refl;
  window = refl;
  time = refl;
  less = omega arith;
}

pub after-tick : {s : Stream} → Law s → Aged s (ticked s)
unfolding ticked expires
after-tick {s} l = go (eqb s.state.remaining 1) refl
  where
    go : (b : Bool) → eqb s.state.remaining 1 ≡ b → Aged s (ticked s)
    go true e = rw (unlaw l, e) (after-reset s l.used l.settled)
    go false e = rw (unlaw l, e) (after-age l e)

pub ticked-lawful : TickedLawful
ticked-lawful s l = unlaw (after-tick (law l)).law

-- The decision: what is handed up leaves a lawful record if its history is placed and has the right shape.
or-true : (b : Bool) → b || true ≡ true
or-true true = refl
or-true false = refl

handed : {s : Stream} → Law s → (anchor n : ℕ) (history : History) (c : Counts)
    → placed s.window n history ≡ true
    → shaped s.rule s.window (handed_up s anchor n history) ≡ true
    → Law (with s (handed_up s anchor n history) c)
unfolding settled yes
handed {s} l anchor n history c q p = record {
  used = l.used;
  settled = l.settled;
  rest = omega arith;
  idle = let z : Sizes s = size l in ne_eqb s.time 0 (omega arith);
  place = q;
  shape = p;
}

-- a history that is zero, with a number that fits
unmarked : (s : Stream) (n : ℕ) (h : History) → is_empty h ≡ true → Fitting s n → (is_empty h && linked s.rule n) ≡ true
unfolding linked
unmarked s n h e f = go (eqb s.rule link_rule) refl
  where
    go : (b : Bool) → eqb s.rule link_rule ≡ b → (is_empty h && (not (eqb s.rule link_rule) || leb n 255)) ≡ true
    go true q = rw (e, q, le-leb n 255 (f q))
    go false q = rw (e, q)

keeps-case : {s : Stream} (n : ℕ) (c : Case) (d : Counts) → Fitting s n → Law s → Fact s c → Law (with s (state_after s n c) d)
unfolding state_after shaped yes
keeps-case {s} n first d m l f = handed l _ _ _ d (set (eqb s.rule vector_rule) refl) (go (eqb s.rule vector_rule) refl)
  where
    set : (b : Bool) → eqb s.rule vector_rule ≡ b
        → placed s.window (if eqb s.rule vector_rule then s.window - 1 else 0) (if eqb s.rule vector_rule then single else empty) ≡ true
    set true e = rw e (first-placed s.window)
    set false e = rw e (none-placed s.window empty)

    go : (b : Bool) → eqb s.rule vector_rule ≡ b
        → shaped s.rule s.window (handed_up s n (if eqb s.rule vector_rule then s.window - 1 else 0) (if eqb s.rule vector_rule then single else empty)) ≡ true
    go true e = rw e (rw (single-bit 0, single-within s.window (size l).most (omega (arith, (size l).least))))
    go false e = rw e (unmarked s n empty empty-is m)
keeps-case {s} n far d m l f = law-with s.state d l refl
keeps-case {s} n again d m l f = law-with s.state d l refl
keeps-case {s} n (late k) d m l (a, r, b, z) =
    let p = simp tests at (rw (a, r) at l.shape) in
    let o : 0 < s.window = omega arith in
    handed l _ _ _ d (late-placed s.window (size l).most s.state.early k s.state.history o b l.place) (rw r (rw (set-bit s.window (size l).most k 0 s.state.history b (omega (arith, (size l).least)), p.0, or-true (eqb 0 k), set-within s.window (size l).most k s.state.history b p.1)))
keeps-case {s} n (next e) d m l (a, r, f, g) =
    let w : 0 < s.window = omega (arith, (size l).least) in
    handed l _ _ _ d (next-placed s.window (size l).most s.state.early e s.state.history w f l.place) (rw r (rw (advance-zero s.window (size l).most e s.state.history w, advance-within s.window (size l).most e s.state.history f w)))
keeps-case {s} n (moved b) d m l (a, r) =
    let p = simp tests at (rw (a, r) at l.shape) in
    handed l _ _ _ d l.place (rw r (unmarked s n s.state.history p.0 m))

pub decided-lawful : DecidedLawful
unfolding decided
decided-lawful s n w m l = unlaw (keeps-case n (case_of s n) (counts_after s w (case_of s n)) m (law l) (case-told s n).fact)
