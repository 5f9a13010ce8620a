-- A sender that restarts after a silence. Assumes nothing.
use Prim.Native.Nat.{ℕ, suc, ◌+◌, ◌-◌, ◌*◌, ◌≤◌, ◌<◌}
use mathlib.Core.Path.{◌≡◌, refl, ap, sym, ◌∙◌}
use mathlib.Core.Bool.{Bool, true, false}
use mathlib.Core.List.{List, [], ◌∷◌, ◌++◌, map, tail-eq_of_cons-eq}
use native.Mathlib.Omega.{arith}
use native.Mathlib.Decide.{dec_lt}
use native.Mathlib.Nat.{mul-suc, mul_comm, mul-le-mul_left}
use lib.Dec.{eqb}
use Rattle.record.specs.declared.Stream.{Stream}
use Rattle.record.specs.Sizes.{vector_rule}
use Rattle.stream.specs.Decisions.{decided, reset, expires, ticked as ticked_record}
use Rattle.stream.proofs.Logic.{tests}
use Rattle.stream.proofs.Law.{Law, law, unlaw, spent, fresh-parts}
use Rattle.stream.proofs.Keeps.{after-tick, decided-lawful}
use Rattle.calls.specs.Table.{Table, at}
use Rattle.demands.specs.Receiver.{Receiver, MeetsContract, the_receiver, run}
use Rattle.demands.specs.Seen.{Seen, arrived, tick, ended, nothing, log}
use Rattle.demands.specs.Steps.{Machine, MeetsAll, ran_steps, read_as, log_steps}
use Rattle.demands.specs.Missed.{FreshVector}
use Rattle.demands.proofs.Moves.{Trace}
use Rattle.demands.proofs.Slot.{traced}
use Rattle.demands.proofs.Three.{inside}
use Rattle.demands.proofs.Alike.{carried}
use Rattle.demands.proofs.Stepping.{steps-are-calls, seen-as-calls}
use Rattle.delays.specs.Formulas.{span}
use Rattle.delays.specs.Line.{Known, least, most, J, Event, came, ticked, indices, kept, Keeps, frequent}
use Rattle.delays.specs.OnceEach.{kinds, kind_of, Sees, OnceEach, copies_by, Silence, OnceEachRestarted}
use Rattle.delays.proofs.Vectors.{vector-fits}

-- For cases that cannot be: from them `cc` shows that 0 is 1.
none-is-one : ◌≡◌ {A = ℕ} 0 1 → ⊥
none-is-one e = omega arith

-- ---- the record

-- The settings and the key of a record stay.
record Same (s u : Stream) : Type 0 where
  dest : u.dest ≡ s.dest
  vlan : u.vlan ≡ s.vlan
  rule : u.rule ≡ s.rule
  window : u.window ≡ s.window
  time : u.time ≡ s.time

same-all : (s : Stream) → Same s s
same-all s = record { dest = refl; vlan = refl; rule = refl; window = refl; time = refl }

onward : {s m u : Stream} → Same s m → Same m u → Same s u
onward a b = record {
  dest = b.dest ∙ a.dest;
  vlan = b.vlan ∙ a.vlan;
  rule = b.rule ∙ a.rule;
  window = b.window ∙ a.window;
  time = b.time ∙ a.time;
}

same-decided : (s : Stream) (n w : ℕ) → Same s (decided s n w)
unfolding decided
same-decided s n w = record { dest = refl; vlan = refl; rule = refl; window = refl; time = refl }

-- What a tick leaves: one tick less, or none.
record Less (s u : Stream) : Type 0 where
  same : Same s u
  law : Law u
  less : (u.state.remaining ≡ 0 → ⊥) → suc u.state.remaining ≡ s.state.remaining

on-tick : (s : Stream) → Law s → Less s (ticked_record s)
unfolding ticked_record expires reset
on-tick s l = go (eqb s.state.remaining 1) refl
  where
    go : (b : Bool) → eqb s.state.remaining 1 ≡ b → Less s (ticked_record s)
    go true e = record {
      same = rw (unlaw l, e) (record { dest = refl; vlan = refl; rule = refl; window = refl; time = refl });
      law = (after-tick l).law;
      less = rw (unlaw l, e) (λ n. absurd (n refl));
    }
    go false e = record {
      same = rw (unlaw l, e) (record { dest = refl; vlan = refl; rule = refl; window = refl; time = refl });
      law = (after-tick l).law;
      less = rw (unlaw l, e) (λ n. omega arith);
    }

-- What the silence leaves.
record Over (s u : Stream) : Type 0 where
  same : Same s u
  law : Law u
  none : u.state.remaining ≡ 0

along : (s m : Stream) → Same s m → {u : Stream} → Over m u → Over s u
along s m e o = record { same = onward e o.same; law = o.law; none = o.none }

-- ---- the time of the next tick

module _ (often q r : ℕ) where
  -- q is the latest time of a copy. While ticks are left, what comes next, a tick at the latest, comes by this time.
  abbrev Soon : (left latest : ℕ) → Type 0
  Soon left latest = (left ≡ 0 → ⊥) → latest ≤ q + often * suc (r - left)

  -- If the last tick, or the start, was at q or sooner, it is so however many are left.
  soon-first : (left latest : ℕ) → latest ≤ q + often → Soon left latest
  soon-first left latest b n = let e = mul-suc often (r - left) in omega arith

  -- One tick less, and the next is so much later.
  soon-tick : (was left latest c : ℕ) → was ≤ r → ((left ≡ 0 → ⊥) → suc left ≡ was) → c ≤ latest → Soon was latest → Soon left (c + often)
  soon-tick was left latest c f e b w n =
      let z = e n in
      let y : r - left ≡ suc (r - was) = omega arith in
      let v = w (omega arith) in
      rw (y, mul-suc often (suc (r - was))) (omega arith)

  -- So what comes more than R tau behind q finds none left.
  soon-last : (left latest a : ℕ) → left ≤ r → Soon left latest → a ≤ latest → q + often * r < a → left ≡ 0
  soon-last left latest a f w b late = elim (dec_lt 0 left) [
    | yes n ↦
        let z : often * suc (r - left) ≤ often * r = mul-le-mul_left often (omega arith) in
        let v = w (omega arith) in
        absurd (omega arith)
    | no e ↦ omega arith
  ]

  -- Through a run: what it sees, with its times, until a copy comes more than R tau behind q.
  over : (s : Stream) (es : List Seen) (u : Stream) (ps : List Event) (now latest x a : ℕ)
      → s.rule ≡ vector_rule → Law s → s.time ≡ r → Trace s es u → kinds es ≡ map kind_of ps
      → copies_by now q ps ≡ true → frequent often latest (ps ++ came x a ∷ []) ≡ true
      → latest ≤ now + often → Soon s.state.remaining latest → q + often * r < a
      → Over s u
  unfolding kinds copies_by frequent
  over s [] u [] now latest x a vec l t m o c f b w late =
      let p = simp tests at f in
      rw m (record { same = same-all s; law = l; none = soon-last s.state.remaining latest a (rw t at l.rest) w p.0 late })
  over s [] u (p ∷ ps) now latest x a vec l t m o c f b w late = absurd (none-is-one cc)
  over s (arrived n v ∷ es) u [] now latest x a vec l t m o c f b w late = absurd (none-is-one cc)
  -- A copy comes at q or sooner, and so did the tick before it: so nothing is asked of whether it is handed up.
  over s (arrived n v ∷ es) u (came y d ∷ ps) now latest x a vec l t (m, (e, (g, k)), rest) o c f b w late =
      let p = simp tests at c in
      let h = simp tests at f in
      let z = same-decided s n g in
      along s m (rw k z)
      (over m es u ps d latest x a (rw k (z.rule ∙ vec)) (rw k (law (decided-lawful s n g (vector-fits s n vec) (unlaw l)))) (rw k (z.time ∙ t)) rest (tail-eq_of_cons-eq o)
      p.1 h.1 (omega (arith, p.0.0)) (soon-first m.state.remaining latest (omega (arith, p.0.0, p.0.1))) late)
  over s (arrived n v ∷ es) u (ticked d ∷ ps) now latest x a vec l t m o c f b w late = absurd (none-is-one cc)
  over s (tick v ∷ es) u [] now latest x a vec l t m o c f b w late = absurd (none-is-one cc)
  over s (tick v ∷ es) u (came y d ∷ ps) now latest x a vec l t m o c f b w late = absurd (none-is-one cc)
  over s (tick v ∷ es) u (ticked d ∷ ps) now latest x a vec l t (m, (e, k), rest) o c f b w late =
      let p = simp tests at c in
      let h = simp tests at f in
      let z = on-tick s l in
      along s m (rw k z.same)
      (over m es u ps d (d + often) x a (rw k (z.same.rule ∙ vec)) (rw k z.law) (rw k (z.same.time ∙ t)) rest (tail-eq_of_cons-eq o)
      p.1 h.1 (omega arith)
      (soon-tick s.state.remaining m.state.remaining latest d (rw t at l.rest) (rw k z.less) h.0 w) late)
  over s (ended ∷ es) u [] now latest x a vec l t m o c f b w late = absurd (none-is-one cc)
  over s (ended ∷ es) u (came y d ∷ ps) now latest x a vec l t m o c f b w late = absurd (none-is-one cc)
  over s (ended ∷ es) u (ticked d ∷ ps) now latest x a vec l t m o c f b w late = absurd (none-is-one cc)
  over s (nothing ∷ es) u ps now latest x a vec l t m o c f b w late =
      over s es u ps now latest x a vec l t (rw (m.1 l.used) at m.2) o c f b w late

-- ---- fresh after a silence

-- The record is fresh, and its settings and its key are what they were.
abbrev pub Renewed : (before after : Stream) → Type 0
Renewed s u = FreshVector u × (u.window ≡ s.window) × (u.time ≡ s.time) × (u.dest ≡ s.dest) × (u.vlan ≡ s.vlan)

-- So it is when x comes, the first copy of the new count: if x is sent more than R tau + J behind the last of the old one, and does
-- not come sooner than the smallest delay.
abbrev pub FreshAfterSilence : {A : Type 0} → Sees A → (ran : Table → A → Table) → Type 0
FreshAfterSilence {A} sees ran =
    (k : Known) (start last x a : ℕ) (was : List Event) (t : Table) (i : ℕ) (old : A)
    → Silence sees k start last x a was t i old
    → last + span (at t i).time k.tau_most (J k) < k.sent x
    → k.sent x + least k ≤ a
    → Renewed (at t i) (at (ran t old) i)

-- Then it comes more than R tau behind the latest time of a copy of the old count.
behind : (k : Known) (last r x a : ℕ) → last + span r k.tau_most (J k) < k.sent x → k.sent x + least k ≤ a
    → last + most k + k.tau_most * r < a
unfolding J
behind k last r x a b c = let e = mul_comm r k.tau_most in omega arith

renews : {s u : Stream} → s.rule ≡ vector_rule → Over s u → Renewed s u
renews v o =
    let e = o.same in
    let f = fresh-parts (spent o.law o.none) in
    (record { vector = e.rule ∙ v; lawful = unlaw o.law; any = f.any }, e.window, e.time, e.dest, e.vlan)

after-silence : FreshAfterSilence (log the_receiver) (run the_receiver)
after-silence k start last x a was t i old s b c =
    let q = last + most k in
    let z = s.begun in
    renews s.vector
    (over k.tau_most q (at t i).time (at t i) (log the_receiver i t old) (at (run the_receiver t old) i) was start (start + k.tau_most) x a
    s.vector (law s.lawful) refl (traced t i old (inside t i s.lawful)) s.order s.over s.ticks (omega arith)
    (soon-first k.tau_most q (at t i).time (at t i).state.remaining (start + k.tau_most) (omega arith))
    (behind k last (at t i).time x a b c))

pub fresh-after-silence : {receive : Receiver} → MeetsContract receive → FreshAfterSilence (log receive) (run receive)
fresh-after-silence m = carried (λ receive. FreshAfterSilence (log receive) (run receive)) after-silence m

-- With batches: a run of steps is the calls that it is read as.
pub fresh-after-silence-steps : {m : Machine} → MeetsAll m → FreshAfterSilence (log_steps m) (ran_steps m)
fresh-after-silence-steps {m} w k start last x a was t i old s b c =
    rw (steps-are-calls w t old)
    (fresh-after-silence w.receive k start last x a was t i (read_as m t old) (record {
      vector = s.vector;
      lawful = s.lawful;
      order = ap kinds (sym (seen-as-calls w t i old)) ∙ s.order;
      begun = s.begun;
      over = s.over;
      ticks = s.ticks;
    }) b c)

-- ---- exactly once from the first copy on

-- The first copy keeps to the delays too.
pub no-sooner : (k : Known) (x a : ℕ) (es : List Event) → Keeps k 0 (came x a ∷ es) → k.sent x + least k ≤ a
unfolding kept
no-sooner k x a es p = let e = simp tests at p.kept in e.0.1.0

once_more : {A : Type 0} (sees : Sees A) (ran : Table → A → Table) → FreshAfterSilence sees ran → OnceEach sees → OnceEachRestarted sees ran
unfolding indices
once_more sees ran fresh once k b still start last x a was es t i old new s apart timed sends keeps loses window time =
    let f = fresh k start last x a was t i old s apart (no-sooner k x a es keeps) in
    once k b still [] (came x a ∷ es) (ran t old) i new f.0 timed sends keeps loses (rw f.1 window) (rw f.2 time)

pub restarted : {receive : Receiver} → MeetsContract receive → OnceEach (log receive) → OnceEachRestarted (log receive) (run receive)
restarted {receive} m once = once_more (log receive) (run receive) (fresh-after-silence m) once

pub restarted-steps : {m : Machine} → MeetsAll m → OnceEach (log_steps m) → OnceEachRestarted (log_steps m) (ran_steps m)
restarted-steps {m} w once = once_more (log_steps m) (ran_steps m) (fresh-after-silence-steps w) once
