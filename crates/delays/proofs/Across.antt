-- Demand 3 across resets by tick, of runs of calls and of runs with batches. Assumes nothing.
use Prim.Native.Nat.{ℕ, ◌-◌, ◌≤◌}
use mathlib.Core.Path.{◌≡◌, refl, ap, sym, ◌∙◌}
use mathlib.Core.Bool.{Bool, true, false}
use mathlib.Core.List.{List, [], ◌∷◌, map, head-eq_of_cons-eq, tail-eq_of_cons-eq}
use lib.Dec.{eqb}
use Rattle.record.specs.declared.Stream.{Stream}
use Rattle.std.specs.Prelude.{if◌then◌else◌}
use Rattle.record.specs.Words.{yes}
use Rattle.record.specs.Sizes.{window_least, window_most, vector_rule}
use Rattle.stream.specs.Record.{State}
use Rattle.stream.specs.Decisions.{verdict, decided, aged, reset, expires, ticked}
use Rattle.stream.proofs.Logic.{tests}
use Rattle.stream.proofs.Law.{Law, law, unlaw, size, fresh-parts, idle-fresh}
use Rattle.stream.proofs.Keeps.{after-tick, decided-lawful}
use Rattle.stream.proofs.Changes.{only-up-renews}
use Rattle.calls.specs.Table.{at}
use Rattle.demands.specs.Receiver.{Receiver, MeetsContract, the_receiver, run}
use Rattle.demands.specs.Seen.{Seen, arrived, tick, ended, nothing, log, numbers, verdicts}
use Rattle.demands.specs.Unlimited.{judged, remembered}
use Rattle.demands.specs.Demand3.{number_of}
use Rattle.demands.specs.Steps.{Machine, MeetsAll, read_as, log_steps}
use Rattle.demands.proofs.Moves.{Trace}
use Rattle.demands.proofs.Linked.{Sim, on-arrival}
use Rattle.demands.proofs.Slot.{traced}
use Rattle.demands.proofs.Three.{inside}
use Rattle.demands.proofs.Alike.{carried}
use Rattle.demands.proofs.Stepping.{seen-as-calls}
use Rattle.delays.specs.Line.{Event, came, ticked as beat-at, indices}
use Rattle.delays.specs.Forgetting.{left_after, forgetting, all_near_since}
use Rattle.delays.specs.OnceEach.{kinds, kind_of, DecidesAcross}
use Rattle.delays.proofs.Vectors.{vector-fits}

-- A record side by side with what is left and what was handed up.
record Kept (l r left : ℕ) (hs : List ℕ) (s : Stream) : Type 0 where
  law : Law s
  rule : s.rule ≡ vector_rule
  window : s.window ≡ l
  time : s.time ≡ r
  rest : s.state.remaining ≡ left
  sim : Sim l s.state hs

aged-sim : (l : ℕ) (t : State) (hs : List ℕ) → Sim l t hs → Sim l (aged t) hs
aged-sim l t [] m = m
aged-sim l t (h ∷ hs) m = record { any = m.any; anchor = m.anchor; seen = m.seen }

one-is-yes : yes 1 ≡ true
unfolding yes
one-is-yes = refl

module _ (l r left : ℕ) (hs : List ℕ) (s : Stream) (k : Kept l r left hs s) where
  expiry : expires s ≡ eqb left 1
  unfolding expires
  expiry = rw (unlaw k.law, k.rest)

  on-reset : eqb left 1 ≡ true → Kept l r 0 [] (ticked s)
  unfolding ticked reset
  on-reset e =
      let a = after-tick k.law in
      record {
        law = a.law;
        rule = a.rule ∙ k.rule;
        window = a.window ∙ k.window;
        time = a.time ∙ k.time;
        rest = rw (expiry, e);
        sim = rw (expiry, e) one-is-yes;
      }

  on-tick : eqb left 1 ≡ false → Kept l r (left - 1) hs (ticked s)
  unfolding ticked
  on-tick e =
      let a = after-tick k.law in
      record {
        law = a.law;
        rule = a.rule ∙ k.rule;
        window = a.window ∙ k.window;
        time = a.time ∙ k.time;
        rest = rw (expiry, e, unlaw k.law, k.rest);
        sim = rw (expiry, e, unlaw k.law) (aged-sim l s.state hs k.sim);
      }

module _ (l r : ℕ) (least : window_least ≤ l) (most : l ≤ window_most) where
  across : (s : Stream) (ss : List Seen) (u : Stream) (left : ℕ) (hs : List ℕ) (es : List Event)
      → Kept l r left hs s → Trace s ss u → kinds ss ≡ map kind_of es → numbers ss ≡ map number_of (indices es)
      → all_near_since l r left hs es ≡ true
      → verdicts ss ≡ forgetting l r left hs es
  unfolding verdicts numbers kinds indices forgetting all_near_since decided verdict
  across s [] u left hs [] k t o i q = refl
  across s [] u left hs (e ∷ es) k t o i q = cc
  across s (arrived n v ∷ ss) u left hs [] k t o i q = cc
  across s (arrived n v ∷ ss) u left hs (beat-at c ∷ es) k t o i q = cc
  across s (arrived n v ∷ ss) u left hs (came x a ∷ es) k (m, (e, (w, g)), t) o i q =
      let b = simp tests at q in
      let y : n ≡ number_of x = head-eq_of_cons-eq i in
      let a = on-arrival l s k.rule k.window least most hs x k.sim b.0 in
      let d : v ≡ judged l hs x = e ∙ ap (verdict s) y ∙ a.same in
      let f = across m ss u (left_after l r left hs x) (remembered l hs x) es
      (rw (g, y) (record {
        law = law (decided-lawful s (number_of x) w (vector-fits s (number_of x) k.rule) (unlaw k.law));
        rule = k.rule;
        window = k.window;
        time = k.time;
        rest = only-up-renews s (number_of x) w ∙ rw (a.same, k.time, k.rest);
        sim = a.keeps;
      })) t (tail-eq_of_cons-eq o) (tail-eq_of_cons-eq i) b.1 in
      rw (d, f)
  across s (tick b ∷ ss) u left hs [] k t o i q = cc
  across s (tick b ∷ ss) u left hs (came x a ∷ es) k t o i q = cc
  across s (tick b ∷ ss) u left hs (beat-at c ∷ es) k (m, (e, g), t) o i q =
      go (eqb left 1) refl (λ n is j. across m ss u n is es j t (tail-eq_of_cons-eq o) i)
    where
      go : (v : Bool) → eqb left 1 ≡ v
          → ((n : ℕ) (is : List ℕ) → Kept l r n is m → all_near_since l r n is es ≡ true → verdicts ss ≡ forgetting l r n is es)
          → verdicts ss ≡ (if eqb left 1 then forgetting l r 0 [] es else forgetting l r (left - 1) hs es)
      go true j f = rw j (f 0 [] (rw g (on-reset l r left hs s k j)) (rw j at q))
      go false j f = rw j (f (left - 1) hs (rw g (on-tick l r left hs s k j)) (rw j at q))
  across s (ended ∷ ss) u left hs [] k t o i q = cc
  across s (ended ∷ ss) u left hs (came x a ∷ es) k t o i q = cc
  across s (ended ∷ ss) u left hs (beat-at c ∷ es) k t o i q = cc
  across s (nothing ∷ ss) u left hs es k (m, e, t) o i q =
      across m ss u left hs es (rw (e k.law.used) k) t o i q

decides : DecidesAcross (log the_receiver)
decides t i calls es f p q =
    let w = law f.lawful in
    let z = size w in
    across (at t i).window (at t i).time z.least z.most (at t i) (log the_receiver i t calls) (at (run the_receiver t calls) i) 0 [] es
    (record { law = w; rule = f.vector; window = refl; time = refl; rest = (fresh-parts (idle-fresh w f.any)).remaining; sim = f.any })
    (traced t i calls (inside t i f.lawful)) p.order p.numbered q

pub decides-across : {receive : Receiver} → MeetsContract receive → DecidesAcross (log receive)
decides-across m = carried (λ (receive : Receiver). DecidesAcross (log receive)) decides m

-- A stream sees of a run of steps what it sees of the calls that it is read as.
pub decides-across-steps : {m : Machine} → MeetsAll m → DecidesAcross (log_steps m)
decides-across-steps {m} a t i steps es f p q =
    let e = seen-as-calls a t i steps in
    ap verdicts e
    ∙ decides-across a.receive t i (read_as m t steps) es f
    (record { order = ap kinds (sym e) ∙ p.order; numbered = ap numbers (sym e) ∙ p.numbered }) q
