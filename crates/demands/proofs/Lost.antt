-- What lost means: from take-any on, and from an open on. Assumes nothing.
use Prim.Native.Nat.{ℕ, ◌+◌, ◌%◌, ◌^◌, ◌≤◌}
use mathlib.Core.Path.{◌≡◌, refl, ap, sym, ◌∙◌}
use mathlib.Core.Bool.{Bool, true, false, false≢true}
use mathlib.Core.List.{List, [], ◌∷◌, map, nil≢cons, cons≢nil, head-eq_of_cons-eq, tail-eq_of_cons-eq}
use native.Mathlib.Omega.{arith}
use Rattle.record.specs.declared.Counts.{Counts}
use Rattle.record.specs.declared.Stream.{Stream}
use Rattle.record.specs.Words.{yes}
use Rattle.record.specs.Sizes.{window_least, window_most, vector_rule}
use Rattle.stream.specs.Record.{lawful}
use Rattle.stream.specs.Decisions.{rise, decided, expires, ticked}
use Rattle.stream.proofs.Logic.{tests}
use Rattle.stream.proofs.Law.{law, size}
use Rattle.calls.specs.Table.{Table, at}
use Rattle.calls.specs.Calls.{Call, opening}
use Rattle.demands.specs.Receiver.{Receiver, MeetsContract, the_receiver, run}
use Rattle.demands.specs.Seen.{Seen, arrived, tick, ended, nothing, lasting, every, numbers, log, verdicts}
use Rattle.demands.specs.Unlimited.{judged, remembered, near, all_near}
use Rattle.demands.specs.Demand3.{number_of}
use Rattle.demands.specs.Corollaries.{handed_of, Lasting}
use Rattle.demands.specs.Lost.{missed, FreshLost, OpenedLost}
use Rattle.demands.proofs.Alike.{carried}
use Rattle.demands.proofs.Moves.{Trace}
use Rattle.demands.proofs.Slot.{traced}
use Rattle.demands.proofs.Linked.{on-arrival}
use Rattle.demands.proofs.Follow.{Kept, reset-seen, on-tick}
use Rattle.demands.proofs.Three.{inside, from-fresh}
use Rattle.demands.proofs.After.{begun}
use Rattle.demands.proofs.Absent.{memory, same-missed}
use Rattle.demands.proofs.Counting.{Counted, on-first-counted, on-later-counted}

-- A tick that resets nothing changes neither early nor a counter.
pub tick-counts : (s : Stream) → expires s ≡ false → (ticked s).counts ≡ s.counts
unfolding ticked
tick-counts s e = go (lawful s) refl
  where
    go : (b : Bool) → lawful s ≡ b → (ticked s).counts ≡ s.counts
    go true q = rw (e, q)
    go false q = rw (e, q)

tick-early : (s : Stream) → expires s ≡ false → (ticked s).state.early ≡ s.state.early
unfolding ticked
tick-early s e = go (lawful s) refl
  where
    go : (b : Bool) → lawful s ≡ b → (ticked s).state.early ≡ s.state.early
    go true q = rw (e, q)
    go false q = rw (e, q)

module _ (l : ℕ) (least : window_least ≤ l) (most : l ≤ window_most) where
  on-kept : (s : Stream) (hs : List ℕ) (x w : ℕ) → Kept l s hs → near l hs x ≡ true → Kept l (decided s (x % 65536) w) (remembered l hs x)
  unfolding decided
  on-kept s hs x w k b = record {
    used = k.used;
    rule = k.rule;
    window = k.window;
    sim = (on-arrival l s k.rule k.window least most hs x k.sim b).keeps;
  }

  -- after the first arrival
  goes_on : (s : Stream) (es : List Seen) (u : Stream) (f c : ℕ) (hs xs : List ℕ) → Kept l s hs → Counted l f c s hs → Trace s es u
      → every lasting es ≡ true → numbers es ≡ map number_of xs → all_near l hs xs ≡ true
      → Counted l f c u (memory l hs xs)
  unfolding numbers every all_near memory
  goes_on s [] u f c hs [] k m t p i q = rw t m
  goes_on s [] u f c hs (x ∷ xs) k m t p i q = absurd (nil≢cons i)
  goes_on s (arrived n v ∷ es) u f c hs [] k m t p i q = absurd (cons≢nil i)
  goes_on s (arrived n v ∷ es) u f c hs (x ∷ xs) k m (o, (e, (w, z)), r) p i q =
      let b = simp tests at q in
      let y : n ≡ number_of x = head-eq_of_cons-eq i in
      let d : o ≡ decided s (number_of x) w = z ∙ ap (λ (g : ℕ). decided s g w) y in
      goes_on o es u f c (remembered l hs x) xs
      (rw d (on-kept s hs x w k b.0))
      (rw d (on-later-counted l s k.rule k.window least most f c hs x w k.sim b.0 m)) r p
      (tail-eq_of_cons-eq i) b.1
  goes_on s (tick b ∷ es) u f c hs xs k m (o, (e, z), r) p i q =
      let a = simp tests at p in
      let x : expires s ≡ false = reset-seen s ∙ sym (rw z at e) ∙ a.0 in
      goes_on o es u f c hs xs (rw z (on-tick l s hs k x))
      (rw z (record { has = m.has; early = tick-early s x ∙ m.early; lost = ap (λ (c : Counts). c.lost) (tick-counts s x) ∙ m.lost })) r a.1 i q
  goes_on s (ended ∷ es) u f c hs xs k m t p i q = absurd (false≢true p)
  goes_on s (nothing ∷ es) u f c hs xs k m (o, e, r) p i q =
      goes_on o es u f c hs xs (rw (e k.used) k) (rw (e k.used) m) r p i q

  -- from the start
  starts : (s : Stream) (es : List Seen) (u : Stream) (c f : ℕ) (xs : List ℕ) → Kept l s [] → s.counts.lost ≡ c → Trace s es u
      → every lasting es ≡ true → numbers es ≡ map number_of (f ∷ xs) → all_near l [] (f ∷ xs) ≡ true
      → Counted l f c u (memory l [] (f ∷ xs))
  unfolding numbers every near all_near judged remembered memory
  starts s [] u c f xs k m t p i q = absurd (nil≢cons i)
  starts s (arrived n v ∷ es) u c f xs k m (o, (e, (w, z)), r) p i q =
      let y : n ≡ number_of f = head-eq_of_cons-eq i in
      let d : o ≡ decided s (number_of f) w = z ∙ ap (λ (g : ℕ). decided s g w) y in
      goes_on o es u f c (remembered l [] f) xs
      (rw d (on-kept s [] f w k refl))
      (rw (d, ← m) (on-first-counted l s k.rule k.window least most f w k.sim)) r p
      (tail-eq_of_cons-eq i) q
  starts s (tick b ∷ es) u c f xs k m (o, (e, z), r) p i q =
      let a = simp tests at p in
      let x : expires s ≡ false = reset-seen s ∙ sym (rw z at e) ∙ a.0 in
      starts o es u c f xs (rw z (on-tick l s [] k x)) (rw z (ap (λ (c : Counts). c.lost) (tick-counts s x) ∙ m)) r a.1 i q
  starts s (ended ∷ es) u c f xs k m t p i q = absurd (false≢true p)
  starts s (nothing ∷ es) u c f xs k m (o, e, r) p i q =
      starts o es u c f xs (rw (e k.used) k) (rw (e k.used) m) r p i q

-- From take-any on, with the window l.
from-fresh-lost : (l : ℕ) (t : Table) (i : ℕ) (later : List Call) (first : ℕ) (rest : List ℕ) → lawful (at t i) ≡ true
    → (at t i).window ≡ l → yes (at t i).state.any ≡ true → (at t i).rule ≡ vector_rule → Lasting the_receiver t i l later (first ∷ rest)
    → (at (run the_receiver t later) i).counts.lost
    ≡ rise (at t i).counts.lost (missed l first (handed_of (verdicts (log the_receiver i t later)) (first ∷ rest)))
from-fresh-lost l t i later first rest w e a v p =
    let b = inside t i w in
    let g = law w in
    let z = size g in
    let m = starts l (rw e at z.least) (rw e at z.most) (at t i) (log the_receiver i t later) (at (run the_receiver t later) i)
    (at t i).counts.lost first rest (record { used = g.used; rule = v; window = e; sim = a }) refl (traced t i later b) p.lasts p.numbered p.near in
    m.lost ∙ ap (rise (at t i).counts.lost) (same-missed l first (first ∷ rest))
    ∙ rw (from-fresh l t i later (first ∷ rest) b g e a v p)

fresh : FreshLost the_receiver
fresh t i later first rest w a v p = from-fresh-lost (at t i).window t i later first rest w refl a v p

pub fresh-lost : {receive : Receiver} → MeetsContract receive → FreshLost receive
fresh-lost m = carried FreshLost fresh m

opened : OpenedLost the_receiver
opened t dest vlan window time i later first rest e p =
    let u : Table = (the_receiver t (opening dest vlan vector_rule window time)).table in
    let b = begun t dest vlan window time i e in
    let n : ℕ = missed window first (handed_of (verdicts (log the_receiver i u later)) (first ∷ rest)) in
    let z : 0 + n ≡ n = omega arith in
    from-fresh-lost window u i later first rest b.lawful b.window b.any b.rule p
    ∙ ap (λ (c : ℕ). rise c n) b.lost ∙ ap (λ (k : ℕ). k % 2 ^ 64) z

pub opened-lost : {receive : Receiver} → MeetsContract receive → OpenedLost receive
opened-lost m = carried OpenedLost opened m
