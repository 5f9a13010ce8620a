-- From take-any on, a record follows the receiver with unlimited memory. Assumes nothing.
use Prim.Native.Nat.{ℕ, ◌≤◌}
use mathlib.Core.Path.{◌≡◌, refl, ap, sym, ◌∙◌}
use mathlib.Core.Bool.{Bool, true, false, false≢true}
use mathlib.Core.List.{List, [], ◌∷◌, map, nil≢cons, cons≢nil, head-eq_of_cons-eq, tail-eq_of_cons-eq}
use borrow.Author.Tests.{ne_eqb}
use native.Mathlib.Omega.{arith}
use Rattle.record.specs.declared.Stream.{Stream}
use Rattle.record.specs.Words.{yes}
use Rattle.record.specs.Sizes.{window_least, window_most, vector_rule}
use Rattle.stream.specs.Record.{State, lawful}
use Rattle.stream.specs.Decisions.{verdict, decided, aged, reset, expires, ticked}
use Rattle.stream.proofs.Logic.{tests}
use Rattle.stream.proofs.Law.{law}
use Rattle.demands.specs.Seen.{Seen, arrived, tick, ended, nothing, was_reset, lasting, every, numbers, verdicts}
use Rattle.demands.specs.Unlimited.{judged, remembered, unlimited, all_near}
use Rattle.demands.specs.Demand3.{number_of}
use Rattle.demands.proofs.Moves.{Trace}
use Rattle.demands.proofs.Linked.{Sim, on-arrival}

-- A record with the settings of a vector stream, side by side with the indices handed up.
pub record Kept (l : ℕ) (s : Stream) (hs : List ℕ) : Type 0 where
  pub used : yes s.used ≡ true
  pub rule : s.rule ≡ vector_rule
  pub window : s.window ≡ l
  pub sim : Sim l s.state hs

aged-sim : (l : ℕ) (t : State) (hs : List ℕ) → Sim l t hs → Sim l (aged t) hs
aged-sim l t [] m = m
aged-sim l t (h ∷ hs) m = record { any = m.any; anchor = m.anchor; seen = m.seen }

-- A tick that resets a stream is seen to do so: a lawful record with ticks left does not take any number,
expired : (s : Stream) → expires s ≡ true → yes s.state.any ≡ false
unfolding expires
expired s e =
    let p = simp tests at e in
    sym (law p.0).idle ∙ ne_eqb s.state.remaining 0 (omega (arith, p.1))

-- and one that was reset does.
one-is-yes : yes 1 ≡ true
unfolding yes
one-is-yes = refl

pub reset-seen : (s : Stream) → expires s ≡ was_reset s (ticked s)
unfolding ticked reset
reset-seen s = go (expires s) refl (lawful s) refl (yes s.state.any) refl
  where
    go : (b : Bool) → expires s ≡ b → (c : Bool) → lawful s ≡ c → (a : Bool) → yes s.state.any ≡ a
        → expires s ≡ was_reset s (ticked s)
    go true e c q true z = absurd (false≢true (sym (expired s e) ∙ z))
    go true e c q false z = rw (e, z, one-is-yes)
    go false e true q true z = rw (e, q, z)
    go false e true q false z = rw (e, q, z)
    go false e false q true z = rw (e, q, z)
    go false e false q false z = rw (e, q, z)

-- A tick that resets nothing keeps the two side by side.
pub on-tick : (l : ℕ) (s : Stream) (hs : List ℕ) → Kept l s hs → expires s ≡ false → Kept l (ticked s) hs
unfolding ticked
on-tick l s hs k e = go (lawful s) refl
  where
    go : (b : Bool) → lawful s ≡ b → Kept l (ticked s) hs
    go true q =
        rw (e, q)
        (record { used = k.used; rule = k.rule; window = k.window; sim = aged-sim l s.state hs k.sim })
    go false q = rw (e, q) k

module _ (l : ℕ) (least : window_least ≤ l) (most : l ≤ window_most) where
  pub follow : (s : Stream) (es : List Seen) (u : Stream) (hs xs : List ℕ) → Kept l s hs → Trace s es u
      → every lasting es ≡ true → numbers es ≡ map number_of xs → all_near l hs xs ≡ true
      → verdicts es ≡ unlimited l hs xs
  unfolding verdicts numbers every unlimited all_near decided verdict
  follow s [] u hs [] k t p i q = refl
  follow s [] u hs (x ∷ xs) k t p i q = absurd (nil≢cons i)
  follow s (arrived n v ∷ es) u hs [] k t p i q = absurd (cons≢nil i)
  follow s (arrived n v ∷ es) u hs (x ∷ xs) k (m, (e, (w, z)), r) p i q =
      let b = simp tests at q in
      let y : n ≡ number_of x = head-eq_of_cons-eq i in
      let a = on-arrival l s k.rule k.window least most hs x k.sim b.0 in
      let f = follow m es u (remembered l hs x) xs
      (rw (z, y) (record { used = k.used; rule = k.rule; window = k.window; sim = a.keeps })) r p
      (tail-eq_of_cons-eq i) b.1 in
      let c : v ≡ judged l hs x = e ∙ ap (verdict s) y ∙ a.same in
      rw (c, f)
  follow s (tick b ∷ es) u hs xs k (m, (e, z), r) p i q =
      let c = simp tests at p in
      let x : expires s ≡ false = reset-seen s ∙ sym (rw z at e) ∙ c.0 in
      follow m es u hs xs (rw z (on-tick l s hs k x)) r c.1 i q
  follow s (ended ∷ es) u hs xs k t p i q = absurd (false≢true p)
  follow s (nothing ∷ es) u hs xs k (m, e, r) p i q = follow m es u hs xs (rw (e k.used) k) r p i q
