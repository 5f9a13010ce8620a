-- Through a run in which a stream is neither closed nor reset by call its record stays lawful, and its slot the lowest with its key.
-- Assumes nothing.
use Prim.Native.Nat.{ℕ, zero, suc, ◌<◌}
use mathlib.Core.Path.{◌≡◌, refl, sym, ap, ap₂, ◌∙◌}
use mathlib.Core.Bool.{Bool, true, false, false≢true}
use mathlib.Core.List.{List, [], ◌∷◌, map, cons≢nil, tail-eq_of_cons-eq}
use native.Mathlib.Omega.{arith}
use lib.Dec.{eqb}
use lib.ListN.{length, set}
use borrow.Author.Tests.{eqb-true, lt-ltb}
use Rattle.record.specs.declared.Stream.{Stream}
use Rattle.record.specs.Words.{yes}
use Rattle.frame.specs.Frame.{dest_of}
use Rattle.stream.specs.Record.{lawful, opened, closed}
use Rattle.stream.specs.Laws.{Fitting}
use Rattle.stream.specs.Decisions.{decided, reset, expires, ticked}
use Rattle.stream.proofs.Logic.{tests}
use Rattle.stream.proofs.Law.{law}
use Rattle.stream.proofs.Keeps.{decided-lawful, ticked-lawful}
use Rattle.calls.specs.Table.{Table, at, search, some_slot, has_key, of_links, hears}
use Rattle.calls.specs.Calls.{Call, Act, refuse, arrive, opens, closes, resets, ticks, act, after}
use Rattle.calls.proofs.Kept.{length-kept, other}
use Rattle.calls.proofs.Sound.{at-ticked}
use Rattle.index.proofs.Search.{lowest}
use Rattle.demands.specs.Receiver.{the_receiver, run}
use Rattle.demands.specs.Seen.{Seen, arrived, tick, ended, nothing, seen, log, every}
use Rattle.demands.proofs.Moves.{Moves}
use Rattle.demands.proofs.Slot.{at_set, act-sound}
use Rattle.delays.specs.Line.{Event, came, ticked as beat}
use Rattle.delays.specs.OnceEach.{kinds, kind_of}
use Rattle.end_to_end.proofs.Cases.{Each, act-case}

-- ---- neither closed nor reset by call

abbrev pub lives : Seen → Bool
lives (arrived n v) = true
lives (tick b) = true
lives ended = false
lives nothing = true

-- What is seen as copies and ticks has no end in it.
pub lives-on : (es : List Seen) (ps : List Event) → kinds es ≡ map kind_of ps → every lives es ≡ true
unfolding kinds every
lives-on [] ps e = refl
lives-on (arrived n v ∷ es) [] e = absurd (cons≢nil e)
lives-on (arrived n v ∷ es) (p ∷ ps) e = lives-on es ps (tail-eq_of_cons-eq e)
lives-on (tick b ∷ es) [] e = absurd (cons≢nil e)
lives-on (tick b ∷ es) (p ∷ ps) e = lives-on es ps (tail-eq_of_cons-eq e)
lives-on (ended ∷ es) [] e = absurd (cons≢nil e)
lives-on (ended ∷ es) (came x a ∷ ps) e = absurd (let z : ◌≡◌ {A = ℕ} 0 1 = cc in omega arith)
lives-on (ended ∷ es) (beat c ∷ ps) e = absurd (let z : ◌≡◌ {A = ℕ} 0 1 = cc in omega arith)
lives-on (nothing ∷ es) ps e = lives-on es ps e

-- ---- the lowest slot

-- A slot that passes, with none below it, is the one that the search gives.
search_is : (p : Stream → Bool) (t : Table) (i : ℕ) → i < length t → p (at t i) ≡ true → ((k : ℕ) → k < i → p (at t k) ≡ false)
    → search p t ≡ i
unfolding search
search_is p [] i w h b = absurd (omega arith)
search_is p (s ∷ t) zero w h b = rw h
search_is p (s ∷ t) (suc i) w h b = rw (b 0 (omega arith)) (ap suc (search_is p t i (omega arith) h (λ k l. b (suc k) (omega arith))))

module _ (dest vlan : ℕ) where
  abbrev key : Stream → Bool
  key = hears false dest vlan

  -- Slot i has a lawful record that hears plain frames of the key, and none below it does.
  pub record Held (t : Table) (i : ℕ) : Type 0 where
    pub within : i < length t
    pub lawful : lawful (at t i) ≡ true
    pub has : hears false dest vlan (at t i) ≡ true
    pub below : (k : ℕ) → k < i → hears false dest vlan (at t k) ≡ false

  pub found-there : {t : Table} {i : ℕ} → Held t i → search (hears false dest vlan) t ≡ i
  found-there {t} {i} h = search_is key t i h.within h.has h.below

  -- What hears plain frames has the key, and is no virtual link: its rule asks nothing of a number.
  heard-has : (s : Stream) → key s ≡ true → has_key dest vlan s ≡ true
  unfolding hears
  heard-has s e = (simp tests at e).0

  heard-fits : (s : Stream) (n : ℕ) → key s ≡ true → Fitting s n
  unfolding hears of_links
  heard-fits s n e r = absurd (false≢true (sym (simp tests at e).1 ∙ r))

  -- An open asks for the key of either family.
  pub is_some : {t : Table} {i : ℕ} → Held t i → some_slot (has_key dest vlan) t ≡ true
  unfolding some_slot
  is_some {t} {i} h =
      let k : ℕ = search (has_key dest vlan) t in
      lt-ltb k (length t) (omega (arith, lowest (has_key dest vlan) t i h.within (heard-has (at t i) h.has), h.within))

  -- ---- the key of a record: a close takes it away, and all else leaves it

  key-decided : (s : Stream) (n w : ℕ) → key (decided s n w) ≡ key s
  unfolding decided hears has_key of_links
  key-decided s n w = refl

  key-reset : (s : Stream) → key (reset s) ≡ key s
  unfolding reset hears has_key of_links
  key-reset s = refl

  key-closed : (s : Stream) → key (closed s) ≡ false
  unfolding hears has_key yes
  key-closed s = refl

  key-ticked : (s : Stream) → key (ticked s) ≡ key s
  unfolding ticked reset hears has_key of_links
  key-ticked s = go (expires s) (lawful s) refl refl
    where
      go : (b c : Bool) → expires s ≡ b → lawful s ≡ c → key (ticked s) ≡ key s
      go true c e f = rw e
      go false true e f = rw (e, f)
      go false false e f = rw (e, f)

  -- ---- no open gives the key to a slot

  abbrev Bars : Act → Type 0
  Bars (refuse n) = Unit {0}
  Bars (arrive i number network x bare) = Unit {0}
  Bars (opens i s) = key s ≡ false
  Bars (closes i) = Unit {0}
  Bars (resets i) = Unit {0}
  Bars ticks = Unit {0}

  record Barred (a : Act) : Type 0 where
    fact : Bars a

  module _ (t : Table) where
    module _ (taken : some_slot (has_key dest vlan) t ≡ true) where
      -- A record with the key is of an open with the key: that is refused, as the key is taken.
      other_key : (s : Stream) → some_slot (has_key s.dest s.vlan) t ≡ false → key s ≡ false
      unfolding hears has_key
      other_key s e = go (key s) refl
        where
          go : (b : Bool) → key s ≡ b → key s ≡ false
          go true k =
              let p = simp tests at k in
              absurd (false≢true (sym e ∙ ap₂ (λ (d v : ℕ). some_slot (has_key d v) t) p.0.0.1 p.0.1 ∙ taken))
          go false k = k

      each : Each t (λ c a. Barred a)
      each = record {
        refuses = λ c n. record { fact = tt };
        arrives = λ network f out g i e. record { fact = tt };
        links = λ network f out g i e. record { fact = tt };
        opens = λ d v rule window time i e. record { fact = other_key (opened (dest_of d) v rule window time) e };
        closes = λ i. record { fact = tt };
        resets = λ i. record { fact = tt };
        ticks = record { fact = tt };
      }

    -- So a slot that has not the key has it not after the call.
    module _ (k : ℕ) (l : k < length t) (e : key (at t k) ≡ false) where
      stored : (j : ℕ) (s : Stream) → (j ≡ k → key s ≡ false) → key (at (set t j s) k) ≡ false
      stored j s h = go (eqb j k) refl
        where
          go : (b : Bool) → eqb j k ≡ b → key (at (set t j s) k) ≡ false
          go true q = let z : j ≡ k = eqb-true j k q in rw z (ap key (at_set t k s l) ∙ h z)
          go false q = ap key (other t j k s q) ∙ e

      still-without : (a : Act) → Barred a → key (at (after t a) k) ≡ false
      unfolding after
      still-without (refuse n) b = e
      still-without (arrive j n w x bare) b = stored j _ (λ z. key-decided (at t j) n w ∙ rw z e)
      still-without (opens j s) b = stored j s (λ _. b.fact)
      still-without (closes j) b = stored j _ (λ _. key-closed (at t j))
      still-without (resets j) b = stored j _ (λ z. key-reset (at t j) ∙ rw z e)
      still-without ticks b = ap key (at-ticked t k) ∙ key-ticked (at t k) ∙ e

  -- ---- the record itself

  record Stands (u : Stream) : Type 0 where
    lawful : lawful u ≡ true
    has : key u ≡ true

  stands_on : (s : Stream) (e : Seen) (u : Stream) → Moves s e u → lives e ≡ true → Stands s → Stands u
  stands_on s (arrived n v) u (_, (w, z)) a h = rw z (record { lawful = decided-lawful s n w (heard-fits s n h.has) h.lawful; has = key-decided s n w ∙ h.has })
  stands_on s (tick b) u (_, z) a h = rw z (record { lawful = ticked-lawful s h.lawful; has = key-ticked s ∙ h.has })
  stands_on s ended u m a h = absurd (false≢true a)
  stands_on s nothing u m a h = rw (m (law h.lawful).used) h

  -- ---- a call, and a run of calls

  on_call : (t : Table) (i : ℕ) (c : Call) → Held t i → lives (seen i t c (the_receiver t c)) ≡ true → Held (after t (act t c)) i
  unfolding the_receiver
  on_call t i c h a =
      let s = stands_on (at t i) (seen i t c (the_receiver t c)) (at (after t (act t c)) i) (act-sound i t h.within c).moves a
      (record { lawful = h.lawful; has = h.has }) in
      let w = h.within in
      record {
        within = rw (length-kept t c) w;
        lawful = s.lawful;
        has = s.has;
        below = λ k l. still-without t k (omega arith) (h.below k l) (act t c) (act-case t (each t (is_some h)) c);
      }

  pub held_on : (t : Table) (i : ℕ) (cs : List Call) → Held t i → every lives (log the_receiver i t cs) ≡ true → Held (run the_receiver t cs) i
  unfolding log run every the_receiver
  held_on t i [] h a = h
  held_on t i (c ∷ cs) h a =
      let p = simp tests at a in
      held_on (after t (act t c)) i cs (on_call t i c h p.0) p.1
