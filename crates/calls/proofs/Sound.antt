-- What is known of a call that is not refused, and so: no call damages a table, an open and a reset leave a lawful record.
-- Assumes nothing.
use Prim.Native.Nat.{ℕ, ◌-◌, ◌%◌, ◌<◌}
use mathlib.Core.Path.{◌≡◌, refl, sym, ap, ◌∙◌}
use mathlib.Core.Bool.{Bool, true, false, cond, not, ◌&&◌, beq, false≢true}
use mathlib.Core.List.{List, map}
use native.Mathlib.Omega.{arith}
use lib.Dec.{ltb, leb, eqb}
use lib.ListN.{length, get_or, set, get_or-map}
use lib.Seq.{get_or-set_same, get_or-set_other}
use borrow.Author.Tests.{leb-false, lt-ltb, ltb-true, eqb-true, eqb-false, not-false}
use Rattle.refusal.specs.Checks.{Said}
use Rattle.refusal.specs.Checks.Said.{refused, answers}
use Rattle.record.specs.declared.Stream.{Stream}
use Rattle.record.specs.Words.{yes}
use Rattle.record.specs.Sizes.{frame_most, link_rule}
use Rattle.refusal.specs.Numbers.{LONG, SHORT, GROUP}
use Rattle.frame.specs.Frame.{Tag, dest_of, group_source, unranked}
use Rattle.stream.specs.Record.{settled, lawful, damaged, closed}
use Rattle.stream.specs.Decisions.{expires, ticked}
use Rattle.stream.specs.Laws.{Fitting}
use Rattle.stream.proofs.Keeps.{reset-lawful, opened-lawful, ticked-lawful, decided-lawful}
use Rattle.calls.specs.Table.{Table, blank, at, search, some_slot, has_key, of_links, hears, is_free}
use Rattle.frame.specs.Link.{link_least, link_of, last_byte, but_last}
use Rattle.calls.specs.Calls.{Call, arriving, linking, opening, closing, resetting, ticking, Act, refuse, arrive, opens, closes, resets, ticks, arrival_at, arrival, link_arrival, in_use, open-call, checked, act, after}
use Rattle.calls.specs.Laws.{NoneDamaged, OpenLawful, OpenTakesFree, ResetLawful}
use Rattle.calls.proofs.Places.{some-place}
use Rattle.calls.proofs.Lowest.{lowest-found}

-- what is known of each
abbrev pub Fact : Table → Act → Type 0
Fact t (refuse n) = Unit {0}
Fact t (arrive i number network rank bare) = (i < length t) × (lawful (at t i) ≡ true) × Fitting (at t i) number
Fact t (opens i s) = (i < length t) × (lawful s ≡ true) × (is_free (at t i) ≡ true)
Fact t (closes i) = i < length t
Fact t (resets i) = (i < length t) × (yes (at t i).used ≡ true) × (settled (at t i) ≡ true)
Fact t ticks = Unit {0}

pub record Known (t : Table) (a : Act) : Type 0 where
  pub fact : Fact t a

known : {t : Table} (b : Bool) {x y : Act} → (b ≡ true → Known t x) → (b ≡ false → Known t y) → Known t (cond b x y)
known true f g = f refl
known false f g = g refl

-- a plain arrival finds no virtual link, and the number of a virtual link's is a byte
plain_fits : (link : Bool) (s : Stream) (dest vlan number : ℕ) → link ≡ false → hears link dest vlan s ≡ true → Fitting s number
unfolding hears of_links
plain_fits link s dest vlan number f h e = absurd (go (has_key dest vlan s) (eqb s.rule link_rule) (rw f at h) e)
  where
    go : (a b : Bool) → (a && beq b false) ≡ true → b ≡ true → ⊥
    go true true h e = false≢true h
    go true false h e = false≢true e
    go false b h e = false≢true h

byte_fits : (s : Stream) (f : List ℕ) → Fitting s (last_byte f)
unfolding last_byte
byte_fits s f e = let b : get_or f (length f - 1) 0 % 256 < 256 = omega arith in omega (arith, b)

module _ (t : Table) where
  nothing : {n : ℕ} → Known t (refuse n)
  nothing = record { fact = tt }

  -- what a search finds passes
  passes : (p : Stream → Bool) → leb (length t) (search p t) ≡ false → p (at t (search p t)) ≡ true
  unfolding some_slot
  passes p e = (lowest-found p t (lt-ltb (search p t) (length t) (leb-false (length t) (search p t) e))).1

  arrival-known : (network : ℕ) (f out : List ℕ) (x : Said Tag) → Known t (arrival t network f out x)
  unfolding arrival arrival_at
  arrival-known network f out (refused n) = nothing
  arrival-known network f out (answers g) =
      known (leb (length t) _) (λ e. nothing) (λ e. known (not (lawful _)) (λ l. nothing)
      (λ l. known (ltb (length out) (length f - 6)) (λ r. nothing)
      (λ r. record { fact = (leb-false (length t) _ e, not-false _ l, plain_fits false _ g.header.dest g.header.vlan g.number refl (passes _ e)) })))

  link-known : (network : ℕ) (f out : List ℕ) → Known t (link_arrival t network f out (link_of f))
  unfolding link_arrival link_of arrival_at
  link-known network f out = go (ltb frame_most (length f)) (ltb (length f) link_least) (group_source f)
    where
      at_slot : (dest : ℕ) → Known t (arrival_at t (search (hears true dest 0) t) (last_byte f) network unranked (length f - 1) (but_last f) out)
      at_slot dest =
          known (leb (length t) _) (λ e. nothing) (λ e. known (not (lawful _)) (λ l. nothing)
          (λ l. known (ltb (length out) (length f - 1)) (λ r. nothing) (λ r. record { fact = (leb-false (length t) _ e, not-false _ l, byte_fits (at t (search (hears true dest 0) t)) f) })))

      go : (a b c : Bool) → Known t (link_arrival t network f out (cond a (refused LONG) (cond b (refused SHORT) (cond c (refused GROUP) (answers (record { dest = dest_of f; number = last_byte f }))))))
      go true b c = nothing
      go false true c = nothing
      go false false true = nothing
      go false false false = at_slot (dest_of f)

  used-known : (i : ℕ) → in_use t i ≡ true → (i < length t) × (yes (at t i).used ≡ true)
  unfolding in_use
  used-known i e = go (ltb i (length t)) (yes (at t i).used) refl refl e
    where
      go : (a b : Bool) → ltb i (length t) ≡ a → yes (at t i).used ≡ b → (a && b) ≡ true → (i < length t) × (yes (at t i).used ≡ true)
      go true true a b e = (ltb-true i (length t) a, b)
      go true false a b e = absurd (let z : ◌≡◌ {A = ℕ} 0 1 = cc in omega arith)
      go false b a c e = absurd (let z : ◌≡◌ {A = ℕ} 0 1 = cc in omega arith)

  checked-known : (c : Call) → Known t (checked t c)
  unfolding checked open-call
  checked-known (arriving network f out) = known (ltb 1 network) (λ e. nothing) (λ e. arrival-known network f out _)
  checked-known (linking network f out) = known (ltb 1 network) (λ e. nothing) (λ e. link-known network f out)
  checked-known (opening dest vlan rule window time) =
      known (not (settled _)) (λ e. nothing) (λ e. known (some_slot _ t) (λ k. nothing) (λ k. known (not (some_slot is_free t)) (λ f. nothing)
      (λ f. record { fact = (some-place is_free t (not-false _ f), opened-lawful (dest_of dest) vlan rule window time (not-false _ e), (lowest-found is_free t (not-false _ f)).1) })))
  checked-known (closing i) = known (in_use t i) (λ e. record { fact = (used-known i e).0 }) (λ e. nothing)
  checked-known (resetting i) =
      known (not (in_use t i)) (λ e. nothing) (λ e. known (not (settled (at t i))) (λ s. nothing)
      (λ s. let u = used-known i (not-false _ e) in record { fact = (u.0, u.1, not-false _ s) }))
  checked-known ticking = record { fact = tt }

  pub act-known : (c : Call) → Known t (act t c)
  unfolding act
  act-known c = known (ltb _ (length t)) (λ e. nothing) (λ e. checked-known c)

-- ---- no call damages a table
pub lawful-sound : (s : Stream) → lawful s ≡ true → damaged s ≡ false
unfolding damaged
lawful-sound s l = go (yes s.used) (lawful s) l
  where
    go : (a b : Bool) → b ≡ true → (a && not b) ≡ false
    go true b e = rw e
    go false b e = refl

closed-sound : (s : Stream) → damaged (closed s) ≡ false
unfolding damaged yes
closed-sound s = refl

pub blank-sound : damaged blank ≡ false
unfolding damaged yes
blank-sound = refl

ticked-sound : (s : Stream) → damaged s ≡ false → damaged (ticked s) ≡ false
unfolding ticked expires
ticked-sound s d = go (lawful s) refl
  where
    go : (b : Bool) → lawful s ≡ b → damaged (ticked s) ≡ false
    go true l = lawful-sound (ticked s) (ticked-lawful s l)
    go false l = simp l d

ticked-blank : ticked blank ≡ blank
unfolding ticked expires lawful yes
ticked-blank = refl

pub at-ticked : (t : Table) (j : ℕ) → at (map ticked t) j ≡ ticked (at t j)
at-ticked t j = ap (λ (s : Stream). get_or (map ticked t) j s) (sym ticked-blank) ∙ get_or-map ticked t j blank

module _ (t : Table) (sound : (j : ℕ) → damaged (at t j) ≡ false) where
  stored : (i : ℕ) (s : Stream) → i < length t → damaged s ≡ false → (j : ℕ) → damaged (at (set t i s) j) ≡ false
  stored i s l d j = go (eqb j i) refl
    where
      go : (b : Bool) → eqb j i ≡ b → damaged (at (set t i s) j) ≡ false
      go true e = rw (eqb-true j i e) (ap damaged (get_or-set_same t i s blank l) ∙ d)
      go false e = ap damaged (get_or-set_other t i j s blank (eqb-false j i e)) ∙ sound j

  after-sound : (a : Act) → Known t a → (j : ℕ) → damaged (at (after t a) j) ≡ false
  unfolding after
  after-sound (refuse n) k j = sound j
  after-sound (arrive i number network rank bare) k j = stored i _ k.fact.0 (lawful-sound _ (decided-lawful (at t i) number network k.fact.2 k.fact.1)) j
  after-sound (opens i s) k j = stored i s k.fact.0 (lawful-sound s k.fact.1) j
  after-sound (closes i) k j = stored i _ k.fact (closed-sound (at t i)) j
  after-sound (resets i) k j = stored i _ k.fact.0 (lawful-sound _ (reset-lawful (at t i) k.fact.1 k.fact.2)) j
  after-sound ticks k j = ap damaged (at-ticked t j) ∙ ticked-sound (at t j) (sound j)

pub none-damaged : NoneDamaged
none-damaged t c s j = after-sound t s (act t c) (act-known t c) j

pub open-lawful : OpenLawful
unfolding after
open-lawful t c i s e = let k = rw e at (act-known t c) in rw e (ap lawful (get_or-set_same t i s blank k.fact.0) ∙ k.fact.1)

pub open-takes-free : OpenTakesFree
open-takes-free t c i s e = let k = rw e at (act-known t c) in (k.fact.0, k.fact.2)

pub mended : ResetLawful
unfolding after
mended t c i e =
    let k = rw e at (act-known t c) in
    rw e (ap lawful (get_or-set_same t i _ blank k.fact.0) ∙ reset-lawful (at t i) k.fact.1 k.fact.2)
