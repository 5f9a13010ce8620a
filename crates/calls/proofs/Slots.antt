-- The steps of an open, a close and a reset together are the call, and so is what a tick counts and stores: each law ends a
-- walk. Assumes nothing.
--     many-refused            1, for every call
--     open-unsettled          9
--     open-meets, close-meets, reset-meets
--     tick-meets, sweep-meets
use Prim.Native.Nat.{ℕ, ◌≤◌, ◌<◌}
use mathlib.Core.Path.{◌≡◌, refl, sym, ap, ◌∙◌}
use mathlib.Core.Bool.{Bool, true, false, ◌&&◌}
use mathlib.Core.List.{List, [], map}
use lib.Dec.{ltb}
use lib.ListN.{length, set}
use borrow.Author.Tests.{lt-ltb, le-ltb}
use Rattle.refusal.specs.Checks.{Said}
use Rattle.refusal.specs.Checks.Said.{refused, answers}
use Rattle.refusal.specs.Numbers.{TABLE, DAMAGED, SETTING, TAKEN, FULL, SLOT}
use Rattle.record.specs.declared.Stream.{Stream}
use Rattle.record.specs.Words.{yes}
use Rattle.record.specs.Sizes.{slots_most}
use Rattle.frame.specs.Frame.{dest_of}
use Rattle.stream.specs.Record.{settled, damaged, closed}
use Rattle.stream.specs.Record as records
use Rattle.stream.specs.Decisions.{expires, ticked}
use Rattle.stream.specs.Decisions as decisions
use Rattle.calls.specs.Table.{Table, at, search, some_slot, found, has_key, is_free, count}
use Rattle.calls.specs.Calls.{Call, Answer, opening, closing, resetting, ticking, refuse, opens, closes, resets, ticks, in_use, open-call, checked, act, after, answer, swept, output, out_of, Meets}
use Rattle.calls.specs.Ticks.{ticked_all, sums}
use Rattle.calls.specs.Said.{said_opened, said_done, said_swept}
use Rattle.calls.specs.Steps.{placing_of, close_change, reset_change}
use Rattle.std.specs.Prelude.{Option, is_some, ok_or, Result, Ok, Err, ◌||◌, if◌then◌else◌}
use Rattle.refusal.specs.declared.Refusal.{Refusal}
use Rattle.refusal.specs.declared.Refusal.TheVariants.{Setting, Taken, Full, Slot, Damaged}
use Rattle.calls.specs.declared.Sums.{Sums}
use Rattle.calls.proofs.Acts.{by-act}
use Rattle.calls.proofs.Places.{some-found, none_found}

-- ---- 1

pub many-refused : (t : Table) (c : Call) {w : Said Answer} → slots_most < length t → w ≡ refused TABLE → Meets t c (record { said = w; table = t; output = out_of c })
unfolding act after answer output
many-refused t c m w = by-act t c (refuse TABLE) (simp (lt-ltb _ _ m)) w refl refl

-- ---- open

module _ (t : Table) (dest : List ℕ) (vlan rule window time : ℕ) where
  abbrev call : Call
  call = opening dest vlan rule window time

  abbrev new : Stream
  new = records.opened (dest_of dest) vlan rule window time

  -- what the code made before: the key, the record that it would store, and whether that is settled
  module _ {key : ℕ} {s : Stream} (few : length t ≤ slots_most) (k : key ≡ dest_of dest) (is : s ≡ records.opened key vlan rule window time) where
    is-new : s ≡ new
    is-new = is ∙ rw k

    a : ltb slots_most (length t) ≡ false
    a = le-ltb _ _ few

    pub open-unsettled : (r : Result ℕ Refusal) → settled s ≡ false → r ≡ Err Setting → Meets t call (record { said = said_opened r; table = t; output = [] })
    unfolding act checked open-call after answer output
    open-unsettled r n w =
        let b : settled new ≡ false = ap settled (sym is-new) ∙ n in
        by-act t call (refuse SETTING) (simp (a, b)) (ap said_opened w) refl refl

    fresh-settled : settled s ≡ true → settled new ≡ true
    fresh-settled good = ap settled (sym is-new) ∙ good

    -- The key is looked for among the rest and among the virtual links (`both`), and then a free slot.
    module _ (good : settled s ≡ true) (plain link : Option ℕ) (both : (is_some plain || is_some link) ≡ some_slot (has_key key vlan) t) where
      taken-is : (is_some plain || is_some link) ≡ some_slot (has_key (dest_of dest) vlan) t
      taken-is = rw k at both

      pub open-refused-so : (r : Result ℕ Refusal) (refusal : Refusal) → placing_of plain link (found is_free t) ≡ Err refusal → r ≡ Err refusal
          → Meets t call (record { said = said_opened r; table = t; output = [] })
      unfolding act checked open-call placing_of after answer output
      open-refused-so r refusal p w = go (some_slot (has_key (dest_of dest) vlan) t) (some_slot is_free t) refl refl (rw taken-is at p)
        where
          go : (taken free : Bool) → some_slot (has_key (dest_of dest) vlan) t ≡ taken → some_slot is_free t ≡ free
              → (if some_slot (has_key (dest_of dest) vlan) t then Err Taken else ok_or (found is_free t) Full) ≡ Err refusal
              → Meets t call (record { said = said_opened r; table = t; output = [] })
          go true free c f p =
              let q : Err Taken ≡ Err refusal = rw c at p in
              by-act t call (refuse TAKEN) (simp (a, fresh-settled good, c)) (ap said_opened (w ∙ sym q)) refl refl
          go false false c f p =
              let q : ok_or (found is_free t) Full ≡ Err refusal = rw c at p in
              let n : Err Full ≡ Err refusal = rw (none_found is_free t f) at q in
              by-act t call (refuse FULL) (simp (a, fresh-settled good, c, f)) (ap said_opened (w ∙ sym n)) refl refl
          go false true c f p =
              let q : ok_or (found is_free t) Full ≡ Err refusal = rw c at p in
              let n : Ok (search is_free t) ≡ Err refusal = rw (some-found is_free t f) at q in
              cc

      pub open-meets : (r : Result ℕ Refusal) {i : ℕ} {u : Table} → placing_of plain link (found is_free t) ≡ Ok i → u ≡ set t i s → r ≡ Ok i
          → Meets t call (record { said = said_opened r; table = u; output = [] })
      unfolding act checked open-call placing_of after answer output
      open-meets r {i} {u} p e w = go (some_slot (has_key (dest_of dest) vlan) t) (some_slot is_free t) refl refl (rw taken-is at p)
        where
          go : (taken free : Bool) → some_slot (has_key (dest_of dest) vlan) t ≡ taken → some_slot is_free t ≡ free
              → (if some_slot (has_key (dest_of dest) vlan) t then Err Taken else ok_or (found is_free t) Full) ≡ Ok i
              → Meets t call (record { said = said_opened r; table = u; output = [] })
          go true free c f p = let q : Err Taken ≡ Ok i = rw c at p in cc
          go false false c f p =
              let q : ok_or (found is_free t) Full ≡ Ok i = rw c at p in
              let n : Err Full ≡ Ok i = rw (none_found is_free t f) at q in
              cc
          go false true c f p =
              let q : ok_or (found is_free t) Full ≡ Ok i = rw c at p in
              let n : Ok (search is_free t) ≡ Ok i = rw (some-found is_free t f) at q in
              let j : i ≡ search is_free t = cc in
              by-act t call (opens (search is_free t) new) (simp (a, fresh-settled good, c, f)) (ap said_opened w ∙ rw j) (e ∙ rw (j, is-new)) refl

-- ---- close and reset

-- a refusal is one whatever the answer would hold
same : {x y : Refusal} → ◌≡◌ {A = Result Stream Refusal} (Err x) (Err y) → x ≡ y
same e = cc

module _ (t : Table) (slot : ℕ) (few : length t ≤ slots_most) {s : Stream} (h : s ≡ at t slot) where
  small : ltb slots_most (length t) ≡ false
  small = le-ltb _ _ few

  pub close-refused-so : (r : Result Unit Refusal) (refusal : Refusal) → close_change (length t) slot s ≡ Err refusal → r ≡ Err refusal
      → Meets t (closing slot) (record { said = said_done r; table = t; output = [] })
  unfolding act checked in_use close_change after answer output
  close-refused-so r refusal d w = go (ltb slot (length t) && yes (at t slot).used) refl (rw h at d)
    where
      go : (used : Bool) → (ltb slot (length t) && yes (at t slot).used) ≡ used → close_change (length t) slot (at t slot) ≡ Err refusal
          → Meets t (closing slot) (record { said = said_done r; table = t; output = [] })
      go false b d = let q : Err Slot ≡ Err refusal = simp b at d in by-act t (closing slot) (refuse SLOT) (simp (small, b)) (ap said_done w ∙ rw (← same q) refl) refl refl
      go true b d = let q : Ok (closed (at t slot)) ≡ Err refusal = simp b at d in cc

  pub close-meets : (r : Result Unit Refusal) {next : Stream} {u : Table} → close_change (length t) slot s ≡ Ok next → u ≡ set t slot next → r ≡ Ok tt
      → Meets t (closing slot) (record { said = said_done r; table = u; output = [] })
  unfolding act checked in_use close_change after answer output
  close-meets r {next} {u} d e w = go (ltb slot (length t) && yes (at t slot).used) refl (rw h at d)
    where
      go : (used : Bool) → (ltb slot (length t) && yes (at t slot).used) ≡ used → close_change (length t) slot (at t slot) ≡ Ok next
          → Meets t (closing slot) (record { said = said_done r; table = u; output = [] })
      go false b d = let q : Err Slot ≡ Ok next = simp b at d in cc
      go true b d =
          let q : Ok (closed (at t slot)) ≡ Ok next = simp b at d in
          let n : next ≡ closed (at t slot) = cc in
          by-act t (closing slot) (closes slot) (simp (small, b)) (ap said_done w) (e ∙ rw n) refl

  pub reset-refused-so : (r : Result Unit Refusal) (refusal : Refusal) → reset_change (length t) slot s ≡ Err refusal → r ≡ Err refusal
      → Meets t (resetting slot) (record { said = said_done r; table = t; output = [] })
  unfolding act checked in_use reset_change after answer output
  reset-refused-so r refusal d w = go (ltb slot (length t) && yes (at t slot).used) (settled (at t slot)) refl refl (rw h at d)
    where
      go : (used ok : Bool) → (ltb slot (length t) && yes (at t slot).used) ≡ used → settled (at t slot) ≡ ok
          → reset_change (length t) slot (at t slot) ≡ Err refusal → Meets t (resetting slot) (record { said = said_done r; table = t; output = [] })
      go false ok b c d = let q : Err Slot ≡ Err refusal = simp b at d in by-act t (resetting slot) (refuse SLOT) (simp (small, b)) (ap said_done w ∙ rw (← same q) refl) refl refl
      go true false b c d = let q : Err Damaged ≡ Err refusal = simp (b, c) at d in by-act t (resetting slot) (refuse DAMAGED) (simp (small, b, c)) (ap said_done w ∙ rw (← same q) refl) refl refl
      go true true b c d = let q : Ok (decisions.reset (at t slot)) ≡ Err refusal = simp (b, c) at d in cc

  pub reset-meets : (r : Result Unit Refusal) {next : Stream} {u : Table} → reset_change (length t) slot s ≡ Ok next → u ≡ set t slot next → r ≡ Ok tt
      → Meets t (resetting slot) (record { said = said_done r; table = u; output = [] })
  unfolding act checked in_use reset_change after answer output
  reset-meets r {next} {u} d e w = go (ltb slot (length t) && yes (at t slot).used) (settled (at t slot)) refl refl (rw h at d)
    where
      go : (used ok : Bool) → (ltb slot (length t) && yes (at t slot).used) ≡ used → settled (at t slot) ≡ ok
          → reset_change (length t) slot (at t slot) ≡ Ok next → Meets t (resetting slot) (record { said = said_done r; table = u; output = [] })
      go false ok b c d = let q : Err Slot ≡ Ok next = simp b at d in cc
      go true false b c d = let q : Err Damaged ≡ Ok next = simp (b, c) at d in cc
      go true true b c d =
          let q : Ok (decisions.reset (at t slot)) ≡ Ok next = simp (b, c) at d in
          let n : next ≡ decisions.reset (at t slot) = cc in
          by-act t (resetting slot) (resets slot) (simp (small, b, c)) (ap said_done w) (e ∙ rw n) refl

-- ---- tick

pub tick-meets : (t : Table) (r : Result Sums Refusal) {a b : ℕ} {u : Table}
    → length t ≤ slots_most → a ≡ count expires t → b ≡ count damaged t → u ≡ map ticked t → said_swept r ≡ answers (swept a b)
    → Meets t ticking (record { said = said_swept r; table = u; output = [] })
unfolding act checked after answer output
tick-meets t r m a b e w = by-act t ticking ticks (simp (le-ltb _ _ m)) (w ∙ rw (a, b)) e refl

-- the same by the sums of a sweep
pub sweep-meets : (t : Table) (r : Result Sums Refusal) {c : Sums} {u : Table}
    → length t ≤ slots_most → c ≡ sums t → u ≡ ticked_all t → said_swept r ≡ answers (swept c.resets c.damaged)
    → Meets t ticking (record { said = said_swept r; table = u; output = [] })
unfolding sums ticked_all
sweep-meets t r m e v w = tick-meets t r m (ap (λ (c : Sums). c.resets) e) (ap (λ (c : Sums). c.damaged) e) v w
