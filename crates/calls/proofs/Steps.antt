-- What the steps of a call come to, by the tests that the code makes. Assumes nothing.
use Prim.Native.Nat.{ℕ, ◌≤◌, ◌<◌}
use mathlib.Core.Path.{◌≡◌, refl, sym, ap, ◌∙◌}
use mathlib.Core.Bool.{Bool, true, false, ◌&&◌, ◌||◌}
use mathlib.Core.List.{List}
use lib.Dec.{ltb}
use borrow.Author.Tests.{lt-ltb, le-ltb}
use Rattle.refusal.specs.Checks.{Said}
use Rattle.refusal.specs.Checks.Said.{refused, answers}
use Rattle.refusal.specs.Numbers.{TABLE, NETWORK, GROUP, number_of}
use Rattle.record.specs.declared.Stream.{Stream}
use Rattle.std.specs.Prelude.{if◌then◌else◌}
use Rattle.record.specs.Words.{yes}
use Rattle.record.specs.Sizes.{slots_most}
use Rattle.frame.specs.TagCalls.{said_read}
use Rattle.frame.specs.Frame.{Tag, group_source, read_of}
use Rattle.std.specs.Prelude.{Option, None, Some, is_some, ok_or, Result, Ok, Err}
use Rattle.refusal.specs.declared.Refusal.{Refusal}
use Rattle.refusal.specs.declared.Refusal.TheVariants.{Table, Network, Damaged, Room, Taken, Full, Slot}
use Rattle.stream.specs.Record.{settled, lawful, closed}
use Rattle.stream.specs.Decisions as decisions
use Rattle.stream.specs.declared.Marks.{Marks}
use Rattle.stream.specs.declared.Weighed.{Weighed}
use Rattle.stream.specs.declared.Weighed.TheVariants as weighs
use Rattle.stream.specs.Steps.{weighed_as, weighed}
use Rattle.calls.specs.Calls.{admitted}
use Rattle.calls.specs.Steps.{begun, asked, judged, placing_of, close_change, reset_change}
use Rattle.calls.proofs.Admits.{admits-all, admits-none}

-- ---- begin

module _ (slots network : ℕ) where
  pub begin-many : slots_most < slots → Err Table ≡ begun slots network
  unfolding begun
  begin-many m = simp (lt-ltb _ _ m)

  pub begin-network : slots ≤ slots_most → 1 < network → Err Network ≡ begun slots network
  unfolding begun
  begin-network m n = simp (le-ltb _ _ m, lt-ltb _ _ n)

  pub begin-passed : slots ≤ slots_most → network ≤ 1 → Ok tt ≡ begun slots network
  unfolding begun
  begin-passed m n = simp (le-ltb _ _ m, le-ltb _ _ n)

-- a call that is refused by these is refused, whatever follows; and one that passes goes on
module _ {A : Type 0} (slots network : ℕ) (rest : Said A) where
  abbrev behind : Said A
  behind = if ltb slots_most slots then refused TABLE else if ltb 1 network then refused NETWORK else rest

  pub begun-refused : {refusal : Refusal} → begun slots network ≡ Err refusal → refused (number_of refusal) ≡ behind
  unfolding begun
  begun-refused {refusal} e = go (ltb slots_most slots) (ltb 1 network) e
    where
      go : (a b : Bool) → ◌≡◌ {A = Result Unit Refusal} (if a then Err Table else if b then Err Network else Ok tt) (Err refusal)
          → refused (number_of refusal) ≡ (if a then refused TABLE else if b then refused NETWORK else rest)
      go true b e = let r : Table ≡ refusal = cc in rw (← r) refl
      go false true e = let r : Network ≡ refusal = cc in rw (← r) refl
      go false false e = cc

  pub begun-passed : begun slots network ≡ Ok tt → rest ≡ behind
  unfolding begun
  begun-passed e = go (ltb slots_most slots) (ltb 1 network) e
    where
      go : (a b : Bool) → ◌≡◌ {A = Result Unit Refusal} (if a then Err Table else if b then Err Network else Ok tt) (Ok tt)
          → rest ≡ (if a then refused TABLE else if b then refused NETWORK else rest)
      go true b e = cc
      go false true e = cc
      go false false e = refl

-- ---- ask

module _ (slots network : ℕ) (f : List ℕ) where
  pub ask-many : {refusal : Refusal} → begun slots network ≡ Err refusal → refused (number_of refusal) ≡ asked slots network f
  unfolding asked
  ask-many e = begun-refused slots network _ e

  module _ (passed : begun slots network ≡ Ok tt) where
    reads : asked slots network f ≡ admitted f (read_of f)
    unfolding asked
    reads = sym (begun-passed slots network _ passed)

    pub ask-refused : {r : Result Tag Refusal} (m : Refusal) → said_read r ≡ read_of f → r ≡ Err m → refused (number_of m) ≡ asked slots network f
    unfolding admitted
    ask-refused m p q = ap (admitted f) (ap said_read (sym q) ∙ p) ∙ sym reads

    module _ {r : Result Tag Refusal} {g : Tag} (p : said_read r ≡ read_of f) (q : r ≡ Ok g) {b : Bool} (e : b ≡ group_source f) where
      of-tag : asked slots network f ≡ admitted f (answers g)
      of-tag = reads ∙ ap (admitted f) (sym p ∙ ap said_read q)

      pub ask-group : b ≡ true → refused GROUP ≡ asked slots network f
      ask-group s = sym (of-tag ∙ admits-none f _ (sym e ∙ s))

      pub ask-tagged : b ≡ false → answers g ≡ asked slots network f
      ask-tagged s = sym (of-tag ∙ admits-all f _ (sym e ∙ s))

-- ---- judge

module _ (s : Stream) (number : ℕ) (room : Bool) where
  -- a record that is not lawful has no verdict, and a lawful one has one
  pub granted-none : weighed s number ≡ None → Err Damaged ≡ judged s number room
  unfolding judged weighed
  granted-none e = go (lawful s) refl e
    where
      go : (l : Bool) → lawful s ≡ l → (if l then Some (weighed_as s number (decisions.case_of s number)) else None) ≡ None
          → Err Damaged ≡ judged s number room
      go true l e = cc
      go false l e = rw l

  module _ {w : Weighed} (e : weighed s number ≡ Some w) where
    has-verdict : lawful s ≡ true
    unfolding weighed
    has-verdict = go (lawful s) refl e
      where
        go : (l : Bool) → lawful s ≡ l → (if l then Some (weighed_as s number (decisions.case_of s number)) else None) ≡ Some w → lawful s ≡ true
        go true l e = l
        go false l e = cc

    pub granted-small : room ≡ false → Err Room ≡ judged s number room
    unfolding judged
    granted-small r = rw (has-verdict, r)

    pub granted-verdict : room ≡ true → Ok w ≡ judged s number room
    unfolding judged
    granted-verdict r = rw (has-verdict, r, e)

    -- the same by either
    pub judge-granted : (if room then Ok w else Err Room) ≡ judged s number room
    judge-granted = go room refl
      where
        go : (b : Bool) → room ≡ b → (if room then Ok w else Err Room) ≡ judged s number room
        go true r = ap (λ (b : Bool). if b then Ok w else Err Room) r ∙ granted-verdict r
        go false r = ap (λ (b : Bool). if b then Ok w else Err Room) r ∙ granted-small r

  -- each verdict by itself
  pub granted-up : {m : Marks} → weighed s number ≡ Some (weighs.HandedUp m) → room ≡ true → Ok (weighs.HandedUp m) ≡ judged s number room
  granted-up e r = granted-verdict e r

  pub granted-duplicate : weighed s number ≡ Some weighs.Duplicate → room ≡ true → Ok weighs.Duplicate ≡ judged s number room
  granted-duplicate e r = granted-verdict e r

  pub granted-rogue : weighed s number ≡ Some weighs.Rogue → room ≡ true → Ok weighs.Rogue ≡ judged s number room
  granted-rogue e r = granted-verdict e r

-- ---- place

-- whether a key is taken, by the searches for it
module _ (key link : Option ℕ) where
  pub seen_here : is_some key ≡ true → true ≡ (is_some key || is_some link)
  seen_here e = simp e

  pub seen-there : {b : Bool} → is_some key ≡ false → b ≡ is_some link → b ≡ (is_some key || is_some link)
  seen-there n e = e ∙ simp n

module _ (key link free : Option ℕ) where
  pub place-taken : is_some key ≡ true → Err Taken ≡ placing_of key link free
  unfolding placing_of
  place-taken e = rw (← seen_here key link e)

  pub place-link-taken : is_some key ≡ false → is_some link ≡ true → Err Taken ≡ placing_of key link free
  unfolding placing_of
  place-link-taken n e = rw (← seen-there key link n (sym e))

  pub place-free : is_some key ≡ false → is_some link ≡ false → ok_or free Full ≡ placing_of key link free
  unfolding placing_of
  place-free n e = simp (n, e)

-- ---- close and reset

module _ (slots slot : ℕ) (s : Stream) {u : Bool} (is : u ≡ (ltb slot slots && yes s.used)) where
  pub close-none : u ≡ false → Err Slot ≡ close_change slots slot s
  unfolding close_change
  close-none e = simp (sym is ∙ e)

  pub close-done : {r : Stream} → u ≡ true → r ≡ closed s → Ok r ≡ close_change slots slot s
  unfolding close_change
  close-done e p = rw p (simp (sym is ∙ e))

  pub reset-none : u ≡ false → Err Slot ≡ reset_change slots slot s
  unfolding reset_change
  reset-none e = simp (sym is ∙ e)

  pub reset-unsettled : u ≡ true → settled s ≡ false → Err Damaged ≡ reset_change slots slot s
  unfolding reset_change
  reset-unsettled e o = simp (sym is ∙ e, o)

  pub reset-done : {r : Stream} → u ≡ true → settled s ≡ true → r ≡ decisions.reset s → Ok r ≡ reset_change slots slot s
  unfolding reset_change
  reset-done e o p = rw p (simp (sym is ∙ e, o))
