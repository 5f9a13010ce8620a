-- Order 9: the steps of an open with an index are the open, and those of a rebuild the rebuild. Assumes nothing.
use Prim.Native.Nat.{ℕ, ◌≤◌, ◌<◌}
use mathlib.Core.Path.{◌≡◌, refl, ap, sym, ◌∙◌}
use mathlib.Core.Bool.{Bool, true, false, ◌&&◌, ◌||◌, beq}
use mathlib.Core.List.{List, [], ◌∷◌}
use lib.Dec.{eqb, ltb}
use lib.ListN.{length}
use borrow.Author.Tests.{le-ltb, eq-eqb}
use Rattle.refusal.specs.Checks.{first_of}
use Rattle.refusal.specs.Checks.Said.{refused, answers}
use Rattle.record.specs.declared.Stream.{Stream}
use Rattle.record.specs.Sizes.{slots_most}
use Rattle.stream.specs.Record.{settled}
use Rattle.stream.specs.Record as records
use Rattle.frame.specs.Frame.{dest_of}
use Rattle.calls.specs.Table.{Table, search, some_slot, found, has_key, of_links, hears, is_free}
use Rattle.calls.specs.Calls.{opening, act, checked, open-call, Meets}
use Rattle.calls.specs.Calls as calls
use Rattle.calls.specs.Said.{said_opened}
use Rattle.std.specs.Prelude.{Option, Some, None, is_some, ok_or, Result, Ok, Err}
use Rattle.refusal.specs.Numbers.{number_of}
use Rattle.refusal.specs.declared.Refusal.{Refusal}
use Rattle.refusal.specs.declared.Refusal.TheVariants as refusals
use Rattle.std.specs.Prelude.{if◌then◌else◌, not}
use Rattle.calls.proofs.Search.{some-cons}
use Rattle.calls.proofs.Arrivals.{found_inside}
use Rattle.calls.specs.Steps.{placing_of}
use Rattle.index.specs.Index.{Index, places, follow, indexed, rebuilt}
use Rattle.index.specs.Indexed.{rebuild_checks, rebuilt_by, MeetsIndexed, MeetsRebuild}
use Rattle.receiver.specs.Seek.{place_as, sizes_unfit}
use Rattle.index.proofs.Kept.{indexed-is}
use mathlib.Core.Logic.{inl, inr}
use mathlib.Core.Path.{subst}
use Rattle.refusal.specs.Checks.{Said}
use Rattle.calls.specs.Calls.{Answer}
use Rattle.receiver.proofs.Closing.{Stores, Told, some-told, indexed-refused, indexed-stored}

-- ---- what following finds is what an open has to know
at_place : (t : Table) (m : ℕ) → is_some (place_as t m) ≡ ltb m (length t)
unfolding place_as
at_place t m = go (ltb m (length t)) refl
  where
    go : (b : Bool) → ltb m (length t) ≡ b → is_some (place_as t m) ≡ ltb m (length t)
    go true e = rw e
    go false e = rw e

-- A slot with the key is a virtual link or none.
either : (dest vlan : ℕ) (s : Stream) → has_key dest vlan s ≡ (hears false dest vlan s || hears true dest vlan s)
unfolding hears
either dest vlan s = go (has_key dest vlan s) (of_links s)
  where
    go : (a b : Bool) → a ≡ ((a && beq b false) || (a && beq b true))
    go true true = refl
    go true false = refl
    go false b = refl

some-either : (dest vlan : ℕ) (t : Table) → some_slot (has_key dest vlan) t ≡ (some_slot (hears false dest vlan) t || some_slot (hears true dest vlan) t)
unfolding some_slot search
some-either dest vlan [] = refl
some-either dest vlan (s ∷ t) =
    some-cons (has_key dest vlan) s t ∙ rw (either dest vlan s, some-either dest vlan t, some-cons (hears false dest vlan) s t, some-cons (hears true dest vlan) s t)
    (go (hears false dest vlan s) (hears true dest vlan s) (some_slot (hears false dest vlan) t) (some_slot (hears true dest vlan) t))
  where
    go : (a b c d : Bool) → ((a || b) || (c || d)) ≡ ((a || c) || (b || d))
    go true b c d = refl
    go false true true d = refl
    go false true false d = refl
    go false false c d = refl

module _ (ix : Index) (t : Table) (dest vlan : ℕ) (good : indexed ix t ≡ true) where
  pub placed-found : (link : Bool) {f : Option ℕ} → f ≡ place_as t (follow ix t (record { dest = dest; vlan = vlan; link = link })) → f ≡ found (hears link dest vlan) t
  unfolding place_as found some_slot
  placed-found link {f} followed = followed ∙ ap (place_as t) (((indexed-is ix t).0 good).1 (record { dest = dest; vlan = vlan; link = link }))

  some-is : (link : Bool) {f : Option ℕ} → f ≡ place_as t (follow ix t (record { dest = dest; vlan = vlan; link = link })) → is_some f ≡ some_slot (hears link dest vlan) t
  unfolding some_slot
  some-is link followed =
      ap is_some (followed ∙ ap (place_as t) (((indexed-is ix t).0 good).1 (record { dest = dest; vlan = vlan; link = link }))) ∙ at_place t (search (hears link dest vlan) t)

  pub seen-is : (f : Option ℕ) → f ≡ place_as t (follow ix t (record { dest = dest; vlan = vlan; link = false }))
      → (m : Option ℕ) → m ≡ place_as t (follow ix t (record { dest = dest; vlan = vlan; link = true })) → (is_some f || is_some m) ≡ some_slot (has_key dest vlan) t
  seen-is f followed m linked = rw (some-is false followed, some-is true linked) (sym (some-either dest vlan t))

-- an open that is not refused fills a slot within the table
pub place-within : (key link : Option ℕ) (p : Stream → Bool) (t : Table) {i : ℕ} → placing_of key link (found p t) ≡ Ok i → i < length t
unfolding placing_of
place-within key link p t {i} e = go (is_some key || is_some link) (found p t) refl e
  where
    go : (b : Bool) (f : Option ℕ) → found p t ≡ f → (if b then Err refusals.Taken else ok_or f refusals.Full) ≡ Ok i → i < length t
    go true f q e = let g : Err refusals.Taken ≡ Ok i = e in cc
    go false None q e = let g : Err refusals.Full ≡ Ok i = e in cc
    go false (Some j) q e = let g : Ok j ≡ Ok i = e in let h : j ≡ i = cc in found_inside t p (q ∙ ap Some h)

-- ---- open
module _ (t : Table) (dest : List ℕ) (vlan rule window time : ℕ) where
  pub open-stores : Stores (act t (opening dest vlan rule window time))
  unfolding act checked open-call
  open-stores = go (ltb slots_most (length t)) refl (settled new) refl (some_slot (has_key new.dest new.vlan) t) refl (some_slot is_free t) refl
    where
      new : Stream
      new = records.opened (dest_of dest) vlan rule window time

      go : (a : Bool) → ltb slots_most (length t) ≡ a → (b : Bool) → settled new ≡ b → (c : Bool) → some_slot (has_key new.dest new.vlan) t ≡ c → (d : Bool) → some_slot is_free t ≡ d
          → Stores (act t (opening dest vlan rule window time))
      go true p b q c r d s = rw p (Stores.refuses _)
      go false p false q c r d s = rw (p, q) (Stores.refuses _)
      go false p true q true r d s = rw (p, q, r) (Stores.refuses _)
      go false p true q false r false s = rw (p, q, r, s) (Stores.refuses _)
      go false p true q false r true s = rw (p, q, r, s) (Stores.fills _ _)

module _ (ix : Index) (t : Table) (dest : List ℕ) (vlan rule window time : ℕ) (good : indexed ix t ≡ true) (zs : Table) (a : Result ℕ Refusal)
    (met : Meets t (opening dest vlan rule window time) (record { said = said_opened a; table = zs; output = [] })) where
  pub open-refused : (refusal : Refusal) → a ≡ Err refusal → (r : Result ℕ Refusal) → r ≡ Err refusal
      → MeetsIndexed ix t (opening dest vlan rule window time) (record { said = said_opened r; table = zs; index = ix })
  open-refused refusal e r w = rw (w ∙ sym e) (indexed-refused ix t (opening dest vlan rule window time) good met (number_of refusal) (ap said_opened e))

  pub open-stored : {i : ℕ} → a ≡ Ok i → (jx : Index) → jx ≡ rebuilt zs
      → MeetsIndexed ix t (opening dest vlan rule window time) (record { said = said_opened (Ok i); table = zs; index = jx })
  open-stored e jx b =
      subst (λ (w : Said Answer). MeetsIndexed ix t (opening dest vlan rule window time) (record { said = w; table = zs; index = jx })) (ap said_opened e)
      (indexed-stored ix t (opening dest vlan rule window time) good met (open-stores t dest vlan rule window time) _ (ap said_opened e) jx b)

-- ---- rebuild
pub rebuild-refused : (ix : Index) (t : Table) (refusal : Refusal) → sizes_unfit (length t) (length ix) ≡ Err refusal → MeetsRebuild ix t (refused (number_of refusal)) ix
unfolding sizes_unfit first_of rebuild_checks rebuilt_by
rebuild-refused ix t refusal said = elim (some-told (ltb slots_most (length t)) refusals.Table (if not (eqb (length ix) places) then Err refusals.Index else Ok (tt {0})) said) [
  | inl p ↦ record { said = rw (p.0, p.1) refl; index = rw p.0 refl }
  | inr p ↦ elim (some-told (not (eqb (length ix) places)) refusals.Index (Ok (tt {0})) p.1) [
    | inl q ↦ record { said = rw (p.0, q.0, q.1) refl; index = rw (p.0, q.0) refl }
    | inr q ↦ (let f : ◌≡◌ {A = Told} (Ok (tt {0})) (Err refusal) = q.1 in cc)
  ]
]

pub rebuild-done : (ix : Index) (t : Table) → (length t ≤ slots_most) × (length ix ≡ places) → (jx : Index) → jx ≡ rebuilt t → MeetsRebuild ix t (answers calls.done) jx
unfolding first_of rebuild_checks rebuilt_by
rebuild-done ix t f jx e = record {
  said = rw (le-ltb slots_most (length t) f.0, eq-eqb (length ix) places f.1) refl;
  index = rw (le-ltb slots_most (length t) f.0, eq-eqb (length ix) places f.1) e;
}
