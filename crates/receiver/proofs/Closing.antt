-- Order 9: the steps of a call with an index are the call. Assumes nothing.
use Prim.Native.Nat.{ℕ, ◌≤◌, ◌<◌}
use mathlib.Core.Path.{◌≡◌, refl, ap, sym, ◌∙◌}
use mathlib.Core.Bool.{Bool, true, false}
use mathlib.Core.List.{List, []}
use native.Mathlib.Omega.{arith}
use lib.Dec.{eqb, ltb}
use lib.ListN.{length}
use borrow.Author.Tests.{lt-ltb, le-ltb, ltb-true, ltb-false, eqb-true, eq-eqb, ne_eqb}
use Rattle.refusal.specs.Checks.{Said}
use Rattle.refusal.specs.Checks.Said.{refused, answers}
use Rattle.refusal.specs.Numbers.{TABLE, INDEX}
use Rattle.record.specs.Sizes.{slots_most}
use Rattle.calls.specs.Table as tables
use Rattle.calls.specs.Calls.{Call, Act, refuse, opens, closes, closing, act, checked, in_use, after, answer, output, Answer, Meets}
use Rattle.calls.specs.Said.{said_done}
use Rattle.calls.specs.Steps.{close_change, reset_change}
use Rattle.record.specs.declared.Stream.{Stream}
use Rattle.stream.specs.Record.{closed}
use Rattle.record.specs.Words as words
use Rattle.std.specs.Prelude.{Result, Ok, Err, if◌then◌else◌, not, ◌&&◌}
use mathlib.Core.Logic.{◌⊎◌, inl, inr}
use Rattle.std.specs.Array.{IsWholeChunk}
use mathlib.Core.Path.{subst}
use Rattle.refusal.specs.Numbers.{number_of}
use Rattle.refusal.specs.declared.Refusal.{Refusal}
use Rattle.refusal.specs.declared.Refusal.TheVariants.{Network, Long, Short, Untagged, Unknown, Damaged, Room, Setting, Taken, Full, Slot, Tagged, Group, Batch, Trailer}
use Rattle.refusal.specs.declared.Refusal.TheVariants as refusals
use Rattle.index.specs.Index as indices
use Rattle.index.specs.Index.{places, agrees, indexed, rebuilt}
use Rattle.index.specs.Indexed.{guarded, index_after, MeetsIndexed, unfit_of, told_unfit}
use Rattle.receiver.specs.Seek.{differs, sizes_unfit}
use Rattle.index.proofs.Guard.{same-act}
use Rattle.index.proofs.Kept.{indexed-is, as-without}

-- ---- 1 and 18

-- no refusal has the number 0
pub number-some : (refusal : Refusal) → number_of refusal ≡ 0 → ⊥
number-some refusals.Table e = omega arith
number-some Network e = omega arith
number-some Long e = omega arith
number-some Short e = omega arith
number-some Untagged e = omega arith
number-some Unknown e = omega arith
number-some Damaged e = omega arith
number-some Room e = omega arith
number-some Setting e = omega arith
number-some Taken e = omega arith
number-some Full e = omega arith
number-some Slot e = omega arith
number-some Tagged e = omega arith
number-some Group e = omega arith
number-some Batch e = omega arith
number-some Trailer e = omega arith
number-some refusals.Index e = omega arith

-- what a step of the code says that has no more to say than whether it is refused
abbrev pub Told : Type 0
Told = Result (Unit {0}) Refusal

pub some-told : (b : Bool) (first : Refusal) (r : Told) {refusal : Refusal} → (if b then Err first else r) ≡ Err refusal → ((b ≡ true) × (refusal ≡ first)) ⊎ ((b ≡ false) × (r ≡ Err refusal))
some-told true first r {refusal} e = let f : ◌≡◌ {A = Told} (Err first) (Err refusal) = e in inl (refl, cc)
some-told false first r e = inr (refl, e)

pub none-told : (b : Bool) (first : Refusal) (r : Told) {u : Unit {0}} → (if b then Err first else r) ≡ Ok u → (b ≡ false) × (r ≡ Ok u)
none-told true first r {u} e = let f : ◌≡◌ {A = Told} (Err first) (Ok u) = e in cc
none-told false first r e = (refl, e)

-- the test of the table's length
module _ (t : tables.Table) (r : Told) (said : r ≡ (if ltb slots_most (length t) then Err refusals.Table else Ok (tt {0}))) where
  pub many-slots : (refusal : Refusal) → r ≡ Err refusal → (refusal ≡ refusals.Table) × (slots_most < length t)
  many-slots refusal e = elim (some-told (ltb slots_most (length t)) refusals.Table (Ok (tt {0})) (sym said ∙ e)) [
    | inl p ↦ (p.1, ltb-true slots_most (length t) p.0)
    | inr p ↦ (let f : ◌≡◌ {A = Told} (Ok (tt {0})) (Err refusal) = p.1 in cc)
  ]

  pub few-slots : {u : Unit {0}} → r ≡ Ok u → length t ≤ slots_most
  few-slots e = ltb-false slots_most (length t) (none-told (ltb slots_most (length t)) refusals.Table (Ok (tt {0})) (sym said ∙ e)).0

module _ (ix : indices.Index) (t : tables.Table) where
  pub sizes-refuse : (refusal : Refusal) → sizes_unfit (length t) (length ix) ≡ Err refusal → number_of refusal ≡ unfit_of ix t
  unfolding sizes_unfit unfit_of indexed
  sizes-refuse refusal said = elim (some-told (ltb slots_most (length t)) refusals.Table (if not (eqb (length ix) places) then Err refusals.Index else Ok (tt {0})) said) [
    | inl p ↦ rw (p.0, p.1) refl
    | inr p ↦ elim (some-told (not (eqb (length ix) places)) refusals.Index (Ok (tt {0})) p.1) [
      | inl q ↦ rw (p.0, not-yes (eqb (length ix) places) q.0, q.1) refl
      | inr q ↦ (let f : ◌≡◌ {A = Told} (Ok (tt {0})) (Err refusal) = q.1 in cc)
    ]
  ]
    where
      not-yes : (b : Bool) → not b ≡ true → b ≡ false
      not-yes true e = sym e
      not-yes false e = refl

  pub sizes-fit : {u : Unit {0}} → sizes_unfit (length t) (length ix) ≡ Ok u → (length t ≤ slots_most) × (length ix ≡ places)
  unfolding sizes_unfit
  sizes-fit said =
      let p = none-told (ltb slots_most (length t)) refusals.Table (if not (eqb (length ix) places) then Err refusals.Index else Ok (tt {0})) said in
      let q = none-told (not (eqb (length ix) places)) refusals.Index (Ok (tt {0})) p.1 in
      (ltb-false slots_most (length t) p.0, eqb-true (length ix) places (not-no (eqb (length ix) places) q.0))
    where
      not-no : (b : Bool) → not b ≡ false → b ≡ true
      not-no true e = refl
      not-no false e = sym e

  -- the two lengths that are refused
  pub sizes-many : slots_most < length t → sizes_unfit (length t) (length ix) ≡ Err refusals.Table
  unfolding sizes_unfit
  sizes-many m = rw (lt-ltb slots_most (length t) m) refl

  pub sizes-other : length t ≤ slots_most → (length ix ≡ places → ⊥) → sizes_unfit (length t) (length ix) ≡ Err refusals.Index
  unfolding sizes_unfit
  sizes-other m n = rw (le-ltb slots_most (length t) m, ne_eqb (length ix) places n) refl

  -- the same as a step says it: the table is too long, or the index is not of 128 places
  pub many-unfit : (r : Told) → r ≡ (if ltb slots_most (length t) then Err refusals.Table else Ok (tt {0})) → (refusal : Refusal) → r ≡ Err refusal → sizes_unfit (length t) (length ix) ≡ Err refusal
  many-unfit r said refusal e = let m = many-slots t r said refusal e in sizes-many m.1 ∙ ap Err (sym m.0)

  pub other-unfit : (r : Told) → r ≡ (if ltb slots_most (length t) then Err refusals.Table else Ok (tt {0})) → {u : Unit {0}} → r ≡ Ok u → (length ix ≡ places → ⊥)
      → sizes_unfit (length t) (length ix) ≡ Err refusals.Index
  other-unfit r said e n = sizes-other (few-slots t r said e) n

pub unfit-last : (ix : indices.Index) (t : tables.Table) → (length t ≤ slots_most) × (length ix ≡ places) → (ok : Bool) → ok ≡ agrees ix t → (r : Told) → r ≡ differs ok → told_unfit r ≡ unfit_of ix t
unfolding unfit_of indexed differs
unfit-last ix t f true e r d = rw (d, le-ltb slots_most (length t) f.0, eq-eqb (length ix) places f.1, sym e) refl
unfit-last ix t f false e r d = rw (d, le-ltb slots_most (length t) f.0, eq-eqb (length ix) places f.1, sym e) refl

-- what the steps up to the agreement say: the lengths fit, `same` is the index as an array of its places, and `ok` whether it agrees
pub told-differs : (ix same : indices.Index) (t : tables.Table) (r : Told) → r ≡ (if ltb slots_most (length t) then Err refusals.Table else Ok (tt {0})) → {u : Unit {0}} → r ≡ Ok u
    → IsWholeChunk ix same places → (ok : Bool) → ok ≡ agrees same t → (d : Told) → d ≡ differs ok → told_unfit d ≡ unfit_of ix t
told-differs ix same t r said fit whole ok by d e =
    unfit-last ix t (few-slots t r said fit, whole.long) ok (by ∙ ap (λ (jx : indices.Index). agrees jx t) whole.same) d e

module _ (ix : indices.Index) (t : tables.Table) (r : Told) (said : told_unfit r ≡ unfit_of ix t) where
  pub unfit-refused : (c : Call) {w : Said Answer} (refusal : Refusal) → r ≡ Err refusal → w ≡ refused (number_of refusal) → MeetsIndexed ix t c (record { said = w; table = t; index = ix })
  unfolding answer after index_after guarded unfit_of
  unfit-refused c {w} refusal y e = record {
    said = e ∙ sym (ap (answer t) g);
    table = sym (ap (after t) g);
    index = sym (ap (index_after ix t) g);
  }
    where
      no : number_of refusal ≡ unfit_of ix t
      no = sym (ap told_unfit y) ∙ said

      g : guarded ix t c ≡ refuse (number_of refusal)
      g = go (ltb slots_most (length t)) refl (indexed ix t) refl
        where
          go : (a : Bool) → ltb slots_most (length t) ≡ a → (b : Bool) → indexed ix t ≡ b → guarded ix t c ≡ refuse (number_of refusal)
          go true p b q = rw p (ap refuse (sym (no ∙ rw p refl)))
          go false p false q = rw (p, q) (ap refuse (sym (no ∙ rw (p, q) refl)))
          go false p true q = absurd (number-some refusal (no ∙ rw (p, q) refl))

  pub unfit-none : {u : Unit} → r ≡ Ok u → (length t ≤ slots_most) × (indexed ix t ≡ true)
  unfolding unfit_of
  unfit-none y = go (ltb slots_most (length t)) refl (indexed ix t) refl
    where
      no : 0 ≡ unfit_of ix t
      no = sym (ap told_unfit y) ∙ said

      go : (a : Bool) → ltb slots_most (length t) ≡ a → (b : Bool) → indexed ix t ≡ b → (length t ≤ slots_most) × (indexed ix t ≡ true)
      go true p b q = absurd (let e : 0 ≡ TABLE = no ∙ rw p refl in omega (arith, e))
      go false p false q = absurd (let e : 0 ≡ INDEX = no ∙ rw (p, q) refl in omega (arith, e))
      go false p true q = (ltb-false slots_most (length t) p, q)

pub good-size : (ix : indices.Index) (t : tables.Table) → indexed ix t ≡ true → length ix ≡ places
good-size ix t h = ((indexed-is ix t).0 h).0

-- ---- an open or a close that is refused, or stores
pub data Stores : Act → Type 0 where
  refuses : (n : ℕ) → Stores (refuse n)
  fills : (i : ℕ) (s : _) → Stores (opens i s)
  frees : (i : ℕ) → Stores (closes i)

stored : (ix : indices.Index) (t : tables.Table) {a : Act} → Stores a → (v : Answer) → answer t a ≡ answers v → index_after ix t a ≡ rebuilt (after t a)
unfolding answer index_after
stored ix t (refuses n) v e = absurd (let z : ◌≡◌ {A = ℕ} 0 1 = cc in omega arith)
stored ix t (fills i s) v e = refl
stored ix t (frees i) v e = refl

pub close-stores : (t : tables.Table) (slot : ℕ) → Stores (act t (closing slot))
unfolding act checked
close-stores t slot = go (ltb slots_most (length t)) refl (in_use t slot) refl
  where
    go : (a : Bool) → ltb slots_most (length t) ≡ a → (b : Bool) → in_use t slot ≡ b → Stores (act t (closing slot))
    go true p b q = rw p (refuses TABLE)
    go false p true q = rw (p, q) (frees slot)
    go false p false q = rw (p, q) (refuses _)

-- an open and a close write nothing
pub no_output : (t : tables.Table) {a : Act} → Stores a → output t [] a ≡ []
unfolding output
no_output t (refuses n) = refl
no_output t (fills i s) = refl
no_output t (frees i) = refl

module _ (ix : indices.Index) (t : tables.Table) (c : Call) (good : indexed ix t ≡ true) {w : Said Answer} {zs : tables.Table} {o : List ℕ} (met : Meets t c (record { said = w; table = zs; output = o })) where
  same : guarded ix t c ≡ act t c
  same = same-act ix t c good

  pub indexed-refused : (n : ℕ) → w ≡ refused n → MeetsIndexed ix t c (record { said = w; table = zs; index = ix })
  indexed-refused n e = record {
    said = met.said ∙ ap (answer t) (sym same);
    table = met.table ∙ ap (after t) (sym same);
    index = sym ((as-without ix t c).kept n (ap (answer t) same ∙ sym met.said ∙ e)).1;
  }

  pub indexed-stored : Stores (act t c) → (v : Answer) → w ≡ answers v → (jx : indices.Index) → jx ≡ rebuilt zs → MeetsIndexed ix t c (record { said = w; table = zs; index = jx })
  indexed-stored s v e jx b = record {
    said = met.said ∙ ap (answer t) (sym same);
    table = met.table ∙ ap (after t) (sym same);
    index = b ∙ ap rebuilt met.table ∙ sym (stored ix t s v (sym met.said ∙ e)) ∙ ap (index_after ix t) (sym same);
  }

-- a close and a reset that are not refused are of a slot within the table
within : {A : Type 0} (n i used : ℕ) (r : Result A Refusal) {a : A} → (if not (ltb i n && words.yes used) then Err refusals.Slot else r) ≡ Ok a → i < n
within n i used r {a} e = go (ltb i n) refl e
  where
    go : (b : Bool) → ltb i n ≡ b → (if not (ltb i n && words.yes used) then Err refusals.Slot else r) ≡ Ok a → i < n
    go true b e = ltb-true i n b
    go false b e = let f : Err refusals.Slot ≡ Ok a = rw b at e in cc

pub close-within : (n i : ℕ) (s : Stream) {next : Stream} → close_change n i s ≡ Ok next → i < n
unfolding close_change
close-within n i s e = within n i s.used _ e

-- and the record of a close that is not refused is the one in the slot, closed
pub close-is : (n i : ℕ) (s : Stream) {next : Stream} → close_change n i s ≡ Ok next → next ≡ closed s
unfolding close_change
close-is n i s {next} e = go (ltb i n && words.yes s.used) e
  where
    go : (b : Bool) → (if not b then Err refusals.Slot else Ok (closed s)) ≡ Ok next → next ≡ closed s
    go true e = let f : Ok (closed s) ≡ Ok next = e in cc
    go false e = let f : Err refusals.Slot ≡ Ok next = e in cc

pub reset-within : (n i : ℕ) (s : Stream) {next : Stream} → reset_change n i s ≡ Ok next → i < n
unfolding reset_change
reset-within n i s e = within n i s.used _ e

-- ---- close
module _ (ix : indices.Index) (t : tables.Table) (slot : ℕ) (good : indexed ix t ≡ true) (zs : tables.Table) (a : Told)
    (met : Meets t (closing slot) (record { said = said_done a; table = zs; output = [] })) where
  pub close-refused : (refusal : Refusal) → a ≡ Err refusal → (r : Told) → r ≡ Err refusal
      → MeetsIndexed ix t (closing slot) (record { said = said_done r; table = zs; index = ix })
  close-refused refusal e r w = rw (w ∙ sym e) (indexed-refused ix t (closing slot) good met (number_of refusal) (ap said_done e))

  pub close-stored : {u : Unit {0}} → a ≡ Ok u → (jx : indices.Index) → jx ≡ rebuilt zs → MeetsIndexed ix t (closing slot) (record { said = said_done (Ok (tt {0})); table = zs; index = jx })
  close-stored e jx b =
      subst (λ (w : Said Answer). MeetsIndexed ix t (closing slot) (record { said = w; table = zs; index = jx })) (ap said_done e)
      (indexed-stored ix t (closing slot) good met (close-stores t slot) _ (ap said_done e) jx b)
