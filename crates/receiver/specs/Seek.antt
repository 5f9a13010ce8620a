-- Document 02, order 9: following, the agreement test and the rebuild in the steps that the code takes, each on values and index
-- bytes alone. The laws of `proofs/` put the steps together and show that they come to what the crate `index` says. Assumes nothing.
use Rattle.std.specs.Prelude.{ℕ, zero, suc, ◌+◌, ◌%◌, Bool, true, false, ◌||◌, not, Option, Some, None, Result, Ok, Err, eqb, ltb, leb, length, get_or, set}
use Rattle.refusal.specs.declared.Refusal.{Refusal}
use Rattle.refusal.specs.declared.Refusal.TheVariants as refusals
use Rattle.record.specs.Sizes.{slots_most}
use Rattle.std.specs.Prelude.{if◌then◌else◌}
use Rattle.record.specs.Words.{yes}
use Rattle.record.specs.declared.Stream.{Stream}
use Rattle.calls.specs.Table.{Table, at}
use Rattle.calls.specs.declared.Key.{Key}
use Rattle.index.specs.Index.{Index, key_of, home, places, every_to, probe}

-- what a place's value says: nothing, or a slot
abbrev pub name_in : ℕ → Option ℕ
name_in zero = None
name_in (suc i) = Some i

-- the place k behind a place, round the end; behind the 128th there is none
unfoldable pub named_at : Index → (from k : ℕ) → Option ℕ
named_at ix from k = if leb places k then None else name_in (get_or ix ((from + k) % places) 0)

-- a slot of the table, and the table's length for none
unfoldable pub place_as : Table → ℕ → Option ℕ
place_as t i = if ltb i (length t) then Some i else None

-- the key of a slot, if it is in use
abbrev pub holder_of : Stream → Option Key
holder_of s = if yes s.used then Some (key_of s) else None

-- Of so many places from a place on: names of slots below i alone, and then i.
unfoldable pub sure_from : Index → (slot left place : ℕ) → Bool
sure_from ix i zero p = false
sure_from ix i (suc n) p =
    if eqb (get_or ix (p % places) 0) (suc i) then true
    else if eqb (get_or ix (p % places) 0) 0 || ltb i (get_or ix (p % places) 0) then false
    else sure_from ix i n (suc p)

unfoldable pub sure_at : Index → Option Key → (slot : ℕ) → Bool
sure_at ix None i = true
sure_at ix (Some k) i = sure_from ix i places (home k)

-- the same of a slot of a table, and of all
unfoldable pub sure_in : Index → Table → (slot : ℕ) → Bool
sure_in ix t i = sure_at ix (holder_of (at t i)) i

unfoldable pub sure_all : Index → Table → Bool
sure_all ix t = every_to (sure_in ix t) (length t)

unfoldable pub not_above : Option ℕ → (slot : ℕ) → Bool
not_above (Some j) i = leb j i
not_above None i = false

unfoldable pub agrees_by : Option Key → Option ℕ → (slot : ℕ) → Bool
agrees_by None f i = true
agrees_by (Some k) f i = not_above f i

-- 1 or 18 by the two lengths, and 18 by the agreement
unfoldable pub sizes_unfit : (slots count : ℕ) → Result Unit Refusal
sizes_unfit n m = if ltb slots_most n then Err refusals.Table else if not (eqb m places) then Err refusals.Index else Ok tt

unfoldable pub differs : Bool → Result Unit Refusal
differs ok = if ok then Ok tt else Err refusals.Index

-- A slot in use is entered at the first empty place from its key's own on.
unfoldable pub entered_as : Option Key → (slot : ℕ) → Index → Index
entered_as None i ix = ix
entered_as (Some k) i ix = set ix (probe ix places (home k)) (suc i)
