-- Document 02, orders 9 and 10: the index beside the table, following it, and when the two agree. Assumes nothing.
use Rattle.std.specs.Prelude.{ℕ, zero, suc, ◌+◌, ◌*◌, ◌/◌, ◌%◌, ◌^◌, ◌≡◌, Bool, true, ◌&&◌, ◌||◌, not, cond, List, eqb, leb, length, get_or, set, replicate}
use Rattle.record.specs.declared.Stream.{Stream}
use Rattle.record.specs.Words.{yes}
use Rattle.calls.specs.Table.{Table, at, of_links, hears, search}
use Rattle.calls.specs.declared.Key.{Key}

-- A key that is asked for, and that of a record: the type that the code has. "Order 9's agreement is asked of each key twice, among
-- slots of rule 3 and among the rest" (order 10): its `link` says among which.
abbrev pub key_of : Stream → Key
key_of s = record { dest = s.dest; vlan = s.vlan; link = of_links s }

-- a slot in use with the key
abbrev pub keyed : Key → Stream → Bool
keyed k s = hears k.link k.dest k.vlan s

abbrev pub used : Stream → Bool
used s = yes s.used

-- "Keep an index of 128 places beside the table". "A place is empty or names a slot": 0 is empty, k + 1 names slot k.
abbrev pub Index : Type 0
Index = List ℕ

abbrev pub places : ℕ
places = 128

-- "placed by a mixing of the key's bytes that wraps at 32 bits": the destination's lowest 32 bits, and those from bit 20 on with the
-- VLAN id, each times a factor. The place is the mixing's highest 7 bits. (No law looks at the factors.)
unfoldable pub mixed : (dest vlan : ℕ) → ℕ
mixed dest vlan = (dest % 2 ^ 32 * 1234164911 + (dest / 2 ^ 20 % 2 ^ 32 + vlan * 65536) * 557513737) % 2 ^ 32

unfoldable pub place_of : (dest vlan : ℕ) → ℕ
place_of dest vlan = mixed dest vlan / 2 ^ 25

abbrev pub home : Key → ℕ
home k = place_of k.dest k.vlan

-- "following passes over places that don't name a slot in use with the key, round the end, until an empty one or all 128": what a
-- place's value comes to for a key, which is none, the slot named, or what the rest of the places comes to. The table's length
-- stands for none, as in `search`.
unfoldable pub named : Table → Key → (value rest : ℕ) → ℕ
named t k zero rest = length t
named t k (suc i) rest = cond (keyed k (at t i)) i rest

unfoldable pub walk : Index → Table → Key → (left place : ℕ) → ℕ
walk ix t k zero p = length t
walk ix t k (suc n) p = named t k (get_or ix (p % places) 0) (walk ix t k n (suc p))

unfoldable pub follow : Index → Table → Key → ℕ
follow ix t k = walk ix t k places (home k)

-- "Index and table agree when following from any key finds the lowest slot in use with it, or none if there is none."
abbrev pub Agrees : Index → Table → Type 0
Agrees ix t = (k : Key) → follow ix t k ≡ search (keyed k) t

-- The test of it: from the key of each slot in use following finds a slot that is not above. (`AgreesTested` of Laws: the same.)
unfoldable pub agrees_at : Index → Table → ℕ → Bool
agrees_at ix t i = not (used (at t i)) || leb (follow ix t (key_of (at t i))) i

unfoldable pub every_to : (ℕ → Bool) → ℕ → Bool
every_to p zero = true
every_to p (suc n) = every_to p n && p n

unfoldable pub agrees : Index → Table → Bool
agrees ix t = every_to (agrees_at ix t) (length t)

-- of 128 places, and in agreement with the table
unfoldable pub indexed : Index → Table → Bool
indexed ix t = eqb (length ix) places && agrees ix t

-- ---- the rebuilt index: every slot in use, in ascending order, at the first empty place from its key's own on

unfoldable pub vacant : (value here rest : ℕ) → ℕ
vacant zero here rest = here
vacant (suc i) here rest = rest

unfoldable pub probe : Index → (left place : ℕ) → ℕ
probe ix zero p = p % places
probe ix (suc n) p = vacant (get_or ix (p % places) 0) (p % places) (probe ix n (suc p))

unfoldable pub entered : Table → ℕ → Index → Index
entered t i ix = cond (used (at t i)) (set ix (probe ix places (home (key_of (at t i)))) (suc i)) ix

unfoldable pub built : Table → ℕ → Index
built t zero = replicate places 0
built t (suc n) = entered t n (built t n)

unfoldable pub rebuilt : Table → Index
rebuilt t = built t (length t)
