-- Document 02, orders 9 and 10: the definitions at cases worked out by hand. Assumes nothing.
use Rattle.std.specs.Prelude.{ℕ, ◌+◌, ◌-◌, ◌^◌, ◌≡◌, true, false, List, [], ◌∷◌, ◌++◌, replicate, set}
use Rattle.refusal.specs.Checks.{first_of}
use Rattle.refusal.specs.Checks.Said.{refused, answers}
use Rattle.record.specs.declared.Stream.{Stream}
use Rattle.stream.specs.Record.{opened}
use Rattle.calls.specs.Table.{blank}
use Rattle.calls.specs.Calls.{Call, opening, closing, refuse, opens, closes, after, done}
use Rattle.calls.specs.declared.Key.{Key}
use Rattle.index.specs.Index.{Index, places, place_of, follow, indexed, rebuilt}
use Rattle.index.specs.Indexed.{guarded, index_after, rebuild_checks, rebuilt_by, unfit_of}

-- A slot in use with this key. Destinations 87 and 174 have the same place, the last.
abbrev pub held : (dest vlan : ℕ) → Stream
held dest vlan = opened dest vlan 1 2 1

-- and a virtual link
abbrev pub linked : (dest vlan : ℕ) → Stream
linked dest vlan = opened dest vlan 3 2 1

abbrev pub key : (dest : ℕ) → Key
key dest = record { dest = dest; vlan = 0; link = false }

-- An index of these first places, then empty ones, then this last place.
abbrev pub from : List ℕ → (empty last : ℕ) → Index
from front n last = front ++ replicate n 0 ++ last ∷ []

abbrev pub none : Index
none = replicate places 0

pub record PlaceCases : Type 0 where
  pub own : place_of 0x020000000001 0 ∷ place_of 0x01005E000007 100 ∷ place_of (2 ^ 48 - 1) 4094 ∷ place_of (2 ^ 64 - 1) 65535 ∷ place_of 1 0 ∷ place_of 0 1 ∷ []
      ≡ 101 ∷ 89 ∷ 94 ∷ 76 ∷ 36 ∷ 126 ∷ []
  -- round the end; the second of two keys with one place, and two slots with one key
  pub round : rebuilt (held 87 0 ∷ held 174 0 ∷ held 87 0 ∷ []) ≡ from (2 ∷ 3 ∷ []) 125 1
  -- a free slot is not entered
  pub free : rebuilt (blank ∷ held 87 0 ∷ []) ≡ from [] 127 2

pub record FollowCases : Type 0 where
  -- a name beyond the table, of a free slot and of another key are passed over; an empty place is not
  pub over : follow (from (2 ∷ 1 ∷ 3 ∷ []) 124 200) (held 87 0 ∷ blank ∷ held 174 0 ∷ []) (key 174) ≡ 2
  pub ends : follow (from (2 ∷ 0 ∷ 3 ∷ []) 124 200) (held 87 0 ∷ blank ∷ held 174 0 ∷ []) (key 174) ≡ 3
  -- the VLAN id is of the key
  pub vlan : follow (from [] 127 1) (held 87 5 ∷ []) (key 87) ≡ 1
  -- all 128 places are gone through, and no more
  pub all : follow (set (replicate places 1) 126 2) (held 87 0 ∷ held 174 0 ∷ []) (key 174) ≡ 1
  pub gone : follow (replicate places 1) (held 87 0 ∷ held 174 0 ∷ []) (key 174) ≡ 2

pub record AgreeCases : Type 0 where
  pub all_one : (indexed (replicate places 1) (held 87 0 ∷ []) ≡ true) × (indexed (replicate places 1) (held 87 0 ∷ held 174 0 ∷ []) ≡ false)
  -- one that is not the rebuilt one
  pub other : indexed (from (1 ∷ []) 126 100) (held 87 0 ∷ []) ≡ true
  -- two slots with one key: the lower alone is enough, and the higher before it is not
  pub lower : indexed (from [] 127 1) (held 87 0 ∷ held 87 0 ∷ []) ≡ true
  pub higher : indexed (from (1 ∷ []) 126 2) (held 87 0 ∷ held 87 0 ∷ []) ≡ false
  -- a key that no frame has
  pub beyond : indexed none (held (2 ^ 60 + 87) 0 ∷ []) ≡ false
  pub empty : (indexed none [] ≡ true) × (indexed none (blank ∷ []) ≡ true)
  pub lengths : (indexed (replicate 127 0) [] ≡ false) × (indexed (replicate 129 0) [] ≡ false)

-- 174 as six bytes, with settings in range and with a window of 1
abbrev pub fits : Call
fits = opening (0 ∷ 0 ∷ 0 ∷ 0 ∷ 0 ∷ 174 ∷ []) 0 1 2 1

abbrev pub unsettled : Call
unsettled = opening (0 ∷ 0 ∷ 0 ∷ 0 ∷ 0 ∷ 174 ∷ []) 0 1 1 1

pub record CallCases : Type 0 where
  -- two slots with one key, and the lower closed: the place that named it would not do
  pub closes-lower : guarded (from [] 127 1) (held 87 0 ∷ held 87 0 ∷ []) (closing 0) ≡ closes 0
  pub tombstone : indexed (from [] 127 1) (after (held 87 0 ∷ held 87 0 ∷ []) (closes 0)) ≡ false
  pub closed : index_after (from [] 127 1) (held 87 0 ∷ held 87 0 ∷ []) (closes 0) ≡ from [] 127 2
  -- an open where the index has no empty place
  pub full : guarded (replicate places 1) (held 87 0 ∷ blank ∷ []) fits ≡ opens 1 (held 174 0)
  pub filled : index_after (replicate places 1) (held 87 0 ∷ blank ∷ []) (opens 1 (held 174 0)) ≡ from (2 ∷ []) 126 1
  -- 1, then 18, then the call's own
  pub table : guarded none (replicate 65 (held 87 0)) fits ≡ refuse 1
  pub settings : (guarded none (held 87 0 ∷ []) unsettled ≡ refuse 18) × (guarded (from [] 127 1) (held 87 0 ∷ []) unsettled ≡ refuse 9)
  pub slot : (guarded none (held 87 0 ∷ []) (closing 5) ≡ refuse 18) × (guarded (from [] 127 1) (held 87 0 ∷ []) (closing 5) ≡ refuse 12)
  pub short : (guarded (replicate 127 0) [] fits ≡ refuse 18) × (guarded (replicate 129 0) [] fits ≡ refuse 18) × (guarded none [] fits ≡ refuse 11)
  pub unfit : (unfit_of none (replicate 65 blank) ≡ 1) × (unfit_of none (held 87 0 ∷ []) ≡ 18) × (unfit_of none [] ≡ 0)
  -- a refused call leaves an index that is not the rebuilt one
  pub left : index_after (from (1 ∷ []) 126 100) (held 87 0 ∷ []) (refuse 9) ≡ from (1 ∷ []) 126 100
  -- the rebuild takes any index of 128 places
  pub rebuilds : (first_of (rebuild_checks (replicate places 7) (held 87 0 ∷ [])) done ≡ answers done) × (rebuilt_by (replicate places 7) (held 87 0 ∷ []) ≡ from [] 127 1)
  pub refuses : (first_of (rebuild_checks none (replicate 65 blank)) done ≡ refused 1) × (first_of (rebuild_checks (replicate 127 7) []) done ≡ refused 18)
      × (first_of (rebuild_checks (replicate 129 7) []) done ≡ refused 18) × (rebuilt_by (replicate 129 7) [] ≡ replicate 129 7)

-- 87 as six bytes, as a vector stream and as a virtual link
abbrev pub asked : (vlan rule : ℕ) → Call
asked vlan rule = opening (0 ∷ 0 ∷ 0 ∷ 0 ∷ 0 ∷ 87 ∷ []) vlan rule 2 1

-- Order 10: a stream and a virtual link with one key, side by side.
pub record FamilyCases : Type 0 where
  -- the place of one does not do for the other; with a place each, either may come first
  pub alone : (indexed (from [] 127 1) (held 87 0 ∷ linked 87 0 ∷ []) ≡ false) × (indexed (from [] 127 2) (held 87 0 ∷ linked 87 0 ∷ []) ≡ false)
  pub both : (indexed (from (2 ∷ []) 126 1) (held 87 0 ∷ linked 87 0 ∷ []) ≡ true) × (indexed (from (1 ∷ []) 126 2) (held 87 0 ∷ linked 87 0 ∷ []) ≡ true)
  pub found : (follow (from (1 ∷ []) 126 2) (held 87 0 ∷ linked 87 0 ∷ []) (key 87) ≡ 0)
      × (follow (from (2 ∷ []) 126 1) (held 87 0 ∷ linked 87 0 ∷ []) (record { dest = 87; vlan = 0; link = true }) ≡ 1)
  pub rebuilds : rebuilt (linked 87 0 ∷ held 87 0 ∷ []) ≡ from (2 ∷ []) 126 1
  -- open's 10 looks at both, and at a damaged record of rule 3 whose VLAN id is not 0
  pub taken : (guarded (from [] 127 1) (linked 87 0 ∷ blank ∷ []) (asked 0 1) ≡ refuse 10) × (guarded (from [] 127 1) (held 87 0 ∷ blank ∷ []) (asked 0 3) ≡ refuse 10)
      × (guarded (rebuilt (linked 87 5 ∷ blank ∷ [])) (linked 87 5 ∷ blank ∷ []) (asked 5 1) ≡ refuse 10)
  -- "another VLAN id than 0 with it is a setting outside the sizes"
  pub opens : (guarded none (blank ∷ []) (asked 5 3) ≡ refuse 9) × (guarded none (blank ∷ []) (asked 0 3) ≡ opens 0 (linked 87 0))
