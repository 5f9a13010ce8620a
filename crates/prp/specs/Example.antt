-- Document 02, order 7: worked examples in bytes, of each kind of trailer, with and without a VLAN tag; and the frames at which
-- the refusals begin. Assumes nothing.
use Rattle.std.specs.Prelude.{ℕ, ◌≡◌, List, [], ◌∷◌, ◌++◌, replicate}
use Rattle.refusal.specs.Checks.Said.{refused, answers}
use Rattle.refusal.specs.Numbers.{NETWORK, LONG, SHORT, UNTAGGED, ROOM, TAGGED, TRAILER}
use Rattle.prp.specs.Prp.{Trailer, first, of2012, from_of, to_of, from_prp, to_prp}

-- Destination and source; then with a VLAN tag of priority 1 and id 100.
unfoldable pub head : List ℕ
head = 2 ∷ 0 ∷ 0 ∷ 0 ∷ 0 ∷ 1 ∷ 2 ∷ 0 ∷ 0 ∷ 0 ∷ 0 ∷ 9 ∷ []

unfoldable pub head_vlan : List ℕ
head_vlan = head ++ 0x81 ∷ 0 ∷ 0x20 ∷ 100 ∷ []

-- Type 0800 and two bytes of data.
unfoldable pub payload : List ℕ
payload = 8 ∷ 0 ∷ 0xAB ∷ 0xCD ∷ []

-- The tag with number 1234 hex.
unfoldable pub tag : List ℕ
tag = 0xF1 ∷ 0xC1 ∷ 0 ∷ 0 ∷ 0x12 ∷ 0x34 ∷ []

-- The size counts the two bytes of data and the trailer: 8 with the trailer of 2012, 6 with the first edition's.
unfoldable pub new0 : List ℕ
new0 = 0x12 ∷ 0x34 ∷ 0xA0 ∷ 8 ∷ 0x88 ∷ 0xFB ∷ []

unfoldable pub new1 : List ℕ
new1 = 0x12 ∷ 0x34 ∷ 0xB0 ∷ 8 ∷ 0x88 ∷ 0xFB ∷ []

unfoldable pub old0 : List ℕ
old0 = 0x12 ∷ 0x34 ∷ 0xA0 ∷ 6 ∷ []

unfoldable pub old1 : List ℕ
old1 = 0x12 ∷ 0x34 ∷ 0xB0 ∷ 6 ∷ []

-- The one turned gives the other, both ways.
pub record Both (k : Trailer) (network : ℕ) (prp tagged : List ℕ) : Type 0 where
  pub from : from_of k prp ≡ answers (record { network = network; number = 0x1234; frame = tagged })
  pub to : to_of k network tagged ≡ answers (record { network = network; number = 0x1234; frame = prp })

pub record Worked : Type 0 where
  pub new-a : Both of2012 0 (head ++ payload ++ new0) (head ++ tag ++ payload)
  pub new-b : Both of2012 1 (head ++ payload ++ new1) (head ++ tag ++ payload)
  pub new-vlan : Both of2012 1 (head_vlan ++ payload ++ new1) (head_vlan ++ tag ++ payload)
  pub old-a : Both first 0 (head ++ payload ++ old0) (head ++ tag ++ payload)
  pub old-b : Both first 1 (head ++ payload ++ old1) (head ++ tag ++ payload)
  pub old-vlan : Both first 0 (head_vlan ++ payload ++ old0) (head_vlan ++ tag ++ payload)
  -- a size above one byte: 300 bytes of data and the trailer are 306, 132 hex
  pub new-wide : Both of2012 0 (head ++ 8 ∷ 0 ∷ replicate 300 5 ++ 0x12 ∷ 0x34 ∷ 0xA1 ∷ 0x32 ∷ 0x88 ∷ 0xFB ∷ []) (head ++ tag ++ 8 ∷ 0 ∷ replicate 300 5)
  -- the answer, and bytes behind the result
  pub told : (from_prp first (head ++ payload ++ old1) (replicate 24 7)).said ≡ answers (record { network = 1; number = 0x1234; length = 22 })
  pub behind : (from_prp first (head ++ payload ++ old1) (replicate 24 7)).bytes ≡ head ++ tag ++ payload ++ 7 ∷ 7 ∷ []

-- ---- where the refusals begin

-- A frame with this trailer.
unfoldable pub with : (trailer : List ℕ) → List ℕ
with t = head ++ payload ++ t

pub record FromEdges : Type 0 where
  -- 3: 2000 bytes may come, of the first edition 1998
  pub long-new : (from_of of2012 (replicate 2001 0) ≡ refused LONG) × (from_of of2012 (replicate 2000 0) ≡ refused TRAILER)
  pub long-old : (from_of first (replicate 1999 0) ≡ refused LONG) × (from_of first (replicate 1998 0) ≡ refused TRAILER)
  -- 4: header and trailer together, and nothing between them
  pub none : (from_of of2012 [] ≡ refused SHORT) × (from_of first [] ≡ refused SHORT)
  pub short-new : (from_of of2012 (replicate 19 0) ≡ refused SHORT) × (from_of of2012 (head ++ 8 ∷ 0 ∷ 0 ∷ 7 ∷ 0xA0 ∷ 6 ∷ 0x88 ∷ 0xFB ∷ []) ≡ answers (record { network = 0; number = 7; frame = head ++ 0xF1 ∷ 0xC1 ∷ 0 ∷ 0 ∷ 0 ∷ 7 ∷ 8 ∷ 0 ∷ [] }))
  pub short-old : (from_of first (replicate 17 0) ≡ refused SHORT) × (from_of first (head ++ 8 ∷ 0 ∷ 0 ∷ 7 ∷ 0xA0 ∷ 4 ∷ []) ≡ answers (record { network = 0; number = 7; frame = head ++ 0xF1 ∷ 0xC1 ∷ 0 ∷ 0 ∷ 0 ∷ 7 ∷ 8 ∷ 0 ∷ [] }))
  pub short-vlan : (from_of of2012 (head_vlan ++ replicate 7 0) ≡ refused SHORT) × (from_of of2012 (head_vlan ++ replicate 8 0) ≡ refused TRAILER)
  pub short-vlan-old : (from_of first (head_vlan ++ replicate 5 0) ≡ refused SHORT) × (from_of first (head_vlan ++ replicate 6 0) ≡ refused TRAILER)
  -- 4 before 13: F1C1 in a frame of 19 bytes
  pub short-carries : from_of of2012 (head ++ 0xF1 ∷ 0xC1 ∷ replicate 5 0) ≡ refused SHORT
  -- 13 before 16
  pub carries : from_of of2012 (head ++ tag ++ payload) ≡ refused TAGGED
  -- 16: the other kind, LAN 9 and C, a size one off either way, a size without the trailer, 88FB missing
  pub other : (from_of first (with new0) ≡ refused TRAILER) × (from_of of2012 (with old0) ≡ refused TRAILER)
  pub lan : (from_of first (with (0 ∷ 7 ∷ 0x90 ∷ 6 ∷ [])) ≡ refused TRAILER) × (from_of first (with (0 ∷ 7 ∷ 0xC0 ∷ 6 ∷ [])) ≡ refused TRAILER)
  pub size : (from_of first (with (0 ∷ 7 ∷ 0xA0 ∷ 5 ∷ [])) ≡ refused TRAILER) × (from_of first (with (0 ∷ 7 ∷ 0xA0 ∷ 7 ∷ [])) ≡ refused TRAILER)
  pub size-data : from_of first (with (0 ∷ 7 ∷ 0xA0 ∷ 2 ∷ [])) ≡ refused TRAILER
  pub mark : (from_of of2012 (with (0 ∷ 7 ∷ 0xA0 ∷ 8 ∷ 0x88 ∷ 0xFA ∷ [])) ≡ refused TRAILER) × (from_of of2012 (with (0 ∷ 7 ∷ 0xA0 ∷ 8 ∷ 0x89 ∷ 0xFB ∷ [])) ≡ refused TRAILER)
  -- 8: one byte too few, and no byte changes
  pub room : from_prp of2012 (with new0) (replicate 21 7) ≡ record { said = refused ROOM; bytes = replicate 21 7 }

-- The tag, then a former type and what follows.
unfoldable pub before : (rest : List ℕ) → List ℕ
before rest = head ++ tag ++ rest

pub record ToEdges : Type 0 where
  -- 2 before 3 and 4
  pub network : (to_of first 2 [] ≡ refused NETWORK) × (to_of first 2 (replicate 2001 0) ≡ refused NETWORK)
  pub long : (to_of first 0 (replicate 2001 0) ≡ refused LONG) × (to_of first 0 (replicate 2000 0) ≡ refused UNTAGGED)
  pub short : (to_of first 0 (replicate 13 0) ≡ refused SHORT) × (to_of first 0 (before (8 ∷ [])) ≡ refused SHORT)
  -- 4 again: 8100 comes to stand at 12, in a frame of 17 bytes; with 18 the size counts from the type field at 16
  pub bare : (to_of first 0 (before (0x81 ∷ 0 ∷ 0 ∷ 5 ∷ 8 ∷ [])) ≡ refused SHORT) × (to_of first 0 (before (0x81 ∷ 0 ∷ 0 ∷ 5 ∷ 8 ∷ 0 ∷ [])) ≡ answers (record { network = 0; number = 0x1234; frame = head ++ 0x81 ∷ 0 ∷ 0 ∷ 5 ∷ 8 ∷ 0 ∷ 0x12 ∷ 0x34 ∷ 0xA0 ∷ 4 ∷ [] }))
  -- a bare frame whose type is F1C1 is not refused, and could not come back
  pub twofold : (to_of first 0 (before (0xF1 ∷ 0xC1 ∷ [])) ≡ answers (record { network = 0; number = 0x1234; frame = head ++ 0xF1 ∷ 0xC1 ∷ 0x12 ∷ 0x34 ∷ 0xA0 ∷ 4 ∷ [] })) × (from_of first (head ++ 0xF1 ∷ 0xC1 ∷ 0x12 ∷ 0x34 ∷ 0xA0 ∷ 4 ∷ []) ≡ refused TAGGED)
  pub room : to_prp of2012 1 (before payload) (replicate 21 7) ≡ record { said = refused ROOM; bytes = replicate 21 7 }

-- A group source passes both ways.
unfoldable pub group : List ℕ
group = 2 ∷ 0 ∷ 0 ∷ 0 ∷ 0 ∷ 1 ∷ 3 ∷ 0 ∷ 0 ∷ 0 ∷ 0 ∷ 9 ∷ []

abbrev pub GroupPasses : Type 0
GroupPasses = Both of2012 0 (group ++ payload ++ new0) (group ++ tag ++ payload)
