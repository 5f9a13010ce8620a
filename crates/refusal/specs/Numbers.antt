-- Document 01, "Calls and the order of checks": the numbers of its table, by name, and those of document 02's orders.
-- Assumes nothing.
use Rattle.std.specs.Prelude.{ℕ}
use Rattle.refusal.specs.declared.Refusal.{Refusal}
use Rattle.refusal.specs.declared.Refusal.TheVariants.{Table, Network, Long, Short, Untagged, Unknown, Damaged, Room, Setting, Taken, Full, Slot, Tagged, Group, Batch, Trailer, Index}

-- the table has more than 64 slots
abbrev pub TABLE : ℕ
TABLE = 1

-- network is not 0 or 1
abbrev pub NETWORK : ℕ
NETWORK = 2

-- frame too long
abbrev pub LONG : ℕ
LONG = 3

-- frame short
abbrev pub SHORT : ℕ
SHORT = 4

-- no F1C1 at the type field
abbrev pub UNTAGGED : ℕ
UNTAGGED = 5

-- no slot in use has the key
abbrev pub UNKNOWN : ℕ
UNKNOWN = 6

-- the record is damaged (for the reset call: its settings are out of range)
abbrev pub DAMAGED : ℕ
DAMAGED = 7

-- output too small
abbrev pub ROOM : ℕ
ROOM = 8

-- a setting outside the sizes
abbrev pub SETTING : ℕ
SETTING = 9

-- a slot in use has the key
abbrev pub TAKEN : ℕ
TAKEN = 10

-- no free slot
abbrev pub FULL : ℕ
FULL = 11

-- slot beyond the table or free
abbrev pub SLOT : ℕ
SLOT = 12

-- frame already carries F1C1
abbrev pub TAGGED : ℕ
TAGGED = 13

-- group source address (order 1)
abbrev pub GROUP : ℕ
GROUP = 14

-- count above 32, or lengths that run past the buffer (order 3)
abbrev pub BATCH : ℕ
BATCH = 15

-- no trailer of the set kind with a fitting size and a LAN of A or B (order 7)
abbrev pub TRAILER : ℕ
TRAILER = 16

-- index not of 128 places or not in agreement with the table (order 9; 17 is no refusal's number)
abbrev pub INDEX : ℕ
INDEX = 18

-- the number of each refusal
abbrev pub number_of : Refusal → ℕ
number_of Table = TABLE
number_of Network = NETWORK
number_of Long = LONG
number_of Short = SHORT
number_of Untagged = UNTAGGED
number_of Unknown = UNKNOWN
number_of Damaged = DAMAGED
number_of Room = ROOM
number_of Setting = SETTING
number_of Taken = TAKEN
number_of Full = FULL
number_of Slot = SLOT
number_of Tagged = TAGGED
number_of Group = GROUP
number_of Batch = BATCH
number_of Trailer = TRAILER
number_of Index = INDEX
