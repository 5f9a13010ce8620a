-- Document 01, "Calls and the order of checks", and document 02, order 1: the condition of each refusal number of the table
-- calls, in the words of the table, and each call's list of numbers in its order. They do not mention `act`. Assumes
-- nothing.
use Rattle.std.specs.Prelude.{ℕ, ◌-◌, ◌≡◌, ◌↔◌, Bool, true, false, ◌||◌, not, List, [], ◌∷◌, eqb, ltb, leb, length}
use Rattle.refusal.specs.Checks.{Check, First}
use Rattle.refusal.specs.Checks.Said.{refused}
use Rattle.refusal.specs.Numbers.{TABLE, NETWORK, LONG, SHORT, UNTAGGED, UNKNOWN, DAMAGED, ROOM, SETTING, TAKEN, FULL, SLOT, GROUP}
use Rattle.record.specs.Sizes.{slots_most, frame_most}
use Rattle.record.specs.declared.Stream.{Stream}
use Rattle.frame.specs.Frame.{dest_of, group_source, vlan_of}
use Rattle.frame.specs.Refusals.{too_long, short, no_tag, too_small}
use Rattle.stream.specs.Record.{settled, lawful, opened}
use Rattle.calls.specs.Table.{Table, at, search, has_key, hears, is_free}
use Rattle.frame.specs.Link.{link_least}
use Rattle.calls.specs.Calls.{Call, arriving, linking, opening, closing, resetting, ticking, act, answer}

-- some record of a table passes the test: said without the search that the calls go by
unfoldable pub some : (Stream → Bool) → Table → Bool
some p [] = false
some p (s ∷ t) = p s || some p t

-- 1: the table has more than 64 slots
abbrev pub many_slots : Table → Bool
many_slots t = ltb slots_most (length t)

-- 2: network is not 0 or 1
abbrev pub no_network : (network : ℕ) → Bool
no_network n = not (eqb n 0 || eqb n 1)

-- 6: no slot in use has the key, of those that the call looks at
abbrev pub no_stream : (link : Bool) (dest vlan : ℕ) → Table → Bool
no_stream link dest vlan t = not (some (hears link dest vlan) t)

-- 7: the record is damaged: that of the lowest slot with the key
abbrev pub damaged_at : (link : Bool) (dest vlan : ℕ) → Table → Bool
damaged_at link dest vlan t = not (lawful (at t (search (hears link dest vlan) t)))

-- 7, for the reset call: its settings are out of range
abbrev pub unsettled_at : (slot : ℕ) → Table → Bool
unsettled_at i t = not (settled (at t i))

-- 9: a setting outside the sizes
abbrev pub bad_setting : (vlan rule window time : ℕ) → Bool
bad_setting vlan rule window time = not (settled (opened 0 vlan rule window time))

-- 10: a slot in use has the key
abbrev pub key_in_use : (dest vlan : ℕ) → Table → Bool
key_in_use dest vlan t = some (has_key dest vlan) t

-- 11: no free slot
abbrev pub no_free : Table → Bool
no_free t = not (some is_free t)

-- 12: slot beyond the table or free
abbrev pub no_slot : (slot : ℕ) → Table → Bool
no_slot i t = leb (length t) i || is_free (at t i)

-- The list of each call.
unfoldable pub checks_of : Table → Call → List Check
checks_of t (arriving network f out) =
    record { number = TABLE; holds = many_slots t }
    ∷ record { number = NETWORK; holds = no_network network }
    ∷ record { number = LONG; holds = too_long frame_most f }
    ∷ record { number = SHORT; holds = short f }
    ∷ record { number = UNTAGGED; holds = no_tag f }
    ∷ record { number = GROUP; holds = group_source f }
    ∷ record { number = UNKNOWN; holds = no_stream false (dest_of f) (vlan_of f) t }
    ∷ record { number = DAMAGED; holds = damaged_at false (dest_of f) (vlan_of f) t }
    ∷ record { number = ROOM; holds = too_small (length f - 6) out }
    ∷ []
checks_of t (linking network f out) =
    record { number = TABLE; holds = many_slots t }
    ∷ record { number = NETWORK; holds = no_network network }
    ∷ record { number = LONG; holds = too_long frame_most f }
    ∷ record { number = SHORT; holds = ltb (length f) link_least }
    ∷ record { number = GROUP; holds = group_source f }
    ∷ record { number = UNKNOWN; holds = no_stream true (dest_of f) 0 t }
    ∷ record { number = DAMAGED; holds = damaged_at true (dest_of f) 0 t }
    ∷ record { number = ROOM; holds = too_small (length f - 1) out }
    ∷ []
checks_of t (opening dest vlan rule window time) =
    record { number = TABLE; holds = many_slots t }
    ∷ record { number = SETTING; holds = bad_setting vlan rule window time }
    ∷ record { number = TAKEN; holds = key_in_use (dest_of dest) vlan t }
    ∷ record { number = FULL; holds = no_free t }
    ∷ []
checks_of t (closing i) =
    record { number = TABLE; holds = many_slots t }
    ∷ record { number = SLOT; holds = no_slot i t }
    ∷ []
checks_of t (resetting i) =
    record { number = TABLE; holds = many_slots t }
    ∷ record { number = SLOT; holds = no_slot i t }
    ∷ record { number = DAMAGED; holds = unsettled_at i t }
    ∷ []
checks_of t ticking = record { number = TABLE; holds = many_slots t } ∷ []

-- A call is refused with n exactly if n is the first number of its list whose condition holds.
abbrev pub RefusedExactly : Type 0
RefusedExactly = (t : Table) (c : Call) (n : ℕ) → (answer t (act t c) ≡ refused n) ↔ First n (checks_of t c)
