-- Document 01, "Event file and the program `events`": the records of a byte string, and what the body of one asks for.
-- Assumes nothing.
use Rattle.std.specs.Prelude.{ℕ, zero, suc, ◌+◌, ◌*◌, Bool, ◌&&◌, List, [], ◌∷◌, length, get_or, take, drop, ltb, leb, eqb, Option, Some, None}
use Rattle.std.specs.Prelude.{if◌then◌else◌}
use Rattle.frame.specs.Bytes.{word}
use Rattle.calls.specs.Calls.{Call, arriving, opening, closing, resetting, ticking}
use Rattle.event_file.specs.declared.reader.Body.{Body}
use Rattle.event_file.specs.declared.reader.Settings.{Settings}
use Rattle.event_file.specs.declared.reader.Event.{Event}
use Rattle.event_file.specs.declared.reader.Event.TheVariants.{Open, Close, Reset, Arrival, Tick}

-- ---- records, each a length of two bytes, big-endian, and a body of that length

-- What follows the version byte: bodies, and then the end of the input, or a record that is cut by it, be it within its
-- length bytes.
pub data File : Type 0 where
  ended cut : File
  body : List ℕ → File → File

-- The first `most` records of a byte string. A record takes two bytes or more, so there are no more records than bytes.
unfoldable pub records_in : (most : ℕ) → List ℕ → File
records_in zero s = ended
records_in (suc most) [] = ended
records_in (suc most) (a ∷ []) = cut
records_in (suc most) (a ∷ b ∷ s) =
    if leb (a * 256 + b) (length s) then body (take (a * 256 + b) s) (records_in most (drop (a * 256 + b) s))
    else cut

unfoldable pub records_of : List ℕ → File
records_of s = records_in (length s) s

-- What stands at a place of the bytes that are there so far: a whole record, whose body starts at the first number and
-- ends before the second, where the next record is; or more bytes are needed.
unfoldable pub read_at : List ℕ → (at : ℕ) → Option Body
read_at s at =
    if ltb (length s) (at + 2) then None
    else if ltb (length s) (at + 2 + word s at) then None
    else Some (record { start = at + 2; end = at + 2 + word s at })

-- ---- the body's first byte is its kind

abbrev pub OPEN : ℕ
OPEN = 1

abbrev pub CLOSE : ℕ
CLOSE = 2

abbrev pub RESET : ℕ
RESET = 3

abbrev pub ARRIVAL : ℕ
ARRIVAL = 4

abbrev pub TICK : ℕ
TICK = 5

-- an open whose L has two bytes
abbrev pub WIDE : ℕ
WIDE = 6

-- a body of this kind, with so many bytes in all
abbrev pub is_body : (kind size : ℕ) → List ℕ → Bool
is_body kind size b = eqb (get_or b 0 0) kind && eqb (length b) size

-- an arrival has 2 or more
abbrev pub is_arrival : List ℕ → Bool
is_arrival b = eqb (get_or b 0 0) ARRIVAL && leb 2 (length b)

-- open: destination 6, VLAN 2, rule 1, L 1, R 2
abbrev pub destination_of : List ℕ → List ℕ
destination_of b = get_or b 1 0 ∷ get_or b 2 0 ∷ get_or b 3 0 ∷ get_or b 4 0 ∷ get_or b 5 0 ∷ get_or b 6 0 ∷ []

abbrev pub settings_of : List ℕ → Settings
settings_of b = record { vlan = word b 7; rule = get_or b 9 0; window = get_or b 10 0; time = word b 11 }

-- open: destination 6, VLAN 2, rule 1, L 2, R 2
abbrev pub wide_settings_of : List ℕ → Settings
wide_settings_of b = record { vlan = word b 7; rule = get_or b 9 0; window = word b 10; time = word b 12 }

-- What a body says. A body of length 0, an unknown kind or a wrong length is bad.
unfoldable pub event_of : List ℕ → Option Event
event_of b =
    if is_body OPEN 13 b then Some (Open (settings_of b))
    else if is_body WIDE 14 b then Some (Open (wide_settings_of b))
    else if is_body CLOSE 2 b then Some (Close (get_or b 1 0))
    else if is_body RESET 2 b then Some (Reset (get_or b 1 0))
    else if is_arrival b then Some (Arrival (get_or b 1 0))
    else if is_body TICK 1 b then Some Tick
    else None

-- What an event asks for, with its body and the output buffer: a call, or nothing.
pub data Asked : Type 0 where
  nothing : Asked
  asks : Call → Asked

unfoldable pub asked_by : (out b : List ℕ) → Option Event → Asked
asked_by out b None = nothing
asked_by out b (Some (Open s)) = asks (opening (destination_of b) s.vlan s.rule s.window s.time)
asked_by out b (Some (Close slot)) = asks (closing slot)
asked_by out b (Some (Reset slot)) = asks (resetting slot)
asked_by out b (Some (Arrival network)) = asks (arriving network (drop 2 b) out)
asked_by out b (Some Tick) = asks ticking

unfoldable pub asked : (out b : List ℕ) → Asked
asked out b = asked_by out b (event_of b)
