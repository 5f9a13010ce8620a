-- From bytes to bytes over PRP lines (order 7): a copy of a sent frame that is turned to PRP for the network that it goes out on, and
-- turned from PRP where it comes, is that copy again. So what is asked of the frames that a stream hears (`FromSender`) is met over such
-- a line as over any other, if its frames come unchanged and no other frame is taken for one of the stream's. Assumes nothing.
use Rattle.std.specs.Prelude.{ℕ, ◌+◌, ◌≤◌, ◌≡◌, List, [], ◌∷◌, ◌++◌, length, take, replicate}
use Rattle.refusal.specs.Checks.Said.{refused, answers}
use Rattle.refusal.specs.Numbers.{NETWORK, ROOM}
use Rattle.frame.specs.Bytes.{overlay}
use Rattle.demands.specs.Demand3.{number_of}
use Rattle.demands.specs.Examples.{address}
use Rattle.sender.specs.declared.Sender.{Sender}
use Rattle.sender.specs.Runs as sends
use Rattle.sender.specs.Runs.{Side, the_side, sent, WithoutReset}
use Rattle.both_sides.specs.Copies.{CopyOf}
use Rattle.prp.specs.declared.Kind.{Kind}
use Rattle.prp.specs.Prp.{first, of2012, trailer_of, Turn, Told, from_of, to_of, from_prp, to_prp}
use Rattle.end_to_end.specs.Runs.{message, on_way, near, seven_sent}

-- With the network that it went out on and the number of its send.
abbrev pub SentOverPrp : Side → Type 0
SentOverPrp side =
    (s : Sender) (sending : List sends.Call) (k : ℕ) (f : List ℕ) (kind : Kind) (network : ℕ)
    → WithoutReset s sending → CopyOf (sent side s sending) k f → network ≤ 1
    → (t : Turn) × (to_of (trailer_of kind) network f ≡ answers t)
    × (from_of (trailer_of kind) t.frame ≡ answers (record { network = network; number = number_of (s.next + k); frame = f }))

-- The same of the two calls, with any buffers that have room for the copy (on the line it is no longer): neither refuses.
abbrev pub SentOverPrpCalls : Side → Type 0
SentOverPrpCalls side =
    (s : Sender) (sending : List sends.Call) (k : ℕ) (f : List ℕ) (kind : Kind) (network : ℕ) (out back : List ℕ)
    → WithoutReset s sending → CopyOf (sent side s sending) k f → network ≤ 1 → length f ≤ length out → length f ≤ length back
    → (a : Told) × ((to_prp (trailer_of kind) network f out).said ≡ answers a)
    × (from_prp (trailer_of kind) (take a.length (to_prp (trailer_of kind) network f out).bytes) back
    ≡ record { said = answers (record { network = network; number = number_of (s.next + k); length = length f }); bytes = overlay f back })

-- ---- by number

-- The third of the frames that are sent in `BothMeet`, with 65535 in its tag, on a line with the trailers of 2012: two bytes of data and
-- the trailer are 8.
unfoldable pub on_line : (lan : ℕ) → List ℕ
on_line lan = message 2 ++ (0xFF ∷ 0xFF ∷ lan ∷ 8 ∷ 0x88 ∷ 0xFB ∷ [])

-- A frame that our sender never writes: the reserved bytes of its tag are not zero.
unfoldable pub foreign : List ℕ
foreign = address 1 ++ (2 ∷ 0 ∷ 0 ∷ 0 ∷ 0 ∷ 9 ∷ 0xF1 ∷ 0xC1 ∷ 0 ∷ 1 ∷ 0xFF ∷ 0xFF ∷ 8 ∷ 0 ∷ 102 ∷ 102 ∷ [])

pub record PrpRun : Type 0 where
  pub copy : CopyOf (sent the_side near seven_sent) 2 (on_way 2 65535)
  pub to : to_of of2012 1 (on_way 2 65535) ≡ answers (record { network = 1; number = 65535; frame = on_line 0xB0 })
  pub from : from_of of2012 (on_line 0xB0) ≡ answers (record { network = 1; number = 65535; frame = on_way 2 65535 })
  -- in 22 bytes of room, and one less at either end
  pub enough : to_prp of2012 1 (on_way 2 65535) (replicate 22 0) ≡ record { said = answers (record { network = 1; number = 65535; length = 22 }); bytes = on_line 0xB0 }
  pub room_out : (to_prp of2012 1 (on_way 2 65535) (replicate 21 0)).said ≡ refused ROOM
  pub room_back : (from_prp of2012 (on_line 0xB0) (replicate 21 0)).said ≡ refused ROOM
  -- The statements applied to that copy: with either trailer, on either network, in any buffers with room.
  pub turns : (kind : Kind) (network : ℕ) → network ≤ 1
      → (t : Turn) × (to_of (trailer_of kind) network (on_way 2 65535) ≡ answers t)
      × (from_of (trailer_of kind) t.frame ≡ answers (record { network = network; number = 65535; frame = on_way 2 65535 }))
  pub calls : (kind : Kind) (network : ℕ) (out back : List ℕ) → network ≤ 1 → 22 ≤ length out → 22 ≤ length back
      → (a : Told) × ((to_prp (trailer_of kind) network (on_way 2 65535) out).said ≡ answers a)
      × (from_prp (trailer_of kind) (take a.length (to_prp (trailer_of kind) network (on_way 2 65535) out).bytes) back
      ≡ record { said = answers (record { network = network; number = 65535; length = 22 }); bytes = overlay (on_way 2 65535) back })
  -- a network that is not there
  pub network : to_of first 2 (on_way 2 65535) ≡ refused NETWORK
  -- what is no copy of a send comes otherwise
  pub stranger : (to_of of2012 1 foreign ≡ answers (record { network = 1; number = 65535; frame = on_line 0xB0 })) × (foreign ≡ on_way 2 65535 → ⊥)
