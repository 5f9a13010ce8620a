-- Against vacuity, and against premises that are too weak: runs of both sides with numbers, of the sending side and of the receiver
-- that the definitions give. Assumes nothing.
use Rattle.std.specs.Prelude.{ℕ, ◌+◌, ◌-◌, ◌*◌, ◌/◌, ◌%◌, ◌<◌, ◌≡◌, true, List, [], ◌∷◌, ◌++◌, map, replicate}
use Rattle.refusal.specs.Checks.{Said}
use Rattle.refusal.specs.Checks.Said.{refused, answers}
use Rattle.refusal.specs.Numbers.{UNKNOWN, ROOM}
use Rattle.record.specs.Sizes.{vector_rule}
use Rattle.frame.specs.Frame.{dest_of, tagged, unranked}
use Rattle.stream.specs.Record.{lawful, opened}
use Rattle.calls.specs.Table.{Table, at}
use Rattle.calls.specs.Calls.{Call, arriving, ticking, Answer, arrived, handed_up}
use Rattle.demands.specs.Receiver.{Receiver, the_receiver, run}
use Rattle.demands.specs.Seen.{seen, log, numbers}
use Rattle.demands.specs.Missed.{FreshVector, turned_away}
use Rattle.demands.specs.Examples.{address, frame}
use Rattle.sender.specs.declared.Sender.{Sender}
use Rattle.sender.specs.Sender.{sender_at_first}
use Rattle.sender.specs.Runs as sends
use Rattle.sender.specs.Runs.{Side, the_side, sent, sending, WithoutReset}
use Rattle.both_sides.specs.Copies.{FromSender, frames_heard, CopyOf, CopiesOf}
use Rattle.delays.specs.Formulas.{traffic_window, span}
use Rattle.delays.specs.Line.{Known, J, Event, came, ticked}
use Rattle.delays.specs.OnceEach.{kinds, kind_of, Silence}
use Rattle.delays.specs.ByNumber.{line, b, L, R}
use Rattle.end_to_end.specs.Bytes.{got, given_at, once_each, Between, Ours, Called}

-- ---- frames and calls

-- A frame to send, with k bytes of its own behind its type field; and what it is on the way, with a number in its tag.
unfoldable pub message : (k : ℕ) → List ℕ
message k = address 1 ++ (2 ∷ 0 ∷ 0 ∷ 0 ∷ 0 ∷ 9 ∷ 8 ∷ 0 ∷ []) ++ replicate k (100 + k)

unfoldable pub on_way : (k number : ℕ) → List ℕ
on_way k n = address 1 ++ (2 ∷ 0 ∷ 0 ∷ 0 ∷ 0 ∷ 9 ∷ 0xF1 ∷ 0xC1 ∷ 0 ∷ 0 ∷ n / 256 ∷ n % 256 ∷ 8 ∷ 0 ∷ []) ++ replicate k (100 + k)

-- It is sent, with room in the second output for so many bytes,
unfoldable pub into : (room k : ℕ) → sends.Call
into room k = sending (message k) (replicate 32 0) (replicate room 0)

-- and it comes, to an output with bytes to spare.
unfoldable pub comes : (network k number : ℕ) → Call
comes network k n = arriving network (on_way k n) (replicate 24 0)

-- A table with the stream, just opened, and one for another destination.
unfoldable pub new : (window time : ℕ) → Table
new window time = opened (dest_of (address 1)) 0 vector_rule window time ∷ opened (dest_of (address 3)) 0 vector_rule 4 9 ∷ []

-- ---- a run over the wrap

-- On the line of `Sharp` of `delays`, with its L and R: in half milliseconds a frame each 1 ms, from 1 to 1.5 ms on network 0 and from 2
-- to 3.5 ms on network 1, a tick each 1 ms, and one lost in a row. Seven are sent, with 65533, 65534, 65535, 0, 1, 2 and 3 in their
-- tags; between them one is refused.
unfoldable pub near : Sender
near = record { next = 65533 }

unfoldable pub seven_sent : List sends.Call
seven_sent = into 32 0 ∷ into 32 1 ∷ into 28 9 ∷ into 32 2 ∷ into 32 3 ∷ into 32 4 ∷ into 32 5 ∷ into 32 6 ∷ []

-- The place of a send and a time from the first send on: index 65533 is sent at 131066.
abbrev pub copy : (place time : ℕ) → Event
copy place time = came (65533 + place) (131066 + time)

abbrev pub beat : (time : ℕ) → Event
beat time = ticked (131066 + time)

-- What is called,
unfoldable pub they_come : List Call
they_come =
    comes 0 0 65533
    ∷ ticking
    ∷ ticking
    ∷ arriving 1 (frame 3 65534) (replicate 24 0)  -- to the other stream
    ∷ ticking
    ∷ comes 1 0 65533
    ∷ arriving 0 (on_way 2 65535) (replicate 15 0)  -- no room; its twin comes later
    ∷ ticking  -- the fourth since the last hand-up: a reset
    ∷ arriving 0 (message 9) (replicate 24 0)  -- ordinary traffic to the same address
    ∷ ticking
    ∷ comes 1 2 65535
    ∷ ticking
    ∷ comes 0 6 3  -- it overtakes 4 and 5, and of 3 both copies are lost, as of 1: 4 ahead
    ∷ ticking
    ∷ comes 1 4 1
    ∷ comes 1 5 2
    ∷ comes 1 5 2  -- the same network repeats it
    ∷ []

-- and what the stream sees of it.
unfoldable pub it_sees : List Event
it_sees =
    copy 0 2
    ∷ beat 2  -- in the same instant
    ∷ beat 4
    ∷ beat 6
    ∷ copy 0 7  -- the latest that it may come
    ∷ beat 8
    ∷ beat 10
    ∷ copy 2 11
    ∷ beat 12
    ∷ copy 6 14
    ∷ beat 14
    ∷ copy 4 15
    ∷ copy 5 15
    ∷ copy 5 17
    ∷ []

unfoldable pub places : List ℕ
places = 0 ∷ 0 ∷ 2 ∷ 6 ∷ 4 ∷ 5 ∷ 5 ∷ []

abbrev pub got_with : (window time : ℕ) → List (List ℕ)
got_with window time = got the_receiver 0 (new window time) they_come

pub record BothMeet : Type 0 where
  pub fresh : FreshVector (at (new L R) 0)
  pub between : Between the_receiver the_side line b [] [] it_sees near seven_sent (new L R) 0 they_come places
  -- each sent frame of which a copy came, once, byte for byte; and what is promised is that
  pub got : got_with L R ≡ message 0 ∷ message 2 ∷ message 6 ∷ message 4 ∷ message 5 ∷ []
  pub promised : given_at (sent the_side near seven_sent) (once_each [] places) ≡ message 0 ∷ message 2 ∷ message 6 ∷ message 4 ∷ message 5 ∷ []

-- ---- a sender that restarts

-- The same line, where the first send of the new count is at a time.
unfoldable pub line_from : (first : ℕ) → Known
line_from first = record { sent = λ x. first + 2 * x; least0 = 2; most0 = 3; least1 = 4; most1 = 7; tau = 2; tau_most = 2; m = 1 }

-- The old count ended with a send at 8, of which one copy came, at the latest, and was handed up. After it so many ticks are made;
-- the sender is reset and sends another frame, with the same number.
unfoldable pub old_run : (ticks : ℕ) → List Call
old_run ticks = comes 1 1 0 ∷ replicate ticks ticking

abbrev pub after_old : (ticks : ℕ) → Table
after_old ticks = run the_receiver (new L R) (old_run ticks)

abbrev pub NewCount : (first ticks time : ℕ) → Type 0
NewCount first ticks time =
    Between the_receiver the_side (line_from first) b [] [] (came 0 time ∷ []) sender_at_first (into 32 2 ∷ []) (after_old ticks) 0 (comes 0 2 0 ∷ []) (0 ∷ [])

pub record RestartMeets : Type 0 where
  -- silent for longer than R tau + J: the fourth tick is made before the new frame comes
  pub silence : Silence (log the_receiver) (line_from 22) 15 8 0 24 (came 0 15 ∷ ticked 17 ∷ ticked 19 ∷ ticked 21 ∷ ticked 23 ∷ []) (new L R) 0 (old_run 4)
  pub longer : 8 + span R 2 (J line) < (line_from 22).sent 0
  pub between : NewCount 22 4 24
  pub got : got the_receiver 0 (after_old 4) (comes 0 2 0 ∷ []) ≡ message 2 ∷ []

-- ---- opened in the middle of traffic

-- The same line and the same sends. The last that came before the stream was opened is a copy of 2.
unfoldable pub came_before : List Event
came_before = copy 2 7 ∷ []

-- In that instant 0 comes, the latest that it may. Of 1 and 3 both copies are lost, and 6 overtakes 4 and 5: 6 ahead.
unfoldable pub rest_comes : List Call
rest_comes = comes 1 0 65533 ∷ ticking ∷ ticking ∷ ticking ∷ comes 0 6 3 ∷ ticking ∷ comes 1 4 1 ∷ comes 1 5 2 ∷ []

unfoldable pub rest_seen : List Event
rest_seen = copy 0 7 ∷ beat 8 ∷ beat 10 ∷ beat 12 ∷ copy 6 14 ∷ beat 14 ∷ copy 4 15 ∷ copy 5 15 ∷ []

unfoldable pub rest_places : List ℕ
rest_places = 0 ∷ 6 ∷ 4 ∷ 5 ∷ []

abbrev pub in_traffic : ℕ
in_traffic = traffic_window b line.m

abbrev pub rest_with : (window : ℕ) → List (List ℕ)
rest_with window = got the_receiver 0 (new window R) rest_comes

pub record TrafficMeets : Type 0 where
  pub fresh : FreshVector (at (new in_traffic R) 0)
  pub between : Between the_receiver the_side line b [] came_before rest_seen near seven_sent (new in_traffic R) 0 rest_comes rest_places
  pub got : rest_with in_traffic ≡ message 0 ∷ message 6 ∷ message 4 ∷ message 5 ∷ []
  pub promised : given_at (sent the_side near seven_sent) (once_each [] rest_places) ≡ message 0 ∷ message 6 ∷ message 4 ∷ message 5 ∷ []
  -- L one less: a frame is missing
  pub window-less : rest_with (in_traffic - 1) ≡ message 0 ∷ message 4 ∷ message 5 ∷ []

-- ---- the statements applied

-- A frame of 14 bytes to the other stream of the table, which our sender sends.
unfoldable pub other : List ℕ
other = address 3 ++ (2 ∷ 0 ∷ 0 ∷ 0 ∷ 0 ∷ 9 ∷ 8 ∷ 0 ∷ [])

unfoldable pub other_sent : List sends.Call
other_sent = sending other (replicate 20 0) (replicate 20 0) ∷ []

-- To these runs, of every receiver and every sending side that meet the contracts: the statements ask for no more than these runs keep to.
pub record EndApplied (receive : Receiver) (side : Side) : Type 0 where
  pub both : got receive 0 (new L R) they_come ≡ given_at (sent side near seven_sent) (once_each [] places)
  -- an old copy was handed up before
  pub restarted : got receive 0 (run receive (new L R) (old_run 4)) (comes 0 2 0 ∷ []) ≡ given_at (sent side sender_at_first (into 32 2 ∷ [])) (once_each [] (0 ∷ []))
  pub in-traffic : got receive 0 (new in_traffic R) rest_comes ≡ given_at (sent side near seven_sent) (once_each [] rest_places)
  -- on network 1, to the stream in slot 1, with just enough room, behind the first run
  pub heard : numbers (log receive 1 (run receive (new L R) they_come) (arriving 1 (frame 3 0) (replicate 14 0) ∷ [])) ≡ 0 ∷ []

-- ---- the premises one by one

-- The premises that ask for the table, with another L or R.
pub record Heard (window time : ℕ) : Type 0 where
  pub fresh : FreshVector (at (new window time) 0)
  pub from-sender : FromSender the_receiver the_side near seven_sent (new window time) 0 they_come places
  pub order : kinds (log the_receiver 0 (new window time) they_come) ≡ map kind_of it_sees

-- Nothing that was sent is what the stream hears, whatever the places are.
abbrev pub NotSent : List sends.Call → List Call → Type 0
NotSent calls later = (ks : List ℕ) → CopiesOf (sent the_side sender_at_first calls) ks (frames_heard the_receiver 0 (new L R) later) → ⊥

-- What a stream in this slot hears of a copy, or is refused of it.
abbrev pub reaches : (slot : ℕ) → Table → Call → List ℕ
reaches i t c = numbers (seen i t c (the_receiver t c) ∷ []) ++ turned_away i t c (the_receiver t c).said

pub record BetweenNeeded : Type 0 where
  -- L one less: a frame is missing
  pub window : Heard (L - 1) R × (got_with (L - 1) R ≡ message 0 ∷ message 2 ∷ message 4 ∷ message 5 ∷ [])
  -- R one less: a frame comes twice
  pub time : Heard L (R - 1) × (got_with L (R - 1) ≡ message 0 ∷ message 0 ∷ message 2 ∷ message 6 ∷ message 4 ∷ message 5 ∷ [])
  -- silent for R tau + J and no longer: the new frame is lost as a duplicate, as the fourth tick is made behind it in one instant
  pub silence :
      Silence (log the_receiver) (line_from 21) 15 8 0 23 (came 0 15 ∷ ticked 17 ∷ ticked 19 ∷ ticked 21 ∷ []) (new L R) 0 (old_run 3)
      × (8 + span R 2 (J line) ≡ (line_from 21).sent 0)
      × NewCount 21 3 23
      × (got the_receiver 0 (after_old 3) (comes 0 2 0 ∷ []) ≡ [])
  -- somebody else sends to the key: what he sent is handed up
  pub stranger :
      NotSent (into 32 1 ∷ []) (comes 0 1 0 ∷ comes 0 7 1 ∷ [])
      × (got the_receiver 0 (new L R) (comes 0 1 0 ∷ comes 0 7 1 ∷ []) ≡ message 1 ∷ message 7 ∷ [])
  -- and his number makes a duplicate of what our sender sends
  pub stranger-first : got the_receiver 0 (new L R) (comes 0 7 0 ∷ comes 0 1 0 ∷ []) ≡ message 7 ∷ []
  -- a network that changes a byte
  pub changed :
      NotSent (into 32 1 ∷ []) (arriving 0 (on_way 0 0 ++ 255 ∷ []) (replicate 24 0) ∷ [])
      × (got the_receiver 0 (new L R) (arriving 0 (on_way 0 0 ++ 255 ∷ []) (replicate 24 0) ∷ []) ≡ (message 0 ++ 255 ∷ []) ∷ [])
  -- a copy reaches the lowest slot with its key: not one behind it, and none of another key
  pub lowest : (reaches 0 (new L R) (comes 0 1 5) ≡ 5 ∷ []) × (reaches 1 (new L R ++ new L R) (comes 0 1 5) ≡ []) × (reaches 2 (new L R ++ new L R) (comes 0 1 5) ≡ [])

-- ---- copies that are not heard

-- A frame to the stream's destination with another VLAN id.
unfoldable pub marked : List ℕ
marked = address 1 ++ (2 ∷ 0 ∷ 0 ∷ 0 ∷ 0 ∷ 9 ∷ 0x81 ∷ 0 ∷ 0 ∷ 5 ∷ 8 ∷ 0 ∷ [])

-- A sender at first sends one frame, and its copy comes on network 0, with so much room.
abbrev pub one_sent : (given : List ℕ) → List sends.Call
one_sent given = sending given (replicate 32 0) (replicate 32 0) ∷ []

abbrev pub copy_comes : (given : List ℕ) (room : ℕ) → Call
copy_comes given room = arriving 0 (tagged given 0) (replicate room 0)

-- What `CopiesAreHeard` asks for but for `Ours` and `Called`; what is answered; and the stream hears nothing.
pub record Unheard (given : List ℕ) (room : ℕ) (answer : Said Answer) : Type 0 where
  pub whole : WithoutReset sender_at_first (one_sent given)
  pub copy : CopyOf (sent the_side sender_at_first (one_sent given)) 0 (tagged given 0)
  pub lawful : lawful (at (new L R) 0) ≡ true
  pub said : (the_receiver (new L R) (copy_comes given room)).said ≡ answer
  pub unheard : numbers (log the_receiver 0 (new L R) (copy_comes given room ∷ [])) ≡ []

pub record HeardNeeded : Type 0 where
  -- a frame with another VLAN id: no stream has its key
  pub vlan : Unheard marked 32 (refused UNKNOWN) × Called (new L R) 0 marked (replicate 32 0) × (Ours (new L R) 0 marked → ⊥)
  -- a frame to another destination: the other stream hears it
  pub destination : Unheard other 32 (answers (arrived 1 0 unranked (handed_up 14))) × Called (new L R) 0 other (replicate 32 0) × (Ours (new L R) 0 other → ⊥)
  -- just enough room, and one byte less
  pub enough : Called (new L R) 0 (message 0) (replicate 14 0) × (numbers (log the_receiver 0 (new L R) (copy_comes (message 0) 14 ∷ [])) ≡ 0 ∷ [])
  pub room : Unheard (message 0) 13 (refused ROOM) × Ours (new L R) 0 (message 0) × (Called (new L R) 0 (message 0) (replicate 13 0) → ⊥)
