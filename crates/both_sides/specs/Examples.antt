-- Against vacuity, and against premises that are too weak: runs with numbers, of the sending side and of the receiver that the
-- definitions give. Assumes nothing.
use Rattle.std.specs.Prelude.{ℕ, ◌≡◌, false, List, [], ◌∷◌, map, replicate}
use Rattle.stream.specs.Decisions.{up, duplicate}
use Rattle.calls.specs.Table.{Table}
use Rattle.calls.specs.Calls.{Call, arriving, ticking}
use Rattle.demands.specs.Receiver.{the_receiver, run}
use Rattle.demands.specs.Seen.{log, numbers}
use Rattle.demands.specs.Demand3.{number_of}
use Rattle.demands.specs.Examples.{frame, from, ours, alone, silence}
use Rattle.demands.specs.StepExamples.{bare}
use Rattle.sender.specs.declared.Sender.{Sender}
use Rattle.sender.specs.Sender.{sender_at_first}
use Rattle.sender.specs.Runs as sends
use Rattle.sender.specs.Runs.{the_side, sent, sending, resetting, unbroken}
use Rattle.both_sides.specs.Copies.{frames_heard, CopiesOf, counted_from}
use Rattle.both_sides.specs.Demand3Sent.{PremisesSent}

-- ---- a run over the wrap

-- A frame of 14 bytes to send, into a first output with just room enough, and a second one of so many bytes.
unfoldable pub into : (room : ℕ) → sends.Call
into room = sending bare (replicate 20 0) (replicate room 0)

-- Four are sent, with 65534, 65535, 0 and 1 in their tags; between them one is refused.
unfoldable pub from_wrap : Sender
from_wrap = record { next = 65534 }

unfoldable pub four_sent : List sends.Call
four_sent = into 20 ∷ into 20 ∷ into 19 ∷ into 20 ∷ into 20 ∷ []

-- The first comes on both networks, the second on network 1 alone, the fourth before the third, and that one twice. Between
-- them a tick, a frame for which there is no room, and one of no stream.
unfoldable pub they_come : List Call
they_come =
    from 0 1 65534
    ∷ from 1 1 65534
    ∷ ticking
    ∷ arriving 0 (frame 1 65535) (replicate 13 0)
    ∷ from 1 1 65535
    ∷ from 0 1 1
    ∷ from 0 3 77
    ∷ from 1 1 0
    ∷ from 0 1 0
    ∷ []

unfoldable pub their_indices : List ℕ
their_indices = 0 ∷ 0 ∷ 1 ∷ 3 ∷ 2 ∷ 2 ∷ []

pub record WrapSent : Type 0 where
  pub premises : PremisesSent the_receiver the_side from_wrap four_sent (alone 4 3 3) 0 (silence 3) they_come their_indices
  pub given : ours (alone 4 3 3) (silence 3) they_come ≡ up ∷ duplicate ∷ up ∷ up ∷ up ∷ duplicate ∷ []

-- ---- the premises one by one

-- a table with one fresh stream
unfoldable pub quiet : Table
quiet = run the_receiver (alone 4 3 3) (silence 3)

abbrev pub Copies : Sender → List sends.Call → List Call → (indices : List ℕ) → Type 0
Copies s calls later indices = CopiesOf (sent the_side s calls) indices (frames_heard the_receiver 0 quiet later)

abbrev pub Numbered : Sender → List Call → (indices : List ℕ) → Type 0
Numbered s later indices = numbers (log the_receiver 0 quiet later) ≡ map number_of (counted_from s indices)

pub record PremisesSentNeeded : Type 0 where
  -- a reset between two sends: both carry 0
  pub reset :
      (unbroken (into 20 ∷ resetting ∷ into 20 ∷ []) ≡ false)
      × Copies sender_at_first (into 20 ∷ resetting ∷ into 20 ∷ []) (from 0 1 0 ∷ from 1 1 0 ∷ []) (0 ∷ 1 ∷ [])
      × (Numbered sender_at_first (from 0 1 0 ∷ from 1 1 0 ∷ []) (0 ∷ 1 ∷ []) → ⊥)
  -- a frame that this sender did not send
  pub stranger :
      (Copies sender_at_first (into 20 ∷ []) (from 0 1 7 ∷ []) (0 ∷ []) → ⊥)
      × (Numbered sender_at_first (from 0 1 7 ∷ []) (0 ∷ []) → ⊥)
  -- a next number of more than 16 bits, which no sender has
  pub wide :
      Copies (record { next = 65536 }) (into 20 ∷ []) (from 0 1 65536 ∷ []) (0 ∷ [])
      × (Numbered (record { next = 65536 }) (from 0 1 65536 ∷ []) (0 ∷ []) → ⊥)
