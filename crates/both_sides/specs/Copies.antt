-- Document 02, order 6: "frames sent without a reset carry their index modulo 65536, demand 3's first premise". What it means
-- that a stream's arrivals are frames that a sender sent, and that they are then numbered as demand 3 asks. Assumes nothing.
use Rattle.std.specs.Prelude.{ℕ, ◌+◌, ◌≡◌, ◌⊎◌, Bool, true, false, List, [], ◌∷◌, ◌++◌, map}
use Rattle.std.proofs.Math.Option.{some}
use Rattle.std.specs.Prelude.{if◌then◌else◌}
use Rattle.calls.specs.Table.{Table}
use Rattle.calls.specs.Calls.{Call, arriving, linking, opening, closing, resetting, ticking}
use Rattle.demands.specs.Receiver.{Receiver}
use Rattle.demands.specs.Seen.{Seen, arrived, tick, ended, nothing, seen, log, numbers}
use Rattle.demands.specs.Demand3.{number_of}
use Rattle.sender.specs.declared.Sender.{Sender}
use Rattle.sender.specs.Sender.{sender_at_first}
use Rattle.sender.specs.Runs as sends
use Rattle.sender.specs.Runs.{Side, Pair, sent, nth, WithoutReset}

-- ---- the frames that a stream heard

-- The frame of an arrival. (A virtual link reads no tag but the last byte: what it hears is no copy of a send, and it has none here.)
abbrev pub frame_of : Call → List ℕ
frame_of (arriving network f out) = f
frame_of (linking network f out) = []
frame_of (opening dest vlan rule window time) = []
frame_of (closing i) = []
frame_of (resetting i) = []
frame_of ticking = []

abbrev pub is_arrival : Seen → Bool
is_arrival (arrived n v) = true
is_arrival (tick b) = false
is_arrival ended = false
is_arrival nothing = false

-- Of the calls of a run, the frames of those that the stream in slot i saw as its arrivals, whatever the verdict, in their
-- order. Refused calls and arrivals of other streams may have any frames.
unfoldable pub frames_heard : Receiver → (slot : ℕ) → Table → List Call → List (List ℕ)
frames_heard receive i t [] = []
frames_heard receive i t (c ∷ cs) =
    (if is_arrival (seen i t c (receive t c)) then frame_of c ∷ [] else []) ++ frames_heard receive i (receive t c).table cs

-- ---- as copies of what was sent

-- A frame is a copy of the send with this index: it is what stood in one of its two outputs. It may come on either network.
abbrev pub CopyOf : List Pair → (index : ℕ) → (frame : List ℕ) → Type 0
CopyOf pairs k f = (p : Pair) × (nth pairs k ≡ some p) × ((f ≡ p.copy0) ⊎ (f ≡ p.copy1))

-- Frames are copies of sends, one index for each frame: in any order, and any of them any number of times. (The index is not
-- read from the frame: sends that are 65536 apart may have the same bytes, `SameBytes`.)
unfoldable pub CopiesOf : List Pair → (indices : List ℕ) → (frames : List (List ℕ)) → Type 0
CopiesOf pairs [] [] = Unit {0}
CopiesOf pairs [] (f ∷ fs) = ⊥
CopiesOf pairs (k ∷ ks) [] = ⊥
CopiesOf pairs (k ∷ ks) (f ∷ fs) = CopyOf pairs k f × CopiesOf pairs ks fs

-- What the stream in slot i heard in a run is what a sender sent, without a reset, from a next number on.
pub record FromSender (receive : Receiver) (side : Side) (s : Sender) (calls : List sends.Call) (t : Table) (i : ℕ) (later : List Call) (indices : List ℕ) : Type 0 where
  pub sends : WithoutReset s calls
  pub copies : CopiesOf (sent side s calls) indices (frames_heard receive i t later)

-- The indices in the count that began at 0: the k-th of these sends is its (next + k)-th.
abbrev pub counted_from : Sender → List ℕ → List ℕ
counted_from s indices = map (λ k. s.next + k) indices

-- "Demand 3's first premise": the numbers that the stream hears are the sends' indices modulo 65536.
abbrev pub SentAreNumbered : Receiver → Side → Type 0
SentAreNumbered receive side =
    (s : Sender) (calls : List sends.Call) (t : Table) (i : ℕ) (later : List Call) (indices : List ℕ)
    → FromSender receive side s calls t i later indices
    → numbers (log receive i t later) ≡ map number_of (counted_from s indices)

-- From a sender at first that is `numbered` of demand 3, word for word, with the indices of the sends.
abbrev pub SentAtFirstAreNumbered : Receiver → Side → Type 0
SentAtFirstAreNumbered receive side =
    (calls : List sends.Call) (t : Table) (i : ℕ) (later : List Call) (indices : List ℕ)
    → FromSender receive side sender_at_first calls t i later indices
    → numbers (log receive i t later) ≡ map number_of indices
