-- Demand 2. "Tags are read and written as IEEE 802.1CB-2017 lays out the redundancy tag, and every verdict, stream record
-- and counter equals what its vector or match recovery gives, as document 01 condenses it."
-- Assumes nothing. The definitions that the contract cites condense it: `frame` has the tag, `stream` the recovery.
use Rattle.std.specs.Prelude.{ℕ, zero, suc, ◌≡◌, Bool, true, false, not, List, [], ◌∷◌, eqb, set}
use Rattle.refusal.specs.Checks.Said.{answers}
use Rattle.record.specs.declared.Stream.{Stream}
use Rattle.std.specs.Prelude.{if◌then◌else◌}
use Rattle.record.specs.Words.{yes}
use Rattle.record.specs.Sizes.{link_rule}
use Rattle.frame.specs.Frame.{number_in, rank_of, unranked}
use Rattle.frame.specs.Link.{last_byte}
use Rattle.frame.specs.declared.Rank.{Rank}
use Rattle.stream.specs.History.{empty}
use Rattle.stream.specs.Decisions.{up, duplicate, handed_up, tally, with, verdict, decided}
use Rattle.stream.specs.Decisions as decisions
use Rattle.calls.specs.Table.{Table, at}
use Rattle.calls.specs.Calls.{arriving, linking, Verdict, arrived}
use Rattle.demands.specs.Receiver.{Receiver, MeetsContract, Tagger, MeetsTags}
use Rattle.demands.specs.Seen.{told}
use Rattle.demands.specs.Unlimited.{elem}

-- The answer, the table with its counters, and the output bytes of every call are the definitions'.
abbrev pub Demand2 : Receiver → Type 0
Demand2 receive = MeetsContract receive

-- "Tags are read and written as": so are the outcomes of the two calls that have no table.
abbrev pub Demand2Tags : Tagger → Type 0
Demand2Tags tagger = MeetsTags tagger

-- What that says of an arrival that is not refused: the number is the one in the tag, the priority is the VLAN tag's (order 11), the
-- verdict is what the recovery gives on the stream's record, and so is the record with its counters; every other record stays.
pub record Recovered (receive : Receiver) (t : Table) (network : ℕ) (frame out : List ℕ) (i n : ℕ) (x : Rank) (v : Verdict) : Type 0 where
  pub number : n ≡ number_in frame
  pub rank : x ≡ rank_of frame
  pub verdict : told v ≡ verdict (at t i) n
  pub records : (receive t (arriving network frame out)).table ≡ set t i (decided (at t i) n network)

abbrev pub ArrivalsRecovered : Receiver → Type 0
ArrivalsRecovered receive =
    (t : Table) (network : ℕ) (frame out : List ℕ) (i n : ℕ) (x : Rank) (v : Verdict)
    → (receive t (arriving network frame out)).said ≡ answers (arrived i n x v)
    → Recovered receive t network frame out i n x v

-- ---- document 02, order 10: "For such a stream demand 2 asks for these rules in place of vector or match recovery."

-- "0 only after a sender's restart, then 1 to 255 and 1 again": the number that follows one, and those one to so many steps forward.
abbrev pub next_number : ℕ → ℕ
next_number n = if eqb n 255 then 1 else suc n

unfoldable pub forward : (steps last : ℕ) → List ℕ
forward zero last = []
forward (suc k) last = next_number last ∷ forward k (next_number last)

-- "A fresh stream hands up any number"; "one to 127 steps forward from the last number handed up is handed up", which after 0 are
-- "the numbers 1 to 127"; "A 0 is handed up unless 0 was the last."
unfoldable pub link_passes : Stream → (number : ℕ) → Bool
link_passes s number =
    if yes s.state.any then true
    else if eqb number 0 then not (eqb s.state.anchor 0)
    else elem number (forward 127 s.state.anchor)

-- "all else is a duplicate"
abbrev pub link_verdict : Stream → (number : ℕ) → decisions.Verdict
link_verdict s number = if link_passes s number then up else duplicate

-- The record after it: a number that is handed up is the last one; a duplicate leaves the state. "counted as in document 01, except
-- that out of order and lost stay."
abbrev pub link_record : Stream → (number network : ℕ) → Stream
link_record s number network =
    with s (if link_passes s number then handed_up s number 0 empty else s.state) (tally s.counts network (link_verdict s number) false 0)

-- An arrival of a virtual link that is not refused: its slot has rule 3, and "the number is the frame's last byte".
pub record LinkRecovered (receive : Receiver) (t : Table) (network : ℕ) (frame out : List ℕ) (i n : ℕ) (x : Rank) (v : Verdict) : Type 0 where
  pub rule : (at t i).rule ≡ link_rule
  pub number : n ≡ last_byte frame
  pub rank : x ≡ unranked  -- such an arrival reads no VLAN tag (order 11)
  pub verdict : told v ≡ link_verdict (at t i) n
  pub records : (receive t (linking network frame out)).table ≡ set t i (link_record (at t i) n network)

abbrev pub LinksRecovered : Receiver → Type 0
LinksRecovered receive =
    (t : Table) (network : ℕ) (frame out : List ℕ) (i n : ℕ) (x : Rank) (v : Verdict)
    → (receive t (linking network frame out)).said ≡ answers (arrived i n x v)
    → LinkRecovered receive t network frame out i n x v
