-- Document 02, order 11: the priority at cases that are worked out by hand. Assumes nothing.
use Rattle.std.specs.Prelude.{ℕ, ◌/◌, ◌%◌, ◌≡◌, List, [], ◌∷◌, ◌++◌, replicate}
use Rattle.std.proofs.Math.Option.{none, some}
use Rattle.refusal.specs.Checks.Said.{refused, answers}
use Rattle.frame.specs.Frame.{rank_of}
use Rattle.frame.specs.declared.Rank.{Rank}
use Rattle.stream.specs.Record.{Stream}
use Rattle.calls.specs.Table.{blank}
use Rattle.calls.specs.Calls.{arriving, arrived, handed_up, duplicate, rogue}
use Rattle.batch.specs.Batch.{Batch, batch_of}
use Rattle.demands.specs.Receiver.{the_receiver}
use Rattle.demands.specs.Examples.{address, frame}
use Rattle.held.specs.Cases.{said_of}
use Rattle.held.specs.LinkCases.{plain}

-- To address 1 with number n and a VLAN tag that has these two bytes.
abbrev pub vlan_frame : (high low n : ℕ) → List ℕ
vlan_frame high low n = address 1 ++ 2 ∷ 0 ∷ 0 ∷ 0 ∷ 0 ∷ 9 ∷ 0x81 ∷ 0 ∷ high ∷ low ∷ 0xF1 ∷ 0xC1 ∷ 0 ∷ 0 ∷ n / 256 ∷ n % 256 ∷ 8 ∷ 0 ∷ []

-- With F1C1 at 12, and 8100 hex with priority 5 behind the redundancy tag.
abbrev pub vlan_behind : (n : ℕ) → List ℕ
vlan_behind n = address 1 ++ 2 ∷ 0 ∷ 0 ∷ 0 ∷ 0 ∷ 9 ∷ 0xF1 ∷ 0xC1 ∷ 0 ∷ 0 ∷ n / 256 ∷ n % 256 ∷ 0x81 ∷ 0 ∷ 0xA0 ∷ 5 ∷ 8 ∷ 0 ∷ []

-- the vector stream in VLAN 5
abbrev pub in_five : Stream
in_five = record { dest = plain.dest; vlan = 5; window = 4; time = 3; rule = 1; used = 1; state = plain.state; counts = plain.counts }

abbrev pub of : (priority vlantag : ℕ) → Rank
of p t = record { priority = p; vlantag = t }

-- a batch of three frames, with room for the first alone
abbrev pub three : Batch
three = record {
  network = 0;
  count = 3;
  frames = 0 ∷ 24 ∷ vlan_frame 0xB0 5 10 ++ 0 ∷ 14 ∷ replicate 14 0 ++ 0 ∷ 24 ∷ vlan_frame 0xE0 5 10;
  out = replicate 20 7;
}

pub record PriorityCases : Type 0 where
  -- three bits, the highest: the one below them is none of them, nor are those of the VLAN id
  pub bits : (rank_of (vlan_frame 0x20 0 7) ≡ of 1 1) × (rank_of (vlan_frame 0x40 0 7) ≡ of 2 1) × (rank_of (vlan_frame 0x80 0 7) ≡ of 4 1) × (rank_of (vlan_frame 0xFF 0xFF 7) ≡ of 7 1)
      × (rank_of (vlan_frame 0x1F 0xFF 7) ≡ of 0 1) × (rank_of (vlan_frame 0xBF 0xFF 7) ≡ of 5 1)
  -- a tag with priority 0 is not none
  pub no-tag : (rank_of (vlan_frame 0 5 7) ≡ of 0 1) × (rank_of (frame 1 7) ≡ of 0 0) × (rank_of [] ≡ of 0 0)
  -- with all three verdicts
  pub up : said_of (blank ∷ in_five ∷ []) (arriving 0 (vlan_frame 0xB0 5 10) (replicate 18 7)) ≡ answers (arrived 1 10 (of 5 1) (handed_up 18))
  pub again : said_of (blank ∷ in_five ∷ []) (arriving 1 (vlan_frame 0xE0 5 9) (replicate 18 7)) ≡ answers (arrived 1 9 (of 7 1) duplicate)
  pub far : said_of (blank ∷ in_five ∷ []) (arriving 1 (vlan_frame 0x20 5 5000) (replicate 18 7)) ≡ answers (arrived 1 5000 (of 1 1) rogue)
  -- VLAN id 0 has the key of no tag, and its priority
  pub zero-id : said_of (plain ∷ []) (arriving 0 (vlan_frame 0xA0 0 10) (replicate 18 7)) ≡ answers (arrived 0 10 (of 5 1) (handed_up 18))
  -- by the frame as it came: 8100 hex behind the redundancy tag is no VLAN tag, though the frame that is handed up begins with one
  pub behind : (said_of (plain ∷ []) (arriving 0 (vlan_behind 10) (replicate 18 7)) ≡ answers (arrived 0 10 (of 0 0) (handed_up 18)))
      × (rank_of (the_receiver (plain ∷ []) (arriving 0 (vlan_behind 10) (replicate 18 7))).output ≡ of 5 1)
  -- in a batch each frame has its own; one that is refused, and one that is not reached, have 0 and no
  pub batch : ((batch_of (in_five ∷ []) three).said ≡ answers 2)
      × ((batch_of (in_five ∷ []) three).answers
      ≡ some (answers (arrived 0 10 (of 5 1) (handed_up 18))) ∷ some (refused 5) ∷ some (refused 8) ∷ replicate 29 none)
