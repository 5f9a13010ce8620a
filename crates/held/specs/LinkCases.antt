-- Document 02, order 10: virtual links at cases that are worked out by hand. (`LinkCases` of `links` has the numbers.) Assumes nothing.
use Rattle.std.specs.Prelude.{ℕ, ◌≡◌, true, false, List, [], ◌∷◌, ◌++◌, replicate}
use Rattle.refusal.specs.Checks.Said.{refused, answers}
use Rattle.frame.specs.Frame.{unranked}
use Rattle.stream.specs.Record.{State, Counts, Stream}
use Rattle.stream.specs.Decisions.{decided, reset, ticked}
use Rattle.calls.specs.Table.{Table, blank}
use Rattle.calls.specs.Calls.{Call, arriving, linking, opening, resetting, ticking, arrived, swept, handed_up, duplicate}
use Rattle.demands.specs.Receiver.{the_receiver}
use Rattle.demands.specs.Examples.{address, frame, stream, since, alone}
use Rattle.held.specs.Cases.{state_of, lawful_with, lawful_as, fresh_with, counts_of, said_of, row_before, row}

pub record LinkRecordCases : Type 0 where
  -- "another VLAN id than 0 with it is a setting outside the sizes; L is in range"
  pub settings : (fresh_with 1 3 4 3 ≡ false) × (fresh_with 0 3 1 3 ≡ false) × (fresh_with 0 3 513 3 ≡ false) × (fresh_with 0 3 4 0 ≡ false)
  -- "history zero and, without take-any, an anchor of at most 255": and no n; of the other rules the anchor may be any
  pub lawful : (lawful_as 3 (state_of 0 0 3 0 0) ≡ true) × (lawful_as 3 (state_of 0 255 3 0 0) ≡ true) × (lawful_as 3 (state_of 0 256 3 0 0) ≡ false) × (lawful_as 3 (state_of 1 9 3 0 0) ≡ false)
      × (lawful_as 3 (state_of 0 9 3 1 0) ≡ false) × (lawful_as 3 (state_of 0 9 0 0 0) ≡ false) × (lawful_as 3 (state_of 0 9 4 0 0) ≡ false) × (lawful_as 2 (state_of 0 256 3 0 0) ≡ true)
  pub fresh : (lawful_as 3 (state_of 0 65535 0 0 1) ≡ true) × (lawful_as 3 (state_of 0 255 0 0 1) ≡ false) × (lawful_with 5 3 4 3 (state_of 0 9 3 0 0) ≡ false)
  -- handed up: the last number, R ticks, passed; else discarded; nothing else rises
  pub first : decided (row_before 3 (state_of 0 65535 0 0 1)) 200 1 ≡ row 3 (state_of 0 200 3 0 0) (counts_of 0 1 1 0 0 0 0 0)
  pub wraps : decided (row_before 3 (state_of 0 255 1 0 0)) 1 0 ≡ row 3 (state_of 0 1 3 0 0) (counts_of 1 0 1 0 0 0 0 0)
  pub leaps : decided (row_before 3 (state_of 0 255 1 0 0)) 127 0 ≡ row 3 (state_of 0 127 3 0 0) (counts_of 1 0 1 0 0 0 0 0)
  pub far : decided (row_before 3 (state_of 0 255 1 0 0)) 128 1 ≡ row 3 (state_of 0 255 1 0 0) (counts_of 0 1 0 1 0 0 0 0)
  pub again : decided (row_before 3 (state_of 0 0 1 0 0)) 0 0 ≡ row 3 (state_of 0 0 1 0 0) (counts_of 1 0 0 1 0 0 0 0)
  pub restart : decided (row_before 3 (state_of 0 9 1 0 0)) 0 0 ≡ row 3 (state_of 0 0 3 0 0) (counts_of 1 0 1 0 0 0 0 0)

-- From address 9, of type 0800: fifteen bytes.
abbrev pub link_frame : (k n : ℕ) → List ℕ
link_frame k n = address k ++ 2 ∷ 0 ∷ 0 ∷ 0 ∷ 0 ∷ 9 ∷ 8 ∷ 0 ∷ n ∷ []

-- The same with 8100 hex at 12 and VLAN id 5, and with a group's source.
abbrev pub vlan_like : (n : ℕ) → List ℕ
vlan_like n = address 1 ++ 2 ∷ 0 ∷ 0 ∷ 0 ∷ 0 ∷ 9 ∷ 0x81 ∷ 0 ∷ 0 ∷ 5 ∷ n ∷ []

abbrev pub from_group : (bytes : ℕ) → List ℕ
from_group n = address 1 ++ 3 ∷ replicate n 0

-- a link whose last number was 255, one that is damaged, one with a VLAN id;
abbrev pub link : Stream
link = stream 1 3 4 3 (since 255 0 3)

abbrev pub damaged_link : Stream
damaged_link = stream 1 3 4 3 (since 256 0 3)

abbrev pub odd_link : Stream
odd_link = record { dest = link.dest; vlan = 5; window = 4; time = 3; rule = 3; used = 1; state = link.state; counts = link.counts }

-- a vector stream with the same key, and a rule that is none
abbrev pub plain : Stream
plain = stream 1 1 4 3 (since 9 0b0001 3)

abbrev pub no_rule : Stream
no_rule = stream 1 4 4 3 (since 9 0 3)

pub record LinkCallCases : Type 0 where
  -- handed up without its last byte; a duplicate writes nothing
  pub up : ((the_receiver (link ∷ []) (linking 0 (link_frame 1 1) (replicate 15 7))).said ≡ answers (arrived 0 1 unranked (handed_up 14)))
      × ((the_receiver (link ∷ []) (linking 0 (link_frame 1 1) (replicate 15 7))).output ≡ address 1 ++ 2 ∷ 0 ∷ 0 ∷ 0 ∷ 0 ∷ 9 ∷ 8 ∷ 0 ∷ 7 ∷ [])
  pub again : ((the_receiver (link ∷ []) (linking 1 (link_frame 1 255) (replicate 14 7))).said ≡ answers (arrived 0 255 unranked duplicate))
      × ((the_receiver (link ∷ []) (linking 1 (link_frame 1 255) (replicate 14 7))).output ≡ replicate 14 7)
  -- 8100 hex means nothing to it, and no priority is read behind it
  pub vlan : said_of (link ∷ []) (linking 0 (vlan_like 1) (replicate 16 7)) ≡ answers (arrived 0 1 unranked (handed_up 16))
  -- 1, 2, 3, 4, 14, 6, 7, 8: each where one or more behind it hold too
  pub order : (said_of (replicate 65 blank) (linking 2 [] []) ≡ refused 1) × (said_of [] (linking 2 (replicate 2001 3) []) ≡ refused 2) × (said_of [] (linking 1 (replicate 2001 3) []) ≡ refused 3)
      × (said_of [] (linking 0 (from_group 7) []) ≡ refused 4) × (said_of [] (linking 0 (from_group 8) []) ≡ refused 14) × (said_of (damaged_link ∷ []) (linking 0 (link_frame 2 1) []) ≡ refused 6)
      × (said_of (damaged_link ∷ []) (linking 0 (link_frame 1 1) []) ≡ refused 7) × (said_of (link ∷ []) (linking 0 (link_frame 1 1) (replicate 13 7)) ≡ refused 8)
  pub room : said_of (link ∷ []) (linking 0 (link_frame 1 255) (replicate 13 7)) ≡ refused 8
  -- side by side: each call looks at its own
  pub families : (said_of (plain ∷ link ∷ []) (linking 0 (link_frame 1 1) (replicate 14 7)) ≡ answers (arrived 1 1 unranked (handed_up 14)))
      × (said_of (link ∷ plain ∷ []) (arriving 0 (frame 1 10) (replicate 14 7)) ≡ answers (arrived 1 10 unranked (handed_up 14)))
      × (said_of (plain ∷ []) (linking 0 (link_frame 1 1) []) ≡ refused 6) × (said_of (link ∷ []) (arriving 0 (frame 1 10) []) ≡ refused 6)
  -- a rule that is none belongs to the rest
  pub rest : (said_of (no_rule ∷ []) (arriving 0 (frame 1 10) []) ≡ refused 7) × (said_of (no_rule ∷ []) (linking 0 (link_frame 1 1) []) ≡ refused 6)
  -- rule 3 with VLAN id 5: heard by none, in the way of an open, counted by a tick, and not mended
  pub odd : (said_of (odd_link ∷ []) (linking 0 (link_frame 1 1) []) ≡ refused 6) × (said_of (odd_link ∷ []) (linking 0 (vlan_like 1) []) ≡ refused 6)
      × (said_of (odd_link ∷ blank ∷ []) (opening (address 1) 5 1 4 3) ≡ refused 10) × (said_of (odd_link ∷ []) ticking ≡ answers (swept 0 1)) × (said_of (odd_link ∷ []) (resetting 0) ≡ refused 7)
  -- open's 10 looks at all
  pub taken : (said_of (link ∷ blank ∷ []) (opening (address 1) 0 1 4 3) ≡ refused 10) × (said_of (plain ∷ blank ∷ []) (opening (address 1) 0 3 4 3) ≡ refused 10)
      × (said_of (blank ∷ []) (opening (address 1) 5 3 4 3) ≡ refused 9)
