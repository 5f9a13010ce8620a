-- Definitions at cases that are worked out by hand from the documents. No law tells which of two counters is which or where a record
-- begins to be damaged: there a definition and its code could change together. Assumes nothing.
use Rattle.std.specs.Prelude.{ℕ, ◌+◌, ◌-◌, ◌^◌, ◌≡◌, Bool, true, false, List, [], ◌∷◌, ◌++◌, length, replicate}
use Rattle.refusal.specs.Checks.{Said}
use Rattle.refusal.specs.Checks.Said.{refused, answers}
use Rattle.refusal.specs.Numbers.{TABLE, NETWORK, LONG, SHORT, UNTAGGED, UNKNOWN, DAMAGED, ROOM, SETTING, TAKEN, FULL, SLOT, TAGGED, GROUP, BATCH, TRAILER, INDEX}
use Rattle.record.specs.Sizes.{slots_most, frame_most, untagged_most, window_least, window_most, time_least, time_most, vlan_most, vector_rule, match_rule, link_rule}
use Rattle.frame.specs.Frame.{dest_of, vlan_of, type_at, head_short, tag_short, place_of}
use Rattle.stream.specs.History.{holding}
use Rattle.stream.specs.Record.{State, Counts, Stream, lawful, opened, closed}
use Rattle.stream.specs.Decisions.{with, decided, reset, ticked}
use Rattle.calls.specs.Table.{Table, blank}
use Rattle.calls.specs.Calls.{Call, arriving, opening, closing, resetting, ticking, ticks, refuse, act, Answer, answer, arrived, placed, done, swept, handed_up, duplicate, rogue}
use Rattle.calls.specs.Told.{tell_arrival}
use Rattle.port.specs.Answers.{tell_opened, tell_done}
use Rattle.port.specs.Tags.{tell_taken, tell_written}
use Rattle.port.specs.Sending.{tell_sent}
use Rattle.port_tick.specs.Tick.{tell_swept}
use Rattle.event_file.specs.Files.{free_table, output}
use Rattle.batch.specs.Batch.{Batch, batch_of}
use Rattle.batch.specs.Told.{mark, tell_batch}
use Rattle.demands.specs.Receiver.{the_receiver}
use Rattle.demands.specs.Examples.{address, frame, from, alone}

-- ---- numbers

pub record NumberCases : Type 0 where
  -- the words of a history, the lowest first
  pub words : holding (2 ^ 64 + 2) ≡ 2 ∷ 1 ∷ 0 ∷ 0 ∷ 0 ∷ 0 ∷ 0 ∷ 0 ∷ []
  pub sizes : slots_most ∷ frame_most ∷ untagged_most ∷ window_least ∷ window_most ∷ time_least ∷ time_most ∷ vlan_most ∷ vector_rule ∷ match_rule ∷ link_rule ∷ []
      ≡ 64 ∷ 2000 ∷ 1994 ∷ 2 ∷ 512 ∷ 1 ∷ 65535 ∷ 4094 ∷ 1 ∷ 2 ∷ 3 ∷ []
  pub refusals : TABLE ∷ NETWORK ∷ LONG ∷ SHORT ∷ UNTAGGED ∷ UNKNOWN ∷ DAMAGED ∷ ROOM ∷ SETTING ∷ TAKEN ∷ FULL ∷ SLOT ∷ TAGGED ∷ GROUP ∷ BATCH ∷ TRAILER ∷ INDEX ∷ []
      ≡ 1 ∷ 2 ∷ 3 ∷ 4 ∷ 5 ∷ 6 ∷ 7 ∷ 8 ∷ 9 ∷ 10 ∷ 11 ∷ 12 ∷ 13 ∷ 14 ∷ 15 ∷ 16 ∷ 18 ∷ []
  -- an answer in plain fields, and the mark of a batch
  pub handed-up : tell_arrival (answers (arrived 5 7 (record { priority = 6; vlantag = 1 }) (handed_up 14))) ≡ record { slot = 5; length = 14; number = 7; verdict = 1; refusal = 0; rank = record { priority = 6; vlantag = 1 } }
  pub again : tell_arrival (answers (arrived 5 7 (record { priority = 6; vlantag = 1 }) duplicate)) ≡ record { slot = 5; length = 0; number = 7; verdict = 2; refusal = 0; rank = record { priority = 6; vlantag = 1 } }
  pub far : tell_arrival (answers (arrived 5 7 (record { priority = 3; vlantag = 1 }) rogue)) ≡ record { slot = 5; length = 0; number = 7; verdict = 3; refusal = 0; rank = record { priority = 3; vlantag = 1 } }
  pub not_taken : tell_arrival (refused 8) ≡ record { slot = 0; length = 0; number = 0; verdict = 0; refusal = 8; rank = record { priority = 0; vlantag = 0 } }
  pub not-reached : mark ≡ record { slot = 0; length = 0; number = 0; verdict = 0; refusal = 0; rank = record { priority = 0; vlantag = 0 } }
  -- and the other answers, as C gets them
  pub for-open : (tell_opened (answers (placed 5)) ≡ record { slot = 5; refusal = 0 }) × (tell_opened (refused 9) ≡ record { slot = 0; refusal = 9 })
  pub for-close : (tell_done (answers done) ≡ 0) × (tell_done (refused 12) ≡ 12)
  pub for-tick : (tell_swept (answers (swept 3 4)) ≡ record { resets = 3; damaged = 4; refusal = 0 }) × (tell_swept (refused 1) ≡ record { resets = 0; damaged = 0; refusal = 1 })
  pub for-take : (tell_taken (answers (record { number = 7; length = 14 })) ≡ record { length = 14; number = 7; refusal = 0 }) × (tell_taken (refused 5) ≡ record { length = 0; number = 0; refusal = 5 })
  pub for-write : (tell_written 7 (answers 20) ≡ record { length = 20; number = 7; refusal = 0 }) × (tell_written 7 (refused 13) ≡ record { length = 0; number = 0; refusal = 13 })
  pub for-send : (tell_sent (answers (record { number = 7; length = 20 })) ≡ record { length = 20; number = 7; refusal = 0 }) × (tell_sent (refused 8) ≡ record { length = 0; number = 0; refusal = 8 })

-- ---- which records are lawful

-- A state with these bits in its history, and a record in use with it.
abbrev pub state_of : (history anchor remaining n any : ℕ) → State
state_of h a r n y = record { history = holding h; anchor = a; remaining = r; early = n; any = y }

abbrev pub lawful_with : (vlan rule window time : ℕ) → State → Bool
lawful_with vlan rule window time t = lawful (with (opened 7 vlan rule window time) t (opened 7 vlan rule window time).counts)

abbrev pub fresh_with : (vlan rule window time : ℕ) → Bool
fresh_with vlan rule window time = lawful (opened 7 vlan rule window time)

-- one with L = 4 and R = 3
abbrev pub lawful_as : (rule : ℕ) → State → Bool
lawful_as rule t = lawful_with 0 rule 4 3 t

-- order 4's n, in a vector record
abbrev pub early_in : (window n history : ℕ) → Bool
early_in window n h = lawful_with 0 1 window 3 (state_of h 9 3 n 0)

pub record LawfulCases : Type 0 where
  pub rules : (fresh_with 0 0 4 3 ≡ false) × (fresh_with 0 1 4 3 ≡ true) × (fresh_with 0 2 4 3 ≡ true) × (fresh_with 0 3 4 3 ≡ true) × (fresh_with 0 4 4 3 ≡ false)
  pub windows : (fresh_with 0 1 1 3 ≡ false) × (fresh_with 0 1 2 3 ≡ true) × (fresh_with 0 1 512 3 ≡ true) × (fresh_with 0 1 513 3 ≡ false)
  pub times : (fresh_with 0 1 4 0 ≡ false) × (fresh_with 0 1 4 1 ≡ true) × (fresh_with 0 1 4 65535 ≡ true)
  pub vlans : (fresh_with 4094 1 4 3 ≡ true) × (fresh_with 4095 1 4 3 ≡ false)
  pub free : lawful (closed (opened 7 0 1 4 3)) ≡ false
  -- with take-any: another anchor, a bit, a tick left, n; and any flag but 0 is yes
  pub fresh : (lawful_as 1 (state_of 0 65535 0 0 1) ≡ true) × (lawful_as 1 (state_of 0 65535 0 0 2) ≡ true) × (lawful_as 1 (state_of 0 65534 0 0 1) ≡ false)
      × (lawful_as 1 (state_of 1 65535 0 0 1) ≡ false) × (lawful_as 1 (state_of 0 65535 1 0 1) ≡ false) × (lawful_as 1 (state_of 0 65535 0 1 1) ≡ false)
  -- without it: no tick left, and one more than R; no bit 0, and a bit at L
  pub ticks : (lawful_as 1 (state_of 0b0001 9 0 0 0) ≡ false) × (lawful_as 1 (state_of 0b0001 9 1 0 0) ≡ true) × (lawful_as 1 (state_of 0b0001 9 3 0 0) ≡ true) × (lawful_as 1 (state_of 0b0001 9 4 0 0) ≡ false)
  pub bits : (lawful_as 1 (state_of 0b1111 9 3 0 0) ≡ true) × (lawful_as 1 (state_of 0b1110 9 3 0 0) ≡ false) × (lawful_as 1 (state_of 0b10001 9 3 0 0) ≡ false)
  pub matching : (lawful_as 2 (state_of 0 9 3 0 0) ≡ true) × (lawful_as 2 (state_of 1 9 3 0 0) ≡ false) × (lawful_as 2 (state_of 0 9 3 1 0) ≡ false)
  -- "n at most L - 1 and, with n above 0, bit L - 1 - n set": with n = 1, L - 2, L - 1 and L
  pub two : (early_in 2 0 0b01 ≡ true) × (early_in 2 1 0b01 ≡ true) × (early_in 2 2 0b11 ≡ false)
  pub word : (early_in 64 1 (2 ^ 62 + 1) ≡ true) × (early_in 64 1 (2 ^ 63 + 2 ^ 61 + 1) ≡ false) × (early_in 64 62 0b011 ≡ true) × (early_in 64 62 0b101 ≡ false) × (early_in 64 63 1 ≡ true) × (early_in 64 64 (2 ^ 64 - 1) ≡ false)
  pub words : (early_in 65 1 (2 ^ 63 + 1) ≡ true) × (early_in 65 1 (2 ^ 64 + 2 ^ 62 + 1) ≡ false) × (early_in 65 63 0b011 ≡ true) × (early_in 65 63 0b101 ≡ false) × (early_in 65 64 1 ≡ true) × (early_in 65 65 (2 ^ 65 - 1) ≡ false)
  pub most : (early_in 512 1 (2 ^ 510 + 1) ≡ true) × (early_in 512 1 (2 ^ 511 + 2 ^ 509 + 1) ≡ false) × (early_in 512 510 0b011 ≡ true) × (early_in 512 510 0b101 ≡ false) × (early_in 512 511 1 ≡ true) × (early_in 512 512 (2 ^ 512 - 1) ≡ false)

-- ---- decisions, a tick, a reset, an open and a close: whole records

-- ten, twenty .. in the counters, with so much added to each
abbrev pub counts_of : (a b c d e f g h : ℕ) → Counts
counts_of a b c d e f g h =
    record { arrivals0 = 10 + a; arrivals1 = 20 + b; passed = 30 + c; discarded = 40 + d; rogue = 50 + e; disorder = 60 + f; lost = 70 + g; resets = 80 + h }

-- L = 4, R = 3
abbrev pub row : (rule : ℕ) → State → Counts → Stream
row rule t c = record { dest = 7; vlan = 5; window = 4; time = 3; rule = rule; used = 1; state = t; counts = c }

abbrev pub row_before : (rule : ℕ) → State → Stream
row_before rule t = row rule t (counts_of 0 0 0 0 0 0 0 0)

-- 8 has not come; one tick is left
abbrev pub holed : State
holed = state_of 0b1101 9 1 0 0

abbrev pub full : ℕ
full = 2 ^ 64 - 1

abbrev pub brim : State → Stream
brim t = row 1 t (record { arrivals0 = full; arrivals1 = full; passed = full; discarded = full; rogue = full; disorder = full; lost = full; resets = full })

pub record DecisionCases : Type 0 where
  pub first : decided (row_before 1 (state_of 0 65535 0 0 1)) 7 0 ≡ row 1 (state_of 0b0001 7 3 3 0) (counts_of 1 0 1 0 0 0 0 0)
  pub far : decided (row_before 1 holed) 13 1 ≡ row 1 holed (counts_of 0 1 0 0 1 0 0 0)
  pub again : decided (row_before 1 holed) 7 0 ≡ row 1 holed (counts_of 1 0 0 1 0 0 0 0)
  pub late : decided (row_before 1 holed) 8 1 ≡ row 1 (state_of 0b1111 9 3 0 0) (counts_of 0 1 1 0 0 1 0 0)
  pub next : decided (row_before 1 holed) 10 0 ≡ row 1 (state_of 0b1011 10 3 0 0) (counts_of 1 0 1 0 0 0 0 0)
  pub leaps : decided (row_before 1 holed) 12 1 ≡ row 1 (state_of 0b1001 12 3 0 0) (counts_of 0 1 1 0 0 1 1 0)
  pub match-first : decided (row_before 2 (state_of 0 65535 0 0 1)) 7 1 ≡ row 2 (state_of 0 7 3 0 0) (counts_of 0 1 1 0 0 0 0 0)
  pub match-again : decided (row_before 2 (state_of 0 9 1 0 0)) 9 0 ≡ row 2 (state_of 0 9 1 0 0) (counts_of 1 0 0 1 0 0 0 0)
  pub match-next : decided (row_before 2 (state_of 0 9 1 0 0)) 10 0 ≡ row 2 (state_of 0 10 3 0 0) (counts_of 1 0 1 0 0 0 0 0)
  pub match-leaps : decided (row_before 2 (state_of 0 9 1 0 0)) 5000 0 ≡ row 2 (state_of 0 5000 3 0 0) (counts_of 1 0 1 0 0 1 0 0)
  pub tick : ticked (row_before 1 (state_of 0b1101 9 3 0 0)) ≡ row_before 1 (state_of 0b1101 9 2 0 0)
  pub last-tick : ticked (row_before 1 holed) ≡ row 1 (state_of 0 65535 0 0 1) (counts_of 0 0 0 0 0 0 0 1)
  pub by_call : reset (row_before 1 holed) ≡ row 1 (state_of 0 65535 0 0 1) (counts_of 0 0 0 0 0 0 0 1)
  pub opens : opened 7 5 1 4 3 ≡ row 1 (state_of 0 65535 0 0 1) (record { arrivals0 = 0; arrivals1 = 0; passed = 0; discarded = 0; rogue = 0; disorder = 0; lost = 0; resets = 0 })
  pub closes : closed (row_before 1 holed)
      ≡ record { dest = 7; vlan = 5; window = 4; time = 3; rule = 1; used = 0; state = holed; counts = counts_of 0 0 0 0 0 0 0 0 }
  -- each counter wraps to zero
  pub wraps : ((decided (brim holed) 12 0).counts ≡ record { arrivals0 = 0; arrivals1 = full; passed = 0; discarded = full; rogue = full; disorder = 0; lost = 0; resets = full })
      × ((decided (brim holed) 7 1).counts.arrivals1 ≡ 0) × ((decided (brim holed) 7 1).counts.discarded ≡ 0)
      × ((decided (brim holed) 13 1).counts.rogue ≡ 0) × ((reset (brim holed)).counts.resets ≡ 0)

-- ---- frames

-- both addresses, these bytes, and n more
abbrev pub framed : (bytes : List ℕ) (n : ℕ) → List ℕ
framed bytes n = replicate 12 2 ++ bytes ++ replicate n 0

pub record FrameCases : Type 0 where
  pub destination : dest_of (1 ∷ 2 ∷ 3 ∷ 4 ∷ 5 ∷ 6 ∷ []) ≡ 0x010203040506
  pub vlan : (vlan_of (framed (0x81 ∷ 0x00 ∷ 0xF1 ∷ 0x23 ∷ []) 2) ≡ 0x123) × (vlan_of (framed (0x81 ∷ 0x01 ∷ 0xF1 ∷ 0x23 ∷ []) 2) ≡ 0)
  pub type-field : (type_at (framed (0x81 ∷ 0x00 ∷ 0 ∷ 5 ∷ []) 2) ≡ 16) × (type_at (framed [] 2) ≡ 12)
  -- 13 and 14 bytes, 17 and 18, and with a tag 19 and 20, 23 and 24
  pub short : (head_short (framed [] 1) ≡ true) × (head_short (framed [] 2) ≡ false)
      × (head_short (framed (0x81 ∷ 0x00 ∷ 0 ∷ 5 ∷ []) 1) ≡ true) × (head_short (framed (0x81 ∷ 0x00 ∷ 0 ∷ 5 ∷ []) 2) ≡ false)
      × (tag_short (framed (0xF1 ∷ 0xC1 ∷ []) 5) ≡ true) × (tag_short (framed (0xF1 ∷ 0xC1 ∷ []) 6) ≡ false)
      × (tag_short (framed (0x81 ∷ 0x00 ∷ 0 ∷ 5 ∷ 0xF1 ∷ 0xC1 ∷ []) 5) ≡ true) × (tag_short (framed (0x81 ∷ 0x00 ∷ 0 ∷ 5 ∷ 0xF1 ∷ 0xC1 ∷ []) 6) ≡ false)
  pub long : (place_of (replicate 1995 0) ≡ refused 3) × (place_of (replicate 1994 0) ≡ answers 12)

-- ---- calls, by what they answer

abbrev pub said_of : Table → Call → Said Answer
said_of t c = answer t (act t c)

-- a stream that is damaged: its L, or its state
abbrev pub unsettled : Table
unsettled = alone 1 3 3

abbrev pub unshaped : Table
unshaped = alone 4 3 4

-- so many empty frames
abbrev pub empties : (count : ℕ) → Batch
empties n = record { network = 0; count = n; frames = replicate 66 0; out = [] }

pub record CallCases : Type 0 where
  -- the table and the output buffer of `events`; a table of 64 slots and one of 65; a batch of 32 frames
  pub rooms : (length free_table ≡ 8) × (length output ≡ 2000)
  pub slots : (act (replicate 64 blank) ticking ≡ ticks) × (act (replicate 65 blank) ticking ≡ refuse 1)
  pub frames : ((batch_of [] (empties 32)).said ≡ answers 32) × ((tell_batch (batch_of [] (empties 5))).frames ≡ 5) × ((tell_batch (batch_of [] (empties 5))).refusal ≡ 0)
      × ((tell_batch (batch_of [] (empties 33))).frames ≡ 0) × ((tell_batch (batch_of [] (empties 33))).refusal ≡ 15)
  -- what a duplicate and a rogue leave in the output, and what is handed up
  pub written : ((the_receiver (alone 4 3 3) (from 0 1 9)).output ≡ replicate 14 0) × ((the_receiver (alone 4 3 3) (from 0 1 5000)).output ≡ replicate 14 0)
      × ((the_receiver (alone 4 3 3) (from 0 1 10)).output ≡ 2 ∷ 0 ∷ 0 ∷ 0 ∷ 0 ∷ 1 ∷ 2 ∷ 0 ∷ 0 ∷ 0 ∷ 0 ∷ 9 ∷ 8 ∷ 0 ∷ [])
  -- damaged: a tick counts it, a reset mends its state and not its settings, a close takes both
  pub sweeps : (said_of (blank ∷ unsettled ++ unshaped) ticking ≡ answers (swept 0 2)) × (said_of (alone 4 3 1) ticking ≡ answers (swept 1 0))
  pub mended : (said_of unshaped (resetting 0) ≡ answers done) × (said_of unsettled (resetting 0) ≡ refused 7)
  pub closed : (said_of unshaped (closing 0) ≡ answers done) × (said_of unsettled (closing 0) ≡ answers done)
  -- where two conditions hold at once: 1 and 2, 2 and 3, 7 and 8; 9 and 10, 10 and 11, 11; 12 and 7
  pub arrivals : (said_of (replicate 65 blank) (arriving 2 [] []) ≡ refused 1) × (said_of [] (arriving 2 (replicate 2001 0) []) ≡ refused 2)
      × (said_of unshaped (arriving 0 (frame 1 9) []) ≡ refused 7)
  pub opens : (said_of (alone 4 3 3) (opening (address 1) 0 1 1 3) ≡ refused 9) × (said_of (alone 4 3 3) (opening (address 1) 0 1 4 3) ≡ refused 10)
      × (said_of (alone 4 3 3) (opening (address 2) 0 1 4 3) ≡ refused 11)
  pub free : (said_of (blank ∷ []) (resetting 0) ≡ refused 12) × (said_of (blank ∷ []) (closing 0) ≡ refused 12)
