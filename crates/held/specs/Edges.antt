-- Laws of the crates below that no proof above them uses, each applied where it reaches furthest: behind a VLAN tag, with the last
-- number, in slot 1 and beside it, both ways of an "exactly if". One that asks for more or gives less is refused here. Assumes nothing.
use Rattle.std.specs.Prelude.{ℕ, ◌/◌, ◌%◌, ◌≤◌, ◌<◌, ◌≡◌, ◌⊎◌, false, List, [], ◌∷◌, ◌++◌, length, get_or, take, replicate}
use Rattle.std.proofs.Math.Option.{none}
use Rattle.refusal.specs.Checks.Said.{refused, answers}
use Rattle.record.specs.Sizes.{vector_rule}
use Rattle.frame.specs.Bytes.{overlay}
use Rattle.frame.specs.Frame.{untagged, unranked, tag_at, write_of}
use Rattle.frame.specs.TagCalls.{take_tag, write_tag}
use Rattle.stream.specs.Record.{fresh, damaged}
use Rattle.stream.specs.Decisions.{decided}
use Rattle.calls.specs.Table.{Table, blank, at}
use Rattle.calls.specs.Calls.{arriving, arrived, handed_up, act, after, answer, output, result_of}
use Rattle.batch.specs.Batch.{batch_of}
use Rattle.batch.specs.Laws.{Passes, EndsAt, preceded, bundle_of_one, packed_by, first_part, second_part, InTwo}
use Rattle.demands.specs.Examples.{frame, from, stream, alone}
use Rattle.demands.specs.StepExamples.{cut, before_cut, after_gap, wrap}
use Rattle.sender.specs.Laws.{TwoWrites}
use Rattle.event_file.specs.Records.{records_of}
use Rattle.event_file.specs.Pieces.{pieces_of}
use Rattle.prp.specs.Prp.{Turn, first, of2012, from_of, to_of, from_prp, to_prp}
use Rattle.prp.specs.Example.{head_vlan, payload, tag, new1, old0}
use Rattle.held.specs.Cases.{framed, row_before, holed}

-- ---- frames

-- In VLAN 5, of type 0800 and a byte of data; then with the tag of number 65535, these reserved bytes and that former type.
unfoldable pub vlan_frame : List ℕ
vlan_frame = framed (0x81 ∷ 0 ∷ 0x20 ∷ 5 ∷ 8 ∷ 0 ∷ 0xAB ∷ []) 0

unfoldable pub in_vlan : (reserved former : ℕ) → List ℕ
in_vlan r y = framed (0x81 ∷ 0 ∷ 0x20 ∷ 5 ∷ 0xF1 ∷ 0xC1 ∷ r / 256 ∷ r % 256 ∷ 255 ∷ 255 ∷ y / 256 ∷ y % 256 ∷ []) 1

-- The tag without a VLAN tag before it, the former type 8100, and what follows.
unfoldable pub later_vlan : (rest : List ℕ) → List ℕ
later_vlan rest = framed (0xF1 ∷ 0xC1 ∷ 0 ∷ 0 ∷ 255 ∷ 255 ∷ 0x81 ∷ 0 ∷ []) 0 ++ rest

pub record FrameEdges : Type 0 where
  pub write-then-take : take_tag (take 25 (write_tag vlan_frame 65535 (replicate 30 9)).bytes) (replicate 20 9)
      ≡ record { said = answers (record { number = 65535; length = 19 }); bytes = overlay vlan_frame (replicate 20 9) }
  -- behind a VLAN tag the former type may be 8100; a reserved byte is not
  pub take-then-put : write_of (untagged (in_vlan 0 0x8100)) 65535 ≡ answers (in_vlan 0 0x8100)
  pub not-put : write_of (untagged (in_vlan 1 0x0800)) 65535 ≡ answers (in_vlan 1 0x0800) → ⊥
  pub former-tag : write_of (untagged (in_vlan 1 0xF1C1)) 65535 ≡ refused 13
  -- 24 bytes, and 23
  pub former-vlan : write_of (untagged (later_vlan (0 ∷ 5 ∷ 8 ∷ 0 ∷ []))) 65535 ≡ answers (tag_at (untagged (later_vlan (0 ∷ 5 ∷ 8 ∷ 0 ∷ []))) 16 65535)
  pub former-vlan-tag : write_of (untagged (later_vlan (0 ∷ 5 ∷ 0xF1 ∷ 0xC1 ∷ []))) 65535 ≡ refused 13
  pub former-vlan-short : write_of (untagged (later_vlan (0 ∷ 5 ∷ 8 ∷ []))) 65535 ≡ refused 4
  -- PRP frames in a VLAN, and back
  pub from-then-to : to_of of2012 1 (head_vlan ++ tag ++ payload) ≡ answers (record { network = 1; number = 0x1234; frame = head_vlan ++ payload ++ new1 })
  pub from-then-to-calls : to_prp first 0 (take 26 (from_prp first (head_vlan ++ payload ++ old0) (replicate 30 7)).bytes) (replicate 25 7)
      ≡ record { said = answers (record { network = 0; number = 0x1234; length = 24 }); bytes = overlay (head_vlan ++ payload ++ old0) (replicate 25 7) }
  pub to-then-from : from_of first (head_vlan ++ payload ++ old0) ≡ answers (record { network = 0; number = 0x1234; frame = head_vlan ++ tag ++ payload })
  pub not-both : (t : Turn) → from_of first (head_vlan ++ payload ++ new1) ≡ answers t → ⊥
  -- a send of the last number, with more room in the second output
  pub send-is-two-writes : TwoWrites (record { next = 65535 }) vlan_frame (replicate 25 7) (replicate 30 8) (record { number = 65535; length = 25 })
  -- a file that is cut within a length and within a body, with a piece of no bytes
  pub any-pieces : pieces_of (0 ∷ []) ((1 ∷ 5 ∷ 0 ∷ []) ∷ [] ∷ (2 ∷ 2 ∷ []) ∷ (3 ∷ 0 ∷ []) ∷ []) ≡ records_of (0 ∷ 1 ∷ 5 ∷ 0 ∷ 2 ∷ 2 ∷ 3 ∷ 0 ∷ [])

-- ---- calls

-- A stream that has handed up 9, a fresh one, and a free slot.
unfoldable pub three : Table
three = alone 4 3 3 ++ stream 2 vector_rule 4 3 fresh ∷ blank ∷ []

-- a frame of the fresh one before its tag is put in, and one with a group source
unfoldable pub bare_of2 : List ℕ
bare_of2 = 2 ∷ 0 ∷ 0 ∷ 0 ∷ 0 ∷ 2 ∷ 2 ∷ 0 ∷ 0 ∷ 0 ∷ 0 ∷ 9 ∷ 8 ∷ 0 ∷ []

unfoldable pub grouped : List ℕ
grouped = 2 ∷ 0 ∷ 0 ∷ 0 ∷ 0 ∷ 2 ∷ 3 ∷ 0 ∷ 0 ∷ 0 ∷ 0 ∷ 9 ∷ 0xF1 ∷ 0xC1 ∷ 0 ∷ 0 ∷ 0 ∷ 7 ∷ 8 ∷ 0 ∷ []

pub record CallEdges : Type 0 where
  pub others-stay : (j : ℕ) → (j ≡ 0) ⊎ (2 ≤ j) → at (after three (act three (from 0 2 7))) j ≡ at three j
  pub none-damaged : (j : ℕ) → damaged (at (after three (act three (from 0 2 7))) j) ≡ false
  pub halves-fit : (answer three (act three (arriving 1 (frame 2 65535) (replicate 15 9))) ≡ answers (arrived 1 65535 unranked (handed_up 14)))
      × (output three (replicate 15 9) (act three (arriving 1 (frame 2 65535) (replicate 15 9))) ≡ overlay bare_of2 (replicate 15 9))
  -- as an arrival gives them: 8, and 5 in a table of 64 slots; and as an arrival on network 1 in slot 1 writes
  pub take-room : (take_tag (frame 2 7) (replicate 13 9)).said ≡ refused 8
  pub take-untagged : (take_tag bare_of2 []).said ≡ refused 5
  pub take-writes : take_tag (frame 2 7) (replicate 15 9) ≡ record { said = answers (record { number = 7; length = 14 }); bytes = overlay bare_of2 (replicate 15 9) }
  -- refused in any table, on any network; with 14 once 1 to 5 are passed
  pub group-reaches-none : (n : ℕ) × (answer (replicate 65 blank) (act (replicate 65 blank) (arriving 2 grouped [])) ≡ refused n)
  pub group-refused : answer three (act three (arriving 1 grouped [])) ≡ refused 14
  -- the anchor stays, also with a rogue further behind
  pub anchor-stays : (decided (row_before 1 holed) 65000 1).state.anchor ≡ 9

-- ---- batches

pub record BatchEdges : Type 0 where
  pub of_one : batch_of three (record { network = 1; count = 1; frames = preceded (frame 2 7) ++ 9 ∷ []; out = replicate 17 9 })
      ≡ bundle_of_one (replicate 17 9) (result_of three (arriving 1 (frame 2 7) (replicate 15 9)))
  -- one that 8 ends, behind two frames of four
  pub eight-ends : ((i : ℕ) → i < 2 → Passes (get_or (batch_of before_cut cut).answers i none)) × EndsAt 2 4 (batch_of before_cut cut).answers
  pub splitting : InTwo 7 (packed_by after_gap (first_part 7 wrap)) (batch_of after_gap wrap) (batch_of after_gap (first_part 7 wrap))
      (batch_of (batch_of after_gap (first_part 7 wrap)).table (second_part 7 3 after_gap wrap))
  pub thirty_two : length (batch_of (replicate 65 blank) wrap).answers ≡ 32
