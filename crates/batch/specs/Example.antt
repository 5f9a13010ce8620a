-- Document 02, order 3: batches on the table of the worked example, which has one stream. They also show that the premises of the
-- laws can be met. Assumes nothing.
use Rattle.std.specs.Prelude.{ℕ, ◌≡◌, List, [], ◌∷◌, ◌++◌, replicate}
use Rattle.std.proofs.Math.Option.{none, some}
use Rattle.refusal.specs.Checks.Said.{refused, answers}
use Rattle.refusal.specs.Numbers.{TABLE, NETWORK, LONG, SHORT, UNTAGGED, UNKNOWN, ROOM, BATCH}
use Rattle.frame.specs.Frame.{untagged, unranked}
use Rattle.calls.specs.Table.{blank}
use Rattle.calls.specs.Calls.{arrived, handed_up, duplicate}
use Rattle.calls.specs.Example.{filled, frame, sent_to}
use Rattle.batch.specs.Batch.{Batch, batch_of}
use Rattle.batch.specs.Laws.{preceded, first_part, second_part}

-- the frame, the same again, one without a tag, one for no stream, and a byte more
abbrev pub burst : List ℕ
burst = preceded frame ++ preceded frame ++ preceded (untagged frame) ++ preceded (sent_to 0x04) ++ (0xAA ∷ [])

abbrev pub burst_of : (network count : ℕ) (out : List ℕ) → Batch
burst_of network count out = record { network = network; count = count; frames = burst; out = out }

abbrev pub burst_into : (out : List ℕ) → Batch
burst_into out = burst_of 0 4 out

-- what is packed: 000E 020000000001 020000000002 0800
abbrev pub packed_frame : List ℕ
packed_frame = 0 ∷ 14 ∷ untagged frame

-- All four are reached: only the first adds to the output.
abbrev pub FourReached : Type 0
FourReached =
    ((batch_of filled (burst_into (replicate 40 0))).said ≡ answers 4)
    × ((batch_of filled (burst_into (replicate 40 0))).answers
    ≡ some (answers (arrived 0 7 unranked (handed_up 14))) ∷ some (answers (arrived 0 7 unranked duplicate)) ∷ some (refused UNTAGGED) ∷ some (refused UNKNOWN) ∷ replicate 28 none)
    × ((batch_of filled (burst_into (replicate 40 0))).output ≡ packed_frame ++ replicate 24 0)

-- With room for the first only, the duplicate ends the call with 8: one frame came before it, and two are not reached.
abbrev pub EndsWithRoom : Type 0
EndsWithRoom =
    ((batch_of filled (burst_into (replicate 16 0))).said ≡ answers 1)
    × ((batch_of filled (burst_into (replicate 16 0))).answers ≡ some (answers (arrived 0 7 unranked (handed_up 14))) ∷ some (refused ROOM) ∷ replicate 30 none)
    × ((batch_of filled (burst_into (replicate 16 0))).output ≡ packed_frame)

-- Into no output at all: the call goes on past 5, 6, 4 (a length of 0) and 3 (one of 2001), and ends with 8 at the first frame
-- that gets as far as the room. Table and output are as they were.
abbrev pub into_none : Batch
into_none = record {
  network = 0;
  count = 6;
  frames = preceded (untagged frame) ++ preceded (sent_to 0x04) ++ preceded [] ++ preceded (replicate 2001 0) ++ preceded frame ++ preceded frame;
  out = [];
}

abbrev pub NoRoom : Type 0
NoRoom =
    ((batch_of filled into_none).said ≡ answers 4)
    × ((batch_of filled into_none).answers
    ≡ some (refused UNTAGGED) ∷ some (refused UNKNOWN) ∷ some (refused SHORT) ∷ some (refused LONG) ∷ some (refused ROOM) ∷ replicate 27 none)
    × ((batch_of filled into_none).table ≡ filled)
    × ((batch_of filled into_none).output ≡ [])

-- The premises of `Splitting` are met by two frames and two.
abbrev pub SplittingMet : Type 0
SplittingMet =
    ((batch_of filled (burst_into (replicate 40 0))).said ≡ answers 4)
    × ((batch_of filled (first_part 2 (burst_into (replicate 40 0)))).said ≡ answers 2)
    × ((batch_of (batch_of filled (first_part 2 (burst_into (replicate 40 0)))).table (second_part 2 2 filled (burst_into (replicate 40 0)))).said ≡ answers 2)

-- A count of 0 is good. The fifth length is cut short, and 33 is above 32; 1 comes first, and then 2.
abbrev pub CountCases : Type 0
CountCases =
    ((batch_of filled (burst_of 0 0 [])).said ≡ answers 0)
    × ((batch_of filled (burst_of 0 5 (replicate 40 0))).said ≡ refused BATCH)
    × ((batch_of filled (burst_of 0 33 [])).said ≡ refused BATCH)
    × ((batch_of filled (burst_of 2 33 [])).said ≡ refused NETWORK)
    × ((batch_of (replicate 65 blank) (burst_of 2 33 [])).said ≡ refused TABLE)
