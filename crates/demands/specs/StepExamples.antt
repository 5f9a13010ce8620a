-- Against vacuity: document 01's run at the wrap as one batch, of the machine that the definitions give. Assumes nothing.
use Rattle.std.specs.Prelude.{ℕ, ◌≡◌, true, false, take, drop, replicate}
use Rattle.std.proofs.Math.Option.{Option, none, some}
use mathlib.Core.List.{List, [], ◌∷◌, ◌++◌, flat_map}
use Rattle.refusal.specs.Checks.{Said}
use Rattle.refusal.specs.Checks.Said.{refused, answers}
use Rattle.refusal.specs.Numbers.{SHORT, ROOM}
use Rattle.record.specs.Sizes.{vector_rule}
use Rattle.stream.specs.Decisions.{up, duplicate, rogue}
use Rattle.frame.specs.Frame.{unranked}
use Rattle.calls.specs.Table.{Table}
use Rattle.calls.specs.Calls.{Answer, arriving, opening, closing, ticking}
use Rattle.calls.specs.Calls as calls
use Rattle.batch.specs.Batch.{Batch, batch_of}
use Rattle.batch.specs.Laws.{preceded}
use Rattle.demands.specs.Receiver.{the_receiver}
use Rattle.demands.specs.Seen.{arrived, tick, nothing, verdicts}
use Rattle.demands.specs.Demand3.{Premises}
use Rattle.demands.specs.Steps.{Step, single, batch, the_machine, ran_steps, read_as, log_steps}
use Rattle.demands.specs.Examples.{address, frame, start, indices}

-- A batch with a rogue, a duplicate, a frame that is a byte too long for the room, and one that is not; and a byte behind them.
unfoldable pub cut : Batch
cut = record {
  network = 0;
  count = 4;
  frames = flat_map preceded (frame 1 5000 ∷ frame 1 9 ∷ (frame 1 10 ++ (0 ∷ [])) ∷ frame 1 10 ∷ []) ++ (7 ∷ []);
  out = replicate 16 9;
}

-- The gap of `Examples`, with its arrivals in two batches.
unfoldable pub gap_steps : List Step
gap_steps =
    single ticking
    ∷ batch cut
    ∷ single ticking
    ∷ single (opening (address 2) 0 vector_rule 64 1)
    ∷ single (closing 9)
    ∷ batch (record { network = 1; count = 1; frames = preceded (frame 3 77); out = replicate 16 9 })
    ∷ single ticking
    ∷ []

-- The numbers of document 01's run at the wrap, steps a to i, in one batch, with an empty frame among them, which is
-- refused in its place. The output has just room enough for the five that are handed up, and one byte more.
unfoldable pub wrap_frames : List (List ℕ)
wrap_frames =
    frame 1 65534
    ∷ frame 1 65535
    ∷ frame 1 65534
    ∷ frame 1 1
    ∷ []
    ∷ frame 1 0
    ∷ frame 1 5
    ∷ frame 1 65533
    ∷ frame 1 65534
    ∷ frame 1 4
    ∷ []

unfoldable pub wrap : Batch
wrap = record { network = 0; count = 10; frames = flat_map preceded wrap_frames; out = replicate 81 9 }

unfoldable pub later_steps : List Step
later_steps = batch wrap ∷ single ticking ∷ []

-- the tables that the two batches meet
abbrev pub before_cut : Table
before_cut = ran_steps the_machine start (single ticking ∷ [])

abbrev pub after_gap : Table
after_gap = ran_steps the_machine start gap_steps

-- the answer on a frame of the stream in slot 0, and the bytes of `frame 1 n` without its tag
abbrev pub of0 : (number : ℕ) → calls.Verdict → Option (Said Answer)
of0 number v = some (answers (calls.arrived 0 number unranked v))

unfoldable pub bare : List ℕ
bare = take 12 (frame 1 0) ++ drop 18 (frame 1 0)

pub record WrapInOne : Type 0 where
  -- The premises of demand 3 are met, and the verdicts are those of the run at the wrap.
  pub premises : Premises the_receiver start 0 (read_as the_machine start gap_steps) (read_as the_machine after_gap later_steps) indices
  pub seen : log_steps the_machine 0 start gap_steps
      ≡ tick false ∷ arrived 5000 rogue ∷ arrived 9 duplicate ∷ nothing ∷ tick true ∷ nothing ∷ nothing ∷ nothing ∷ tick false ∷ []
  pub given : verdicts (log_steps the_machine 0 after_gap later_steps) ≡ up ∷ up ∷ duplicate ∷ up ∷ up ∷ rogue ∷ rogue ∷ duplicate ∷ up ∷ []
  -- The first batch ends at its third frame, and its fourth is no call: it would be handed up.
  pub cut-said : (batch_of before_cut cut).said ≡ answers 2
  pub cut-answers : (batch_of before_cut cut).answers ≡ of0 5000 calls.rogue ∷ of0 9 calls.duplicate ∷ some (refused ROOM) ∷ replicate 29 none
  pub cut-output : (batch_of before_cut cut).output ≡ replicate 16 9
  pub fourth : (the_receiver (batch_of before_cut cut).table (arriving 0 (frame 1 10) (replicate 14 9))).said ≡ answers (calls.arrived 0 10 unranked (calls.handed_up 14))
  -- The last one tells the run at the wrap.
  pub said : (batch_of after_gap wrap).said ≡ answers 10
  pub answers : (batch_of after_gap wrap).answers
      ≡ of0 65534 (calls.handed_up 14)
      ∷ of0 65535 (calls.handed_up 14)
      ∷ of0 65534 calls.duplicate
      ∷ of0 1 (calls.handed_up 14)
      ∷ some (refused SHORT)
      ∷ of0 0 (calls.handed_up 14)
      ∷ of0 5 calls.rogue
      ∷ of0 65533 calls.rogue
      ∷ of0 65534 calls.duplicate
      ∷ of0 4 (calls.handed_up 14)
      ∷ replicate 22 none
  pub output : (batch_of after_gap wrap).output ≡ flat_map preceded (replicate 5 bare) ++ (9 ∷ [])
