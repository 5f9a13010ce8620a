-- `batch::begin` meets its contract: its tests are those of `begun`.
use Rattle.std.proofs.Common.{refl, sym, ◌∙◌}
use Rattle.batch.proofs.Bodies.{no-network, no-count, no_lengths, all-passed}
use Rattle.batch.proofs.begin.Goals as goal

pub returns-then-network-gt1 : goal.returns-then-network-gt1
returns-then-network-gt1 c = no-network 0 _ _ _ refl c.if-network-gt1.true

pub returns-then-count-gt-FRAMES_MOST : goal.returns-then-count-gt-FRAMES_MOST
returns-then-count-gt-FRAMES_MOST c = no-count 0 _ _ _ refl c.if-network-gt1.false c.if-count-gt-FRAMES_MOST.true

pub returns-then-runs_past : goal.returns-then-runs_past
returns-then-runs_past c =
    no_lengths 0 _ _ _ refl c.if-network-gt1.false c.if-count-gt-FRAMES_MOST.false (sym c.runs_past.ensures ∙ c.if-runs_past.true)

pub returns : goal.returns
returns c = all-passed 0 _ _ _ refl c.if-network-gt1.false c.if-count-gt-FRAMES_MOST.false (sym c.runs_past.ensures ∙ c.if-runs_past.false)
