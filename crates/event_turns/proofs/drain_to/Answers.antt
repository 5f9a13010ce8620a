-- `event_turns::drain_to` meets its contract: the place stays within the bytes that are held.
use Rattle.std.proofs.Common.{ℕ, arith}
use Rattle.std.proofs.lemmas.List.{length-replicate}
use Rattle.record.specs.Sizes.{frame_most}
use Rattle.event_run.proofs.Dues.{drains-keep}
use Rattle.event_turns.proofs.Turning.{drained-to}
use Rattle.event_turns.proofs.drain_to.Goals as goal

pub returns-clause-drained : goal.returns-clause-drained
returns-clause-drained c = drains-keep _ _ _ _ _ _ _ _ _ c.drain8.auto.lines c.drain8.ensures

pub returns-clause-at_le_to : goal.returns-clause-at_le_to
returns-clause-at_le_to c =
    drained-to c.args.h.to c.args.input.now (c.requires.0, c.requires.1, omega arith, length-replicate {A = ℕ} frame_most 0)
    (drains-keep _ _ _ _ _ _ _ _ _ c.drain8.auto.lines c.drain8.ensures)
