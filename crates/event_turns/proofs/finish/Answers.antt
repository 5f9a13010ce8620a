-- `event_turns::finish` meets its contract: at the end of the input there is room for the last line.
use Rattle.std.proofs.Common.{◌≡◌, refl, ◌∙◌, arith}
use Rattle.std.proofs.Math.Seq.{length-take-le}
use Rattle.std.proofs.Math.Facts.{to_z-of_z}
use Rattle.event_turns.specs.Turns.{Stops}
use Rattle.event_turns.proofs.Turning.{last_written, last-room}
use Rattle.event_turns.proofs.finish.Goals as goal

pub returns-in-Ended : goal.returns-in-Ended
unfolding Stops
returns-in-Ended c =
    let f = c.hand_over in
    let s = c.say_last-used in
    let n : f.result.wrote ≡ s.result = f.ensures.1 ∙ length-take-le s.result s.new.buf (last-room s.ensures s.auto.buf (omega arith)) in
    rw c.in-Ended.is (f.result, (refl, record { there = f.ensures.0 ∙ to_z-of_z c.ranges.onto; front = rw n (last_written _ s.ensures (omega arith)) }))
