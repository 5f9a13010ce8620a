-- `event_turns::turns`: the loop has gone by so many turns, each with the answer to go on.
use Rattle.std.proofs.Common.{◌≤◌, length}
use Rattle.event_turns.specs.declared.Stand.TheVariants.{Going}
use Rattle.event_turns.specs.Turns.{Gone}
use Rattle.event_turns.proofs.turns.Given as goal

abbrev pub invariant-loop-turn : goal.invariant-loop-turn
invariant-loop-turn g l = record {
  in_order : l.held.at ≤ l.held.to;
  within : l.held.to ≤ length l.buffers.input;
  gone : Gone l.ends.from l.ends.onto l.fn.h l.fn.buffers.input l._turn Going l.held l.buffers.input;
}
