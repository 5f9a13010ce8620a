-- `receiver::sweep`: the records in front had their tick, and their sums are counted.
use Rattle.std.proofs.Common.{◌≡◌, ◌++◌, take, drop}
use Rattle.calls.specs.Ticks.{sums, ticked_all}
use Rattle.receiver.proofs.sweep.Given as goal

abbrev pub invariant-loop-s : goal.invariant-loop-s
invariant-loop-s l = record {
  counted : l.sums ≡ sums (take l.s-index l.initial.t);
  ticked : l.t ≡ ticked_all (take l.s-index l.initial.t) ++ drop l.s-index l.initial.t;
}
