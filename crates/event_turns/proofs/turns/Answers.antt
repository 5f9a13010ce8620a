-- `event_turns::turns` meets its contract: its loop goes by turns, each with the answer to go on.
use Rattle.std.proofs.Common.{◌≡◌, ◌+◌, [], refl, rules, SFits, w32}
use Rattle.std.proofs.Math.Facts.{to_z-of_z}
use Rattle.event_turns.specs.declared.Stand.TheVariants.{Going}
use Rattle.event_turns.specs.Turns.{here}
use Rattle.event_turns.proofs.Running.{gone-on}
use Rattle.event_turns.proofs.turns.Goals as goal

pub loop-turn-init : goal.loop-turn-init
loop-turn-init g c = record { in_order = c.requires.0; within = c.requires.1; gone = record { read = []; written = []; goes = here } }

pub returns-then-ne : goal.returns-then-ne
returns-then-ne g c =
    let t = c.go_on-t in
    let onto : SFits w32 c.args.ends.onto = search rules in
    let n : (t.result.stand ≡ Going → ⊥) = search rules in
    record {
      turns = c.loop-turn._turn + 1;
      stand = t.result.stand;
      held = t.result.held;
      gone = gone-on c.loop-turn.invariant.gone t.ensures.turned _ refl;
      stops = rw (to_z-of_z onto) at c.finish.ensures;
      all = λ e. absurd (n e);
    }

pub loop-turn-preserved : goal.loop-turn-preserved
loop-turn-preserved g c =
    let t = c.go_on-t in
    let e : t.result.stand ≡ Going = search rules in
    record {
      in_order = t.ensures.at_le_to.0;
      within = t.ensures.at_le_to.1;
      gone = gone-on c.loop-turn.invariant.gone t.ensures.turned _ e;
    }
