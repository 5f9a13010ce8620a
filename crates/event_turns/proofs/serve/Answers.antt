-- `event_turns::serve` meets its contract: behind the version byte there is a first record, or none.
use Rattle.std.proofs.Common.{◌≡◌, ◌≤◌, true, false, length, take, sym, ◌∙◌, arith, rules, length-take, w32, SFits}
use Rattle.std.specs.Prelude.{is_ok}
use Rattle.std.proofs.Math.Facts.{to_z-of_z}
use Rattle.std.proofs.Math.Seq.{length-take-le}
use Rattle.event_turns.specs.Turns.{failed, version, goes}
use Rattle.event_turns.proofs.Running.{starts-some, filled-as}
use Rattle.event_turns.proofs.serve.Goals as goal

pub returns-then-is_err : goal.returns-then-is_err
returns-then-is_err g c =
    let from : SFits w32 c.args.ends.from = search rules in
    let n : is_ok c.fill-p.result.got ≡ false = search rules in
    failed (filled-as (to_z-of_z from) c.fill-p.ensures.filled) n

pub returns-then-not-versioned : goal.returns-then-not-versioned
returns-then-not-versioned g c =
    let from : SFits w32 c.args.ends.from = search rules in
    let onto : SFits w32 c.args.ends.onto = search rules in
    let n : is_ok c.fill-p.result.got ≡ true = search rules in
    let o : c.versioned.result ≡ false = search rules in
    let f = c.hand_over in
    let v = c.say_version-used in
    let w : f.result.wrote ≡ v.result = f.ensures.1 ∙ length-take-le v.result v.new.lines (omega (arith, v.array_long, v.ensures)) in
    version {lines = v.new.lines} {last = f.result} (filled-as (to_z-of_z from) c.fill-p.ensures.filled) n (sym c.versioned.ensures ∙ o)
    (record { there = f.ensures.0 ∙ to_z-of_z onto; front = rw (w, v.ensures.0) v.ensures.1 })

pub turns-requires : goal.turns-requires
turns-requires g c =
    let f = c.fill-p in
    let o : c.versioned.result ≡ true = search rules in
    let n : 1 ≤ length (take f.result.to f.new.input) = starts-some _ (sym c.versioned.ensures ∙ o) in
    rw c.start.ensures (omega (arith, length-take f.result.to f.new.input), f.ensures.filled.room)

pub returns : goal.returns
returns g c =
    let from : SFits w32 c.args.ends.from = search rules in
    let o : c.versioned.result ≡ true = search rules in
    goes (filled-as (to_z-of_z from) c.fill-p.ensures.filled) (sym c.versioned.ensures ∙ o) (rw c.start.ensures at c.turns.ensures)
