-- `event_turns::go_on` meets its contract: what is due stays due.
use Rattle.std.proofs.Common.{◌≡◌, ℕ, ℤ, true, false, refl, sym, ap, ◌∙◌, arith, rules, w32, to_z, of_z, SFits}
use Rattle.std.proofs.lemmas.List.{length-replicate}
use Rattle.record.specs.Sizes.{frame_most}
use Rattle.std.proofs.Math.Facts.{to_z-of_z}
use Rattle.std.proofs.Math.Seq.{length-take-le}
use Rattle.event_turns.proofs.Answers.{whole-goes}
use Rattle.event_turns.proofs.Turning.{stay-turned, read-turned}
use Rattle.event_turns.proofs.go_on.Goals as goal

pub returns-then-not-sent-clause-turned : goal.returns-then-not-sent-clause-turned
returns-then-not-sent-clause-turned g c =
    let from : SFits w32 c.args.ends.from = search rules in
    let onto : SFits w32 c.args.ends.onto = search rules in
    let f = c.hand_over-sent in
    let d = c.drain_to in
    let n : f.result.wrote ≡ d.result.place.used = f.ensures.1 ∙ length-take-le _ _ d.ensures.at_le_to.1 in
    let o : f.result.out ≡ false = search rules in
    rw c.stay.ensures
    (stay-turned _ _ _ _ _ _ _ _ (d.ensures.drained.kept (length-replicate {A = ℕ} frame_most 0)) f.result (f.ensures.0 ∙ to_z-of_z onto, n) d.ensures.at_le_to.0 d.ensures.drained.none
    (omega (arith, d.ensures.room)) _ (to_z-of_z from) _ (rw o refl) (λ e. cc))

pub returns-then-whole-clause-turned : goal.returns-then-whole-clause-turned
returns-then-whole-clause-turned g c =
    let from : SFits w32 c.args.ends.from = search rules in
    let onto : SFits w32 c.args.ends.onto = search rules in
    let f = c.hand_over-sent in
    let d = c.drain_to in
    let n : f.result.wrote ≡ d.result.place.used = f.ensures.1 ∙ length-take-le _ _ d.ensures.at_le_to.1 in
    let o : f.result.out ≡ true = search rules in
    let w = sym c.whole.ensures.0 ∙ c.if-whole.true in
    rw c.stay-then-whole.ensures
    (stay-turned _ _ _ _ _ _ _ _ (d.ensures.drained.kept (length-replicate {A = ℕ} frame_most 0)) f.result (f.ensures.0 ∙ to_z-of_z onto, n) d.ensures.at_le_to.0 d.ensures.drained.none
    (omega (arith, d.ensures.room)) _ (to_z-of_z from) _ (rw (o, w) c.after_whole.ensures)
    (λ e. whole-goes d.result.place.number (sym c.after_whole.ensures ∙ e)))

pub returns-clause-turned : goal.returns-clause-turned
returns-clause-turned g c =
    let from : SFits w32 c.args.ends.from = search rules in
    let onto : SFits w32 c.args.ends.onto = search rules in
    let p = c.fill-p in
    let s = c.shift-left in
    let f = c.hand_over-sent in
    let d = c.drain_to in
    let n : f.result.wrote ≡ d.result.place.used = f.ensures.1 ∙ length-take-le _ _ d.ensures.at_le_to.1 in
    let o : f.result.out ≡ true = search rules in
    read-turned _ _ _ _ _ _ _ _ (d.ensures.drained.kept (length-replicate {A = ℕ} frame_most 0)) f.result (f.ensures.0 ∙ to_z-of_z onto, n) d.ensures.at_le_to.0 d.ensures.drained.none
    (omega (arith, d.ensures.room)) p.new.input s.result s.ensures.0 c.requires.1 (p.ensures.filled.kept ∙ s.ensures.1) _ _ _
    (ap (λ (z : ℤ). to_z w32 (of_z w32 z)) (p.ensures.filled.whence ∙ to_z-of_z from) ∙ to_z-of_z from)
    p.ensures.filled.to o (sym c.if-whole.false ∙ c.whole.ensures.0) _ c.after_read.ensures
