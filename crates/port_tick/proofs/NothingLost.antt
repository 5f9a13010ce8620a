-- Nothing is lost in what a tick tells: what it said can be read back. Assumes nothing.
use mathlib.Core.Path.{◌≡◌, refl}
use lib.Dec.{ltb}
use lib.ListN.{length}
use Rattle.refusal.specs.Checks.{Said}
use Rattle.refusal.specs.Checks.Said.{refused}
use Rattle.refusal.specs.Numbers.{TABLE}
use Rattle.record.specs.Sizes.{slots_most}
use Rattle.calls.specs.Table.{Table}
use Rattle.calls.specs.Calls.{ticking, Act, refuse, arrive, opens, closes, resets, ticks, Answer, swept, checked, act, answer}
use Rattle.port.proofs.NothingLost.{never, unless, either, read-refused, alike}
use Rattle.port_tick.specs.declared.TickAnswer.{TickAnswer}
use Rattle.port_tick.specs.Tick.{tell_swept, TickTold}

abbrev read_swept : TickAnswer → Said Answer
read_swept a = unless a.refusal (swept a.resets a.damaged)

-- what a tick may come to, beside a refusal
abbrev Ticks : Act → Type 0
Ticks (refuse n) = Unit
Ticks (arrive i number network x bare) = ⊥
Ticks (opens i s) = ⊥
Ticks (closes i) = ⊥
Ticks (resets i) = ⊥
Ticks ticks = Unit

ticked : (t : Table) → Ticks (act t ticking)
unfolding act checked
ticked t = either Ticks (ltb slots_most (length t)) TABLE ticks tt tt

read-swept : (t : Table) (a : Act) → Ticks a → (answer t a ≡ refused 0 → ⊥) → read_swept (tell_swept (answer t a)) ≡ answer t a
unfolding answer
read-swept t (refuse n) k p = read-refused n _ p
read-swept t (arrive i number network x bare) k p = absurd k
read-swept t (opens i s) k p = absurd k
read-swept t (closes i) k p = absurd k
read-swept t (resets i) k p = absurd k
read-swept t ticks k p = refl

pub tick-told : TickTold
tick-told t u = alike tell_swept read_swept _ _ (read-swept t _ (ticked t) (never t _)) (read-swept u _ (ticked u) (never u _))
