-- The tick for C: how what it says is told in plain fields. Assumes nothing.
use Rattle.std.specs.Prelude.{◌≡◌}
use Rattle.refusal.specs.Checks.{Said}
use Rattle.refusal.specs.Checks.Said.{refused, answers}
use Rattle.calls.specs.Table.{Table}
use Rattle.calls.specs.Calls.{ticking, Answer, arrived, placed, done, swept, act, answer}
use Rattle.port_tick.specs.declared.TickAnswer.{TickAnswer}

-- A tick tells how many streams it reset and how many records in use are damaged. (The last three are answers of other calls,
-- which a tick never has.)
abbrev pub tell_swept : Said Answer → TickAnswer
tell_swept (refused n) = record { resets = 0; damaged = 0; refusal = n }
tell_swept (answers (swept streams records)) = record { resets = streams; damaged = records; refusal = 0 }
tell_swept (answers (arrived slot number x v)) = record { resets = 0; damaged = 0; refusal = 0 }
tell_swept (answers (placed slot)) = record { resets = 0; damaged = 0; refusal = 0 }
tell_swept (answers done) = record { resets = 0; damaged = 0; refusal = 0 }

-- Nothing is lost: ticks that are told alike said the same.
abbrev pub TickTold : Type 0
TickTold =
    (t u : Table) → tell_swept (answer t (act t ticking)) ≡ tell_swept (answer u (act u ticking))
    → answer t (act t ticking) ≡ answer u (act u ticking)
