-- An arrival's answer in plain fields: for C, and for an array of answers. Assumes nothing.
use Rattle.std.specs.Prelude.{ℕ}
use Rattle.refusal.specs.Checks.{Said}
use Rattle.refusal.specs.Checks.Said.{refused, answers}
use Rattle.frame.specs.Frame.{unranked}
use Rattle.frame.specs.declared.Rank.{Rank}
use Rattle.calls.specs.Calls.{Answer, Verdict, arrived, placed, done, swept, handed_up, duplicate, rogue}
use Rattle.calls.specs.declared.ArrivalAnswer.{ArrivalAnswer}

-- An arrival carries the slot, the number and one of three verdicts, 1 handed up with its length, 2 duplicate, 3 rogue; and, with
-- each of them, the priority and whether a VLAN tag was there (order 11).
abbrev pub tell_verdict : (slot number : ℕ) → Rank → Verdict → ArrivalAnswer
tell_verdict slot number rank (handed_up l) = record { slot = slot; length = l; number = number; verdict = 1; refusal = 0; rank = rank }
tell_verdict slot number rank duplicate = record { slot = slot; length = 0; number = number; verdict = 2; refusal = 0; rank = rank }
tell_verdict slot number rank rogue = record { slot = slot; length = 0; number = number; verdict = 3; refusal = 0; rank = rank }

-- all fields 0 but the refusal's number
abbrev pub no_arrival : (refusal : ℕ) → ArrivalAnswer
no_arrival n = record { slot = 0; length = 0; number = 0; verdict = 0; refusal = n; rank = unranked }

-- (The last three are answers of other calls, which an arrival never has.)
abbrev pub tell_arrival : Said Answer → ArrivalAnswer
tell_arrival (refused n) = no_arrival n
tell_arrival (answers (arrived slot number rank v)) = tell_verdict slot number rank v
tell_arrival (answers (placed slot)) = no_arrival 0
tell_arrival (answers done) = no_arrival 0
tell_arrival (answers (swept streams records)) = no_arrival 0
