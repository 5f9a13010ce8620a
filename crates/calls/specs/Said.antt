-- Document 01, "Which form goes where": what each case of an answer enum says, the paper's number or its values.
-- Assumes nothing.
use Rattle.std.specs.Prelude.{ℕ, Result, Ok, Err}
use Rattle.refusal.specs.Checks.{Said}
use Rattle.refusal.specs.Checks.Said.{refused, answers}
use Rattle.refusal.specs.Numbers.{number_of}
use Rattle.refusal.specs.declared.Refusal.{Refusal}
use Rattle.calls.specs.Calls as calls
use Rattle.calls.specs.declared.Verdict.{Verdict}
use Rattle.calls.specs.declared.Verdict.TheVariants as verdict
use Rattle.calls.specs.declared.Arrived.{Arrived}
use Rattle.calls.specs.declared.Sums.{Sums}

abbrev pub said_verdict : Verdict → calls.Verdict
said_verdict (verdict.HandedUp l) = calls.handed_up l
said_verdict verdict.Duplicate = calls.duplicate
said_verdict verdict.Rogue = calls.rogue

abbrev pub said_arrival : Result Arrived Refusal → Said calls.Answer
said_arrival (Err refusal) = refused (number_of refusal)
said_arrival (Ok a) = answers (calls.arrived a.slot a.number a.rank (said_verdict a.verdict))

abbrev pub said_opened : Result ℕ Refusal → Said calls.Answer
said_opened (Err refusal) = refused (number_of refusal)
said_opened (Ok slot) = answers (calls.placed slot)

abbrev pub said_done : Result Unit Refusal → Said calls.Answer
said_done (Err refusal) = refused (number_of refusal)
said_done (Ok u) = answers calls.done

abbrev pub said_swept : Result Sums Refusal → Said calls.Answer
said_swept (Err refusal) = refused (number_of refusal)
said_swept (Ok sums) = answers (calls.swept sums.resets sums.damaged)
