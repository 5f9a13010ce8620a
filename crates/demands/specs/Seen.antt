-- Document 01, "Calls and the order of checks": what the stream in one slot sees of the calls of a run, read from the
-- calls and their answers. Assumes nothing.
use Rattle.std.specs.Prelude.{ℕ, suc, ◌≡◌, Bool, true, false, ◌&&◌, not, List, [], ◌∷◌, eqb}
use Rattle.refusal.specs.Checks.{Said}
use Rattle.refusal.specs.Checks.Said.{refused, answers}
use Rattle.record.specs.declared.Stream.{Stream}
use Rattle.std.specs.Prelude.{if◌then◌else◌}
use Rattle.record.specs.Words.{yes}
use Rattle.stream.specs.Decisions.{Verdict, up, duplicate, rogue, is_up, expires}
use Rattle.calls.specs.Table.{Table, at}
use Rattle.calls.specs.Calls.{Call, arriving, linking, opening, closing, resetting, ticking, Answer, placed, done, swept, Result}
use Rattle.calls.specs.Calls as calls
use Rattle.demands.specs.Receiver.{Receiver}

-- What a stream sees of a call.
pub data Seen : Type 0 where
  arrived : (number : ℕ) → Verdict → Seen
  tick : (reset : Bool) → Seen  -- a tick, which reset this stream or not
  ended : Seen  -- it is closed, or reset by call
  nothing : Seen  -- a refused call, one for another slot, or an open, which fills a free slot

-- the verdict that an answer tells, whatever the length of what is handed up
abbrev pub told : calls.Verdict → Verdict
told (calls.handed_up length) = up
told calls.duplicate = duplicate
told calls.rogue = rogue

-- An arrival is this stream's if the answer tells its slot.
abbrev pub heard : (slot : ℕ) → Answer → Seen
heard i (calls.arrived j number x v) = if eqb j i then arrived number (told v) else nothing
heard i (placed j) = nothing
heard i done = nothing
heard i (swept streams records) = nothing

-- A tick reset a stream if take-any holds after it and did not hold before: no answer names the streams that a tick
-- reset, so this alone is read from the record, before and after. (`ResetsSeen`, below: where the contract is met it is
-- what document 01 says of the record before the tick.)
abbrev pub was_reset : (before after : Stream) → Bool
was_reset before after = not (yes before.state.any) && yes after.state.any

-- A call that was answered, by the stream in slot i of the table t; r is what it left.
unfoldable pub answered : (slot : ℕ) → Table → Call → Result → Answer → Seen
answered i t (arriving network f out) r a = heard i a
answered i t (linking network f out) r a = heard i a
answered i t (opening dest vlan rule window time) r a = nothing
answered i t (closing j) r a = if eqb j i then ended else nothing
answered i t (resetting j) r a = if eqb j i then ended else nothing
answered i t ticking r a = tick (was_reset (at t i) (at r.table i))

-- "Refused calls don't count."
unfoldable pub seen_of : (slot : ℕ) → Table → Call → Result → Said Answer → Seen
seen_of i t c r (refused n) = nothing
seen_of i t c r (answers a) = answered i t c r a

abbrev pub seen : (slot : ℕ) → Table → Call → Result → Seen
seen i t c r = seen_of i t c r r.said

-- What the stream in slot i sees of a run.
unfoldable pub log : Receiver → (slot : ℕ) → Table → List Call → List Seen
log receive i t [] = []
log receive i t (c ∷ cs) = seen i t c (receive t c) ∷ log receive i (receive t c).table cs

-- The numbers that arrived, the verdicts on them, and how many ticks passed.
unfoldable pub numbers : List Seen → List ℕ
numbers [] = []
numbers (arrived n v ∷ es) = n ∷ numbers es
numbers (tick b ∷ es) = numbers es
numbers (ended ∷ es) = numbers es
numbers (nothing ∷ es) = numbers es

unfoldable pub verdicts : List Seen → List Verdict
verdicts [] = []
verdicts (arrived n v ∷ es) = v ∷ verdicts es
verdicts (tick b ∷ es) = verdicts es
verdicts (ended ∷ es) = verdicts es
verdicts (nothing ∷ es) = verdicts es

unfoldable pub ticks : List Seen → ℕ
ticks [] = 0
ticks (arrived n v ∷ es) = ticks es
ticks (tick b ∷ es) = suc (ticks es)
ticks (ended ∷ es) = ticks es
ticks (nothing ∷ es) = ticks es

-- "Nothing of that stream is handed up and it is neither closed nor reset by call." (A tick may reset it.)
abbrev pub calm : Seen → Bool
calm (arrived n v) = not (is_up v)
calm (tick b) = true
calm ended = false
calm nothing = true

-- Neither reset, by call or by tick, nor closed.
abbrev pub lasting : Seen → Bool
lasting (arrived n v) = true
lasting (tick b) = not b
lasting ended = false
lasting nothing = true

unfoldable pub every : (Seen → Bool) → List Seen → Bool
every p [] = true
every p (e ∷ es) = p e && every p es

-- The streams that are seen to be reset by a tick are those that document 01 resets: a lawful record with one tick left.
abbrev pub ResetsSeen : Receiver → Type 0
ResetsSeen receive =
    (t : Table) (i streams records : ℕ) → (receive t ticking).said ≡ answers (swept streams records)
    → was_reset (at t i) (at (receive t ticking).table i) ≡ expires (at t i)
