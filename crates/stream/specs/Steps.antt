-- Document 01, "Decisions": the decision in the two steps that the code takes, and the answer of a tick. The first step
-- says what an arrival is to a record and reads no counter; the second gives the record after it. Assumes nothing.
use Rattle.std.specs.Prelude.{ℕ, Bool, false, not, ◌&&◌, ◌==◌, nat_le, nat_lt, Option, Some, None}
use Rattle.std.specs.Bool.{beq}
use Rattle.std.proofs.Math.Option as maybe
use Rattle.std.specs.Prelude.{if◌then◌else◌}
use Rattle.record.specs.Words.{yes}
use Rattle.record.specs.Sizes.{window_most, vector_rule}
use Rattle.stream.specs.History.{History, is_empty, bit, within, marked, marked_first}
use Rattle.stream.specs.Record.{Counts, Stream, anchor_fresh, linked, settled, placed, lawful, damaged}
use Rattle.stream.specs.Decisions.{Case, first, far, again, late, next, moved, case_of, Verdict, up, duplicate, rogue, verdict_of, handed_up, state_after, out_of_order, losses, counted, tally, with, expires, ticked}
pub use Rattle.stream.specs.declared.Marks.{Marks}
pub use Rattle.stream.specs.declared.Weighed.{Weighed}
pub use Rattle.stream.specs.declared.Weighed.TheVariants.{HandedUp, Duplicate, Rogue}
pub use Rattle.stream.specs.declared.Ticked.{Ticked}

-- When a record is lawful, in the two halves that the code asks for (`Halves`): all but the history and n, and these.
unfoldable pub plain : Stream → Bool
plain s =
    yes s.used
    && settled s
    && nat_le s.state.remaining s.time
    && beq (s.state.remaining == 0) (yes s.state.any)
    && (if yes s.state.any then (s.state.anchor == anchor_fresh) else linked s.rule s.state.anchor)

unfoldable pub right : (rule window any n : ℕ) → History → Bool
right rule window any n history =
    if yes any then (n == 0) && is_empty history
    else if rule == vector_rule then bit 0 history && within window history && placed window n history
    else (n == 0) && is_empty history

-- What an arrival that is handed up leaves. It tells how many places the history moves up and which bit is then set, and not
-- the history itself.
abbrev pub places_of : Case → ℕ
places_of first = 0
places_of far = 0
places_of again = 0
places_of (late k) = 0
places_of (next d) = d
places_of (moved in_order) = 0

abbrev pub bit_in : Case → ℕ
bit_in first = 0
bit_in far = 0
bit_in again = 0
bit_in (late k) = k
bit_in (next d) = 0
bit_in (moved in_order) = 0

abbrev pub marks_of : Stream → (number : ℕ) → Case → Marks
marks_of s number c = record {
  lost = losses s c;
  places = places_of c;
  bit = bit_in c;
  anchor = (state_after s number c).anchor;
  early = (state_after s number c).early;
  disorder = out_of_order c;
}

-- The history after marks. That of a match record stays, and so does one that the marks do not fit.
unfoldable pub history_after : (rule window : ℕ) → Marks → History → History
history_after rule window m history =
    if rule == vector_rule && nat_lt m.places window && nat_le window window_most && nat_lt m.bit window_most
    then marked window m.places m.bit history
    else history

-- The same by the first word alone. A window of more than a word does not fit.
unfoldable pub short_after : (rule window : ℕ) → Marks → History → History
short_after rule window m history =
    if rule == vector_rule && nat_lt m.places window && nat_le window 64 && nat_lt m.bit 64
    then marked_first window m.places m.bit history
    else history

-- The counters after an arrival on the network, but for those of its verdict.
abbrev pub arrived : Counts → (network : ℕ) → Counts
arrived c network = record {
  arrivals0 = counted (network == 0) c.arrivals0;
  arrivals1 = counted (not (network == 0)) c.arrivals1;
  passed = c.passed;
  discarded = c.discarded;
  rogue = c.rogue;
  disorder = c.disorder;
  lost = c.lost;
  resets = c.resets;
}

-- A verdict as the first step answers it.
abbrev pub answer : Verdict → Marks → Weighed
answer up m = HandedUp m
answer duplicate m = Duplicate
answer rogue m = Rogue

-- The first step, for a case; and for a record: one that is not lawful, be it damaged or free, has no verdict.
unfoldable pub weighed_as : Stream → (number : ℕ) → Case → Weighed
weighed_as s number c = answer (verdict_of c) (marks_of s number c)

unfoldable pub weighed : Stream → (number : ℕ) → Option Weighed
weighed s number = if lawful s then Some (weighed_as s number (case_of s number)) else None

-- What each of its answers says in the paper's words: the verdict, or that there is none.
abbrev pub said : Option Weighed → maybe.Option Verdict
said None = maybe.none
said (Some (HandedUp m)) = maybe.some up
said (Some Duplicate) = maybe.some duplicate
said (Some Rogue) = maybe.some rogue

-- The record after one that is handed up, by the history after it.
abbrev pub record_up : Stream → (network : ℕ) → Marks → History → Stream
record_up s network m history =
    with s (handed_up s m.anchor m.early history) (tally s.counts network up m.disorder m.lost)

-- The second step. Without a verdict the record stays as it is.
unfoldable pub record_after : Stream → (network : ℕ) → Option Weighed → Stream
record_after s network None = s
record_after s network (Some (HandedUp m)) =
    record_up s network m (history_after s.rule s.window m s.state.history)
record_after s network (Some Duplicate) = with s s.state (tally s.counts network duplicate false 0)
record_after s network (Some Rogue) = with s s.state (tally s.counts network rogue false 0)

-- The same of one that is handed up, by the first word of the history alone (`ShortStep`).
unfoldable pub record_short : Stream → (network : ℕ) → Marks → Stream
record_short s network m = record_up s network m (short_after s.rule s.window m s.state.history)

-- A tick: the record after it, whether the stream was reset, and whether the record is damaged.
unfoldable pub tick_of : Stream → Ticked
tick_of s = record { stream = ticked s; reset = expires s; damaged = damaged s }
