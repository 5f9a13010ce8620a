-- Document 01, "Decisions", with document 02, order 4: the decision on one record, and what a tick does to one. Assumes nothing.
use Rattle.std.specs.Prelude.{ℕ, ◌+◌, ◌-◌, ◌%◌, ◌^◌, Bool, true, false, not, ◌&&◌, ℤ, pos, neg_ℤ, ◌==◌, nat_eq, nat_le, nat_lt}
use Rattle.std.specs.Prelude.{if◌then◌else◌}
use Rattle.record.specs.Words.{yes}
use Rattle.record.specs.Sizes.{vector_rule, link_rule}
use Rattle.stream.specs.History.{History, empty, bit, single, set_bit, leaving, advance}
use Rattle.stream.specs.Record.{State, Counts, Stream, fresh, lawful}

-- The difference d = number - anchor, taken modulo 65536 and read as signed, from -32768 to 32767: `ahead d` is d from 1
-- to 32767, and `behind k` is d = -k from 0 to -32768.
pub data Signed : Type 0 where
  ahead behind : ℕ → Signed

-- the signed reading of a number below 65536
unfoldable pub signed : ℕ → Signed
signed w =
    if w == 0 then behind 0
    else if nat_lt w 32768 then ahead w
    else behind (65536 - w)

unfoldable pub difference : (number anchor : ℕ) → Signed
difference number anchor = signed ((number + 65536 - anchor) % 65536)

-- the integer that it is
abbrev pub as_int : Signed → ℤ
as_int (ahead d) = pos d
as_int (behind k) = neg_ℤ (pos k)

-- What an arrival is to a record.
pub data Case : Type 0 where
  first : Case  -- take-any
  far : Case  -- vector: d >= L or d <= -L
  again : Case  -- vector: d = -k from -(L-1) to 0, and bit k is set; match: d = 0; a virtual link: not handed up
  late : (k : ℕ) → Case  -- vector: d = -k from -(L-1) to 0, and bit k is clear
  next : (d : ℕ) → Case  -- vector: d from 1 to L-1
  moved : (in_order : Bool) → Case  -- match: any other d; in order if it is 1. A virtual link: handed up, and never out of order

unfoldable pub vector_case : (window : ℕ) (history : History) → Signed → Case
vector_case window history (ahead d) = if nat_lt d window then next d else far
vector_case window history (behind k) =
    if nat_lt k window then (if bit k history then again else late k) else far

unfoldable pub match_case : Signed → Case
match_case (ahead d) = moved (d == 1)
match_case (behind k) = if k == 0 then again else moved false

-- A virtual link. Among 1 to 255, a ring of 255 numbers: how many steps forward from one to another.
unfoldable pub link_steps : (last number : ℕ) → ℕ
link_steps last number = (number + 255 - last) % 255

-- "one to 127 steps forward from the last number handed up is handed up; 0 and 128 to 254 steps are not. A 0 is handed up unless 0
-- was the last; after 0, the numbers 1 to 127 are."
unfoldable pub link_up : (last number : ℕ) → Bool
link_up last number =
    if number == 0 then not (last == 0)
    else if last == 0 then nat_le number 127
    else nat_le 1 (link_steps last number) && nat_le (link_steps last number) 127

-- "out of order and lost stay; all else is a duplicate"
unfoldable pub link_case : (last number : ℕ) → Case
link_case last number = if link_up last number then moved true else again

unfoldable pub case_of : Stream → (number : ℕ) → Case
case_of s number =
    if yes s.state.any then first
    else if s.rule == vector_rule then vector_case s.window s.state.history (difference number s.state.anchor)
    else if s.rule == link_rule then link_case s.state.anchor number
    else match_case (difference number s.state.anchor)

-- The verdict of each case.
pub data Verdict : Type 0 where
  up duplicate rogue : Verdict

abbrev pub verdict_of : Case → Verdict
verdict_of first = up
verdict_of far = rogue
verdict_of again = duplicate
verdict_of (late k) = up
verdict_of (next d) = up
verdict_of (moved in_order) = up

abbrev pub is_up : Verdict → Bool
is_up up = true
is_up duplicate = false
is_up rogue = false

abbrev pub is_duplicate : Verdict → Bool
is_duplicate up = false
is_duplicate duplicate = true
is_duplicate rogue = false

abbrev pub is_rogue : Verdict → Bool
is_rogue up = false
is_rogue duplicate = false
is_rogue rogue = true

-- Handed up ends take-any and sets remaining to R. A late number leaves the anchor; every other one becomes it.
abbrev pub handed_up : Stream → (anchor n : ℕ) → History → State
handed_up s anchor n history = record { history = history; anchor = anchor; remaining = s.time; early = n; any = 0 }

-- The state after each case: a discard of either kind leaves it. n, the places left for older numbers, is L - 1 when take-any
-- ends in a vector record, one less with each place that the history moves up until it is 0, and stays in all else.
unfoldable pub state_after : Stream → (number : ℕ) → Case → State
state_after s number first =
    handed_up s number (if nat_eq s.rule vector_rule then s.window - 1 else 0) (if nat_eq s.rule vector_rule then single else empty)
state_after s number far = s.state
state_after s number again = s.state
state_after s number (late k) = handed_up s s.state.anchor s.state.early (set_bit k s.state.history)
state_after s number (next d) = handed_up s number (s.state.early - d) (advance s.window d s.state.history)
state_after s number (moved in_order) = handed_up s number s.state.early s.state.history

-- Out of order rises with a late number, and where d is not 1; never with the first arrival or a discard.
unfoldable pub out_of_order : Case → Bool
out_of_order first = false
out_of_order far = false
out_of_order again = false
out_of_order (late k) = true
out_of_order (next d) = not (d == 1)
out_of_order (moved in_order) = not in_order

-- Each zero bit that leaves at place L-1 adds 1 to lost, if its number comes after the first one handed up since the reset.
unfoldable pub losses : Stream → Case → ℕ
losses s first = 0
losses s far = 0
losses s again = 0
losses s (late k) = 0
losses s (next d) = leaving s.window d s.state.early s.state.history
losses s (moved in_order) = 0

-- Counters are 64 bits wide and wrap to zero after 2^64 - 1.
abbrev pub rise : (count by : ℕ) → ℕ
rise count by = (count + by) % 2 ^ 64

-- the counter after it rose by 1 where the test holds
abbrev pub counted : Bool → ℕ → ℕ
counted test count = if test then rise count 1 else count

-- The counters after a verdict, out of order or not, with so many losses. The network's arrival counter rises with every
-- verdict; a network other than 0 counts as 1.
unfoldable pub tally : Counts → (network : ℕ) → Verdict → (disorder : Bool) → (lost : ℕ) → Counts
tally c network v disorder lost = record {
  arrivals0 = counted (network == 0) c.arrivals0;
  arrivals1 = counted (not (network == 0)) c.arrivals1;
  passed = counted (is_up v) c.passed;
  discarded = counted (is_duplicate v) c.discarded;
  rogue = counted (is_rogue v) c.rogue;
  disorder = counted disorder c.disorder;
  lost = if is_up v then rise c.lost lost else c.lost;
  resets = c.resets;
}

unfoldable pub counts_after : Stream → (network : ℕ) → Case → Counts
counts_after s network c = tally s.counts network (verdict_of c) (out_of_order c) (losses s c)

-- the record with another state and other counters
abbrev pub with : Stream → State → Counts → Stream
with s t c = record {
  dest = s.dest;
  vlan = s.vlan;
  window = s.window;
  time = s.time;
  rule = s.rule;
  used = s.used;
  state = t;
  counts = c;
}

-- The decision on a lawful record: the verdict, and the record after it.
unfoldable pub verdict : Stream → (number : ℕ) → Verdict
verdict s number = verdict_of (case_of s number)

unfoldable pub decided : Stream → (number network : ℕ) → Stream
decided s number network =
    with s (state_after s number (case_of s number)) (counts_after s network (case_of s number))

-- A reset: fresh state, resets rises.
unfoldable pub reset : Stream → Stream
reset s = with s fresh (record {
  arrivals0 = s.counts.arrivals0;
  arrivals1 = s.counts.arrivals1;
  passed = s.counts.passed;
  discarded = s.counts.discarded;
  rogue = s.counts.rogue;
  disorder = s.counts.disorder;
  lost = s.counts.lost;
  resets = rise s.counts.resets 1;
})

-- A tick takes 1 from remaining in every lawful record that has some left. Where that gives 0 the stream is reset.
-- Damaged records and free ones stay untouched.
unfoldable pub expires : Stream → Bool
expires s = lawful s && s.state.remaining == 1

abbrev pub aged : State → State
aged t = record { history = t.history; anchor = t.anchor; remaining = t.remaining - 1; early = t.early; any = t.any }

unfoldable pub ticked : Stream → Stream
ticked s =
    if expires s then reset s
    else if lawful s then with s (aged s.state) s.counts
    else s
