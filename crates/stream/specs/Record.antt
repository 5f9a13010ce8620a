-- Document 01, "The stream record", with document 02, order 4: the fresh state, and when a record is lawful or damaged. The
-- field `early` is order 4's n, the places left for numbers older than the first one handed up since the reset. Assumes nothing.
use Rattle.std.specs.Prelude.{ℕ, ◌-◌, Bool, not, ◌&&◌, ◌||◌, ◌==◌, nat_le}
use Rattle.std.specs.Bool.{beq}
pub use Rattle.record.specs.declared.State.{State}
pub use Rattle.record.specs.declared.Counts.{Counts}
pub use Rattle.record.specs.declared.Stream.{Stream}
use Rattle.std.specs.Prelude.{if◌then◌else◌}
use Rattle.record.specs.Words.{yes}
use Rattle.record.specs.Sizes.{window_least, window_most, time_least, time_most, vlan_most, vector_rule, match_rule, link_rule}
use Rattle.stream.specs.History.{History, empty, is_empty, bit, within}

-- The fresh state is anchor 65535, history zero, take-any, remaining 0, and n is 0.
abbrev pub anchor_fresh : ℕ
anchor_fresh = 65535

abbrev pub fresh : State
fresh = record { history = empty; anchor = anchor_fresh; remaining = 0; early = 0; any = 1 }

unfoldable pub is_fresh : State → Bool
is_fresh t = t.anchor == anchor_fresh && is_empty t.history && yes t.any && t.remaining == 0 && t.early == 0

-- The settings (rule, L, R, VLAN id) are within the sizes.
unfoldable pub settled : Stream → Bool
settled s =
    (s.rule == vector_rule || s.rule == match_rule || (s.rule == link_rule && s.vlan == 0))
    && (nat_le window_least s.window && nat_le s.window window_most)
    && (nat_le time_least s.time && nat_le s.time time_most)
    && nat_le s.vlan vlan_most

-- "A lawful record of rule 3 has .. without take-any, an anchor of at most 255."
unfoldable pub linked : (rule anchor : ℕ) → Bool
linked rule anchor = not (rule == link_rule) || nat_le anchor 255

-- With take-any it is fresh; without it a vector record has bit 0 set and no bit at L or above, and a record of another rule
-- has history zero.
unfoldable pub shaped : (rule window : ℕ) → State → Bool
shaped rule window t =
    if yes t.any then is_fresh t
    else if rule == vector_rule then bit 0 t.history && within window t.history
    else is_empty t.history && linked rule t.anchor

-- "Lawful asks for n at most L - 1 and, with n above 0, bit L - 1 - n set": the first stands there, next to the places for older
-- numbers. (A history that is zero has no bit, so n is 0 in a match record.)
unfoldable pub placed : (window n : ℕ) → History → Bool
placed window n history = nat_le n (window - 1) && (n == 0 || bit (window - 1 - n) history)

-- A record in use is lawful when its settings are within the sizes, remaining is at most R, and remaining is 0 exactly if
-- take-any holds; and n is placed and its state shaped as above. Counters may hold anything.
unfoldable pub lawful : Stream → Bool
lawful s =
    yes s.used
    && settled s
    && nat_le s.state.remaining s.time
    && beq (s.state.remaining == 0) (yes s.state.any)
    && placed s.window s.state.early s.state.history
    && shaped s.rule s.window s.state

-- In use and not lawful.
unfoldable pub damaged : Stream → Bool
damaged s = yes s.used && not (lawful s)

abbrev pub zeros : Counts
zeros = record { arrivals0 = 0; arrivals1 = 0; passed = 0; discarded = 0; rogue = 0; disorder = 0; lost = 0; resets = 0 }

-- What an open fills a slot with: a fresh record, counters zero.
abbrev pub opened : (dest vlan rule window time : ℕ) → Stream
opened dest vlan rule window time = record {
  dest = dest;
  vlan = vlan;
  window = window;
  time = time;
  rule = rule;
  used = 1;
  state = fresh;
  counts = zeros;
}

-- What a close leaves: the slot becomes free; its other fields stay.
abbrev pub closed : Stream → Stream
closed s = record {
  dest = s.dest;
  vlan = s.vlan;
  window = s.window;
  time = s.time;
  rule = s.rule;
  used = 0;
  state = s.state;
  counts = s.counts;
}
