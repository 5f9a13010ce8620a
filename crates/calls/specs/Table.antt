-- Document 01, "The stream record" and "Calls and the order of checks": a table of streams and the search in it.
-- Assumes nothing.
use Rattle.std.specs.Prelude.{ℕ, zero, suc, ◌+◌, Bool, ◌&&◌, not, List, [], ◌∷◌, eqb, ltb, get_or, length, Option, None, Some}
use Rattle.std.specs.Bool.{beq}
use Rattle.record.specs.declared.Stream.{Stream}
use Rattle.std.specs.Prelude.{if◌then◌else◌}
use Rattle.record.specs.Words.{yes}
use Rattle.record.specs.Sizes.{link_rule}
use Rattle.stream.specs.History.{empty}

abbrev pub Table : Type 0
Table = List Stream

-- a slot that never was in use
abbrev pub blank : Stream
blank = record {
  dest = 0;
  vlan = 0;
  window = 0;
  time = 0;
  rule = 0;
  used = 0;
  state = record { history = empty; anchor = 0; remaining = 0; early = 0; any = 0 };
  counts = record { arrivals0 = 0; arrivals1 = 0; passed = 0; discarded = 0; rogue = 0; disorder = 0; lost = 0; resets = 0 };
}

-- the record in a slot (beyond the table, where no call looks, a free one)
abbrev pub at : Table → ℕ → Stream
at t i = get_or t i blank

-- the lowest slot whose record passes the test, and the table's length where none does
unfoldable pub search : (Stream → Bool) → Table → ℕ
search p [] = zero
search p (s ∷ t) = if p s then zero else suc (search p t)

-- is there a slot whose record passes?
unfoldable pub some_slot : (Stream → Bool) → Table → Bool
some_slot p t = ltb (search p t) (length t)

-- "the search stops at it and yields its place": the lowest slot whose record passes, where there is one
unfoldable pub found : (Stream → Bool) → Table → Option ℕ
found p t = if some_slot p t then Some (search p t) else None

-- how many slots have a record that passes
unfoldable pub count : (Stream → Bool) → Table → ℕ
count p [] = 0
count p (s ∷ t) = (if p s then 1 else 0) + count p t

-- a slot in use that has the key
unfoldable pub has_key : (dest vlan : ℕ) → Stream → Bool
has_key dest vlan s = yes s.used && eqb s.dest dest && eqb s.vlan vlan

-- a virtual link (order 10)
unfoldable pub of_links : Stream → Bool
of_links s = eqb s.rule link_rule

-- "Its arrivals are a call of their own, which looks only at rule 3; the other arrival calls look only at the rest": a slot in
-- use that has the key and is a virtual link, or is none
unfoldable pub hears : (link : Bool) (dest vlan : ℕ) → Stream → Bool
hears link dest vlan s = has_key dest vlan s && beq (of_links s) link

-- a free slot
unfoldable pub is_free : Stream → Bool
is_free s = not (yes s.used)

-- What is found, slot by slot: what is found in front, or else here.
abbrev pub or_else : Option ℕ → Option ℕ → Option ℕ
or_else (Some i) f = Some i
or_else None f = f

abbrev pub found_here : (Stream → Bool) → Stream → ℕ → Option ℕ
found_here p s i = if p s then Some i else None
