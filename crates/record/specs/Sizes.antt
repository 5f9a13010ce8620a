-- Document 01, "Sizes": each number once. Assumes nothing.
use Rattle.std.specs.Prelude.{ℕ}

-- slots in a table
abbrev pub slots_most : ℕ
slots_most = 64

-- bytes in a frame, and before the tag is put in
abbrev pub frame_most : ℕ
frame_most = 2000

abbrev pub untagged_most : ℕ
untagged_most = 1994

-- window L
abbrev pub window_least : ℕ
window_least = 2

abbrev pub window_most : ℕ
window_most = 512

-- reset time R, in ticks
abbrev pub time_least : ℕ
time_least = 1

abbrev pub time_most : ℕ
time_most = 65535

-- VLAN id in a key
abbrev pub vlan_most : ℕ
vlan_most = 4094

-- rule: vector recovery or match recovery
abbrev pub vector_rule : ℕ
vector_rule = 1

abbrev pub match_rule : ℕ
match_rule = 2

-- ARINC 664 part 7 virtual links
abbrev pub link_rule : ℕ
link_rule = 3
