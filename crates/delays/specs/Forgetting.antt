-- Demand 3's receiver with unlimited memory, across resets by tick: it forgets all at the R-th tick since its last hand-up.
-- Assumes nothing.
use Rattle.std.specs.Prelude.{ℕ, ◌-◌, Bool, true, ◌&&◌, List, [], ◌∷◌, eqb}
use Rattle.std.specs.Prelude.{if◌then◌else◌}
use Rattle.stream.specs.Decisions.{Verdict, is_up}
use Rattle.demands.specs.Unlimited.{judged, remembered, near}
use Rattle.delays.specs.Line.{Event, came, ticked}

-- The ticks that are left after an arrival: R if it is handed up.
abbrev pub left_after : (window time left : ℕ) (handed : List ℕ) (index : ℕ) → ℕ
left_after window time left hs x = if is_up (judged window hs x) then time else left

-- Its verdicts, with so many ticks left (0: it has forgotten all) and what it has handed up since it forgot.
unfoldable pub forgetting : (window time left : ℕ) (handed : List ℕ) → List Event → List Verdict
forgetting window time left hs [] = []
forgetting window time left hs (came x a ∷ es) =
    judged window hs x ∷ forgetting window time (left_after window time left hs x) (remembered window hs x) es
forgetting window time left hs (ticked c ∷ es) =
    if eqb left 1 then forgetting window time 0 [] es else forgetting window time (left - 1) hs es

-- "Each arrival after the first is at most 65536 - L from that highest index": after the first since it forgot.
unfoldable pub all_near_since : (window time left : ℕ) (handed : List ℕ) → List Event → Bool
all_near_since window time left hs [] = true
all_near_since window time left hs (came x a ∷ es) =
    near window hs x && all_near_since window time (left_after window time left hs x) (remembered window hs x) es
all_near_since window time left hs (ticked c ∷ es) =
    if eqb left 1 then all_near_since window time 0 [] es else all_near_since window time (left - 1) hs es
