-- A line: what a sender, two networks and a clock have to keep to (docs/INTEGRATION.md, "What has to be known"). Times are natural
-- numbers, of any unit. Assumes nothing.
use Rattle.std.specs.Prelude.{ℕ, suc, ◌+◌, ◌-◌, ◌≤◌, ◌<◌, max, min, ◌≡◌, Bool, true, ◌&&◌, List, [], ◌∷◌, ◌++◌, leb}
use Rattle.demands.specs.Unlimited.{elem}

pub record Known : Type 0 where
  pub sent : ℕ → ℕ  -- when the sender gives an index to its frame
  pub least0 : ℕ  -- the smallest delay on network 0, from there to the call, of a copy that arrives
  pub most0 : ℕ  -- and the largest
  pub least1 : ℕ  -- the same on network 1
  pub most1 : ℕ
  pub tau : ℕ  -- the least time between two ticks
  pub tau_most : ℕ  -- and the most
  pub m : ℕ  -- how many indices in a row have no copy that arrives, at most

-- The delays over both networks, and their spread J. (Only these are asked for below: a copy is not held to its own network.)
unfoldable pub least : Known → ℕ
least k = min k.least0 k.least1

unfoldable pub most : Known → ℕ
most k = max k.most0 k.most1

unfoldable pub J : Known → ℕ
J k = most k - least k

-- ---- the sender

-- Later indices are not sent sooner, and those sent within a time d of each other lie at most b apart.
pub record Sends (k : Known) (d b : ℕ) : Type 0 where
  pub rises : (x : ℕ) → k.sent x ≤ k.sent (suc x)
  pub within : (x n : ℕ) → k.sent (x + n) ≤ k.sent x + d → n ≤ b

-- An even sender: two sends are at least T apart.
pub record Spaced (k : Known) (T : ℕ) : Type 0 where
  pub some : 1 ≤ T
  pub apart : (x : ℕ) → k.sent x + T ≤ k.sent (suc x)

-- ---- networks and clock

-- What comes to a stream: a copy of the frame with this index, or a tick.
pub data Event : Type 0 where
  came : (index time : ℕ) → Event
  ticked : (time : ℕ) → Event

unfoldable pub indices : List Event → List ℕ
indices [] = []
indices (came x a ∷ es) = x ∷ indices es
indices (ticked c ∷ es) = indices es

-- Times do not fall (what falls in one instant may come in any order), each copy comes within the delays, and ticks are at least tau
-- apart: `now` is the time before, and `due` the soonest for the next tick.
unfoldable pub kept : Known → (now due : ℕ) → List Event → Bool
kept k now due [] = true
kept k now due (came x a ∷ es) = leb now a && (leb (k.sent x + least k) a && leb a (k.sent x + most k)) && kept k a due es
kept k now due (ticked c ∷ es) = leb now c && leb due c && kept k c (c + k.tau) es

pub record Keeps (k : Known) (start : ℕ) (es : List Event) : Type 0 where
  pub some : 1 ≤ k.tau
  pub kept : kept k start 0 es ≡ true

-- Ticks do not stay away: nothing comes later than tau_most behind the last tick, or behind the start.
unfoldable pub frequent : (tau_most latest : ℕ) → List Event → Bool
frequent tau_most latest [] = true
frequent tau_most latest (came x a ∷ es) = leb a latest && frequent tau_most latest es
frequent tau_most latest (ticked c ∷ es) = leb c latest && frequent tau_most (c + tau_most) es

-- ---- losses

-- the time of the last event
unfoldable pub end : (start : ℕ) → List Event → ℕ
end start [] = start
end start (came x a ∷ es) = end a es
end start (ticked c ∷ es) = end c es

-- "At most m in a row between two that arrive": if a copy arrives of h, and of an index further ahead than h + m + 1, then one
-- arrives of an index between h and h + m + 2. A run ends somewhere: of the indices `still` a copy may yet come, as none of them is
-- overdue.
pub record Loses (k : Known) (still : List ℕ) (es : List Event) : Type 0 where
  pub awaits : (y : ℕ) → elem y still ≡ true → end 0 es ≤ k.sent y + most k
  pub losses : (h x : ℕ) → elem h (indices es) ≡ true → elem x (indices es ++ still) ≡ true → h + suc k.m < x
      → (y : ℕ) × (h < y) × (y ≤ h + suc k.m) × (elem y (indices es ++ still) ≡ true)
