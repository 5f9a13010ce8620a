-- Document 02, order 10: what holds of virtual links, of their numbers, of one record, and of the frames of a sender.
-- Assumes nothing.
use Rattle.std.specs.Prelude.{ℕ, zero, suc, ◌+◌, ◌%◌, ◌^◌, ◌≤◌, ◌<◌, max, ◌≡◌, ◌↔◌, Bool, true, false, ◌&&◌, ◌||◌, List, [], ◌∷◌, ◌++◌, map, eqb, ltb, leb, length, replicate}
use Rattle.std.proofs.Math.Option.{Option, none, some}
use Rattle.record.specs.declared.Stream.{Stream}
use Rattle.std.specs.Prelude.{if◌then◌else◌}
use Rattle.record.specs.Words.{yes}
use Rattle.record.specs.Sizes.{link_rule}
use Rattle.demands.specs.Demand2.{next_number}
use Rattle.stream.specs.Decisions.{link_up, up, duplicate, is_up, verdict, decided}

-- ---- the numbers

-- The number so many steps on.
unfoldable pub steps_on : (steps last : ℕ) → ℕ
steps_on zero last = last
steps_on (suc k) last = next_number (steps_on k last)

-- "Among 1 to 255, one to 127 steps forward from the last number handed up is handed up; 0 and 128 to 254 steps are not."
abbrev pub LinkUpExactly : Type 0
LinkUpExactly =
    (last number : ℕ) → 1 ≤ last → last ≤ 255 → 1 ≤ number → number ≤ 255
    → (link_up last number ≡ true) ↔ ((k : ℕ) × (1 ≤ k) × (k ≤ 127) × (steps_on k last ≡ number))

-- "A 0 is handed up unless 0 was the last; after 0, the numbers 1 to 127 are."
pub record ZeroUpExactly : Type 0 where
  pub comes : (last : ℕ) → (link_up last 0 ≡ true) ↔ (1 ≤ last)
  pub was : (number : ℕ) → (link_up 0 number ≡ true) ↔ ((1 ≤ number) × (number ≤ 127))

-- The twin that comes directly behind is a duplicate, whatever the number: a restart's 0 too.
abbrev pub TwinRefused : Type 0
TwinRefused = (number : ℕ) → link_up number number ≡ false

-- A restart whose 0 is lost. Behind a last number of at most 128, the numbers from 1 to that one are not handed up, and the one after
-- it is. Behind a higher one, 1 is.
pub record ZeroLost : Type 0 where
  pub low : (last number : ℕ) → last ≤ 128 → 1 ≤ number → number ≤ last → link_up last number ≡ false
  pub after : (last : ℕ) → 1 ≤ last → last ≤ 128 → link_up last (suc last) ≡ true
  pub high : (last : ℕ) → 129 ≤ last → last ≤ 255 → link_up last 1 ≡ true

-- ---- one record

-- The last number handed up: none while the stream is fresh.
abbrev pub last_of : Stream → Option ℕ
last_of s = if yes s.state.any then none else some s.state.anchor

-- "A fresh stream hands up any number."
abbrev pub up_behind : (last : Option ℕ) (number : ℕ) → Bool
up_behind none n = true
up_behind (some last) n = link_up last n

-- An arrival is handed up and is then the last, or it is a duplicate: never a rogue. "out of order and lost stay".
pub record Decides (s : Stream) (number network : ℕ) : Type 0 where
  pub verdict : verdict s number ≡ (if up_behind (last_of s) number then up else duplicate)
  pub last : last_of (decided s number network) ≡ (if up_behind (last_of s) number then some number else last_of s)
  pub rogue : (decided s number network).counts.rogue ≡ s.counts.rogue
  pub disorder : (decided s number network).counts.disorder ≡ s.counts.disorder
  pub lost : s.counts.lost < 2 ^ 64 → (decided s number network).counts.lost ≡ s.counts.lost

abbrev pub LinkDecides : Type 0
LinkDecides = (s : Stream) (number network : ℕ) → s.rule ≡ link_rule → Decides s number network

-- ---- the frames of a sender

-- "0 only after a sender's restart, then 1 to 255 and 1 again": the number of the frame with this index since the restart.
unfoldable pub link_number : (index : ℕ) → ℕ
link_number zero = 0
link_number (suc i) = 1 + i % 255

abbrev pub last_number : (index : Option ℕ) → Option ℕ
last_number none = none
last_number (some i) = some (link_number i)

-- A virtual link that handed up the frame with this index last; with none it is fresh.
pub record Stands (s : Stream) (index : Option ℕ) : Type 0 where
  pub rule : s.rule ≡ link_rule
  pub last : last_of s ≡ last_number index

-- Which numbers a record hands up, one after the other. (The network is 0: it moves a counter only.)
unfoldable pub ups : Stream → (numbers : List ℕ) → List Bool
ups s [] = []
ups s (n ∷ ns) = is_up (verdict s n) ∷ ups (decided s n 0) ns

-- ---- without a restart, on both networks

-- Each index is at most 127 from the highest before it, and 0 comes only while that is 0.
unfoldable pub all_within : (highest : Option ℕ) (indices : List ℕ) → Bool
all_within h [] = true
all_within none (x ∷ xs) = all_within (some x) xs
all_within (some h) (x ∷ xs) = leb x (h + 127) && leb h (x + 127) && (ltb 0 x || eqb h 0) && all_within (some (max h x)) xs

-- Which of them are above all before.
unfoldable pub rises : (highest : Option ℕ) (indices : List ℕ) → List Bool
rises h [] = []
rises none (x ∷ xs) = true ∷ rises (some x) xs
rises (some h) (x ∷ xs) = ltb h x ∷ rises (some (max h x)) xs

-- Those are handed up, and no other.
abbrev pub LinkRises : Type 0
LinkRises =
    (s : Stream) (h : Option ℕ) (indices : List ℕ) → Stands s h → all_within h indices ≡ true
    → ups s (map link_number indices) ≡ rises h indices

-- So none comes twice, and what is handed up keeps its order: the indices at which it says yes rise.
unfoldable pub picked : List Bool → (indices : List ℕ) → List ℕ
picked [] xs = []
picked (b ∷ bs) [] = []
picked (b ∷ bs) (x ∷ xs) = if b then x ∷ picked bs xs else picked bs xs

unfoldable pub ascending : (before : Option ℕ) (indices : List ℕ) → Bool
ascending h [] = true
ascending none (x ∷ xs) = ascending (some x) xs
ascending (some h) (x ∷ xs) = ltb h x && ascending (some x) xs

abbrev pub RisesAscend : Type 0
RisesAscend = (h : Option ℕ) (indices : List ℕ) → ascending h (picked (rises h indices) indices) ≡ true

-- Each bound is sharp, wherever the stream stands: 128 behind is handed up (again), 128 ahead is not, and a 0 that comes late is.
pub record LinkBoundSharp : Type 0 where
  pub behind : (index : ℕ) → 1 ≤ index → link_up (link_number (index + 128)) (link_number index) ≡ true
  pub ahead : (index : ℕ) → link_up (link_number index) (link_number (index + 128)) ≡ false
  pub zero : (index : ℕ) → 1 ≤ index → link_up (link_number index) (link_number 0) ≡ true

-- ---- with restarts that are kept apart

-- No copy of an older frame comes behind a restart's 0, and no copy of that 0 behind another number. So a 0 behind another number is
-- a new restart's, and the count begins there again; every other index is at most 127 from the highest since.
abbrev pub newest : (highest index : ℕ) → ℕ
newest h x = if eqb x 0 then 0 else max h x

unfoldable pub all_apart : (highest : Option ℕ) (indices : List ℕ) → Bool
all_apart h [] = true
all_apart none (x ∷ xs) = all_apart (some x) xs
all_apart (some h) (x ∷ xs) = (eqb x 0 || (leb x (h + 127) && leb h (x + 127))) && all_apart (some (newest h x)) xs

-- Which of them are a restart's 0, or above all since.
unfoldable pub rises_anew : (highest : Option ℕ) (indices : List ℕ) → List Bool
rises_anew h [] = []
rises_anew none (x ∷ xs) = true ∷ rises_anew (some x) xs
rises_anew (some h) (x ∷ xs) = (if eqb x 0 then ltb 0 h else ltb h x) ∷ rises_anew (some (newest h x)) xs

-- Those are handed up, and no other: across restarts too.
abbrev pub RestartsApart : Type 0
RestartsApart =
    (s : Stream) (h : Option ℕ) (indices : List ℕ) → Stands s h → all_apart h indices ≡ true
    → ups s (map link_number indices) ≡ rises_anew h indices

-- ---- with restarts, one frame after the other

-- A frame behind another of the same sender: the sender restarted, and not directly before, or at most 126 are lost between the two.
abbrev pub follows : (before index : ℕ) → Bool
follows h x = if eqb x 0 then ltb 0 h else ltb h x && leb x (h + 127)

unfoldable pub all_follow : (before : Option ℕ) (indices : List ℕ) → Bool
all_follow h [] = true
all_follow none (x ∷ xs) = all_follow (some x) xs
all_follow (some h) (x ∷ xs) = follows h x && all_follow (some x) xs

-- One network alone: everything is handed up.
abbrev pub AloneAllUp : Type 0
AloneAllUp =
    (s : Stream) (h : Option ℕ) (indices : List ℕ) → Stands s h → all_follow h indices ≡ true
    → ups s (map link_number indices) ≡ replicate (length indices) true

-- A frame of which more copies come directly behind the first, before any copy of the next.
pub record Frame : Type 0 where
  pub index : ℕ
  pub more : ℕ

unfoldable pub copies : List Frame → List ℕ
copies [] = []
copies (f ∷ fs) = f.index ∷ replicate f.more f.index ++ copies fs

unfoldable pub first_only : List Frame → List Bool
first_only [] = []
first_only (f ∷ fs) = true ∷ replicate f.more false ++ first_only fs

-- Each is handed up exactly once, at its first copy.
abbrev pub Lockstep : Type 0
Lockstep =
    (s : Stream) (h : Option ℕ) (frames : List Frame) → Stands s h → all_follow h (map (λ (f : Frame). f.index) frames) ≡ true
    → ups s (map link_number (copies frames)) ≡ first_only frames
