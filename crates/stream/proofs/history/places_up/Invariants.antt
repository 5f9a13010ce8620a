-- `stream::history::places_up`: the words below i stand, and those from i on are zero.
use Rattle.std.proofs.Common.{◌≡◌, ℕ, ◌<◌, ◌≤◌, length, get_or}
use Rattle.stream.specs.AnyWords.{moved_word}
use Rattle.stream.proofs.history.places_up.Given as goal

abbrev pub invariant-loop-i : goal.invariant-loop-i
invariant-loop-i l =
    (length l.out ≡ 8) × (((k : ℕ) → k < l.i → get_or l.out k 0 ≡ moved_word l.h l.d k) × ((k : ℕ) → l.i ≤ k → get_or l.out k 0 ≡ 0))
