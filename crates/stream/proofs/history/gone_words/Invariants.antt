-- `stream::history::gone_words`: n bits are set below place 64 i + from, where the next word is counted from.
use Rattle.std.proofs.Common.{◌≡◌, ◌+◌, ◌-◌, ◌*◌, ◌/◌, ◌%◌, ◌^◌, ◌<◌, ◌≤◌, count_ones}
use Rattle.stream.specs.History.{value}
use Rattle.stream.proofs.history.gone_words.Given as goal

abbrev pub invariant-loop-i : goal.invariant-loop-i
invariant-loop-i l =
    (l.from < 64) × ((l.w - l.d ≤ 64 * l.i + l.from) × ((64 * l.i + l.from < l.w)
    × (l.n ≡ count_ones (value l.h % 2 ^ (64 * l.i + l.from) / 2 ^ (l.w - l.d)))))
