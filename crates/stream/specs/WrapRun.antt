-- Document 01, "A run at the wrap": steps a to i, the totals at the end, and j to l, as one list with one statement. By document
-- 02, order 4, "lost is 0 throughout"; every other column is document 01's. Assumes nothing.
use Rattle.std.specs.Prelude.{◌≡◌, ℕ, ◌+◌, ◌*◌, List, [], ◌∷◌, ◌++◌, ℤ, pos, neg_ℤ}
use Rattle.std.specs.Prelude.{if◌then◌else◌}
use Rattle.record.specs.Words.{yes}
use Rattle.record.specs.Sizes.{vector_rule, match_rule}
use Rattle.stream.specs.History.{History, one, bit, empty, single}
use Rattle.stream.specs.Record.{State, Stream, fresh, opened}
use Rattle.stream.specs.Decisions.{difference, as_int, Verdict, up, duplicate, rogue, verdict, decided, with, ticked}

-- The column d: none where take-any holds, else the integer.
pub data Column : Type 0 where
  none : Column
  d : ℤ → Column

abbrev pub column_of : Stream → (number : ℕ) → Column
column_of s number = if yes s.state.any then none else d (as_int (difference number s.state.anchor))

-- The history's bits 3..0, as one number.
abbrev pub bits_of : History → ℕ
bits_of h = one (bit 3 h) * 8 + one (bit 2 h) * 4 + one (bit 1 h) * 2 + one (bit 0 h)

-- A line of the paper.
pub data Line : Type 0 where
  step : (number : ℕ) → Column → Verdict → (bits lost : ℕ) → Line
  totals : (passed discarded rogue disorder : ℕ) → Line
  arrival : (number : ℕ) → Column → Verdict → (disorder : ℕ) → Line
  after : State → Line

-- The lines of a run on network 0, with the totals at its end.
unfoldable pub run : Stream → (numbers : List ℕ) → List Line
run s [] = totals s.counts.passed s.counts.discarded s.counts.rogue s.counts.disorder ∷ []
run s (n ∷ ns) =
    step n (column_of s n) (verdict s n) (bits_of (decided s n 0).state.history) (decided s n 0).counts.lost
    ∷ run (decided s n 0) ns

-- The line of one arrival: j and k.
unfoldable pub alone : Stream → (number : ℕ) → Line
alone s n = arrival n (column_of s n) (verdict s n) (decided s n 0).counts.disorder

-- A record with L = 4; fresh, or with these in its state.
abbrev pub four : (rule : ℕ) → Stream
four rule = opened 7 0 rule 4 3

abbrev pub held : (rule anchor : ℕ) → History → (remaining : ℕ) → Stream
held rule anchor history remaining =
    with (four rule) (record { history = history; anchor = anchor; remaining = remaining; early = 0; any = 0 }) (four rule).counts

unfoldable pub computed : List Line
computed =
    run (four vector_rule) (65534 ∷ 65535 ∷ 65534 ∷ 1 ∷ 0 ∷ 5 ∷ 65533 ∷ 65534 ∷ 4 ∷ [])
    ++ (alone (held vector_rule 0 single 3) 32768
    ∷ alone (held match_rule 9 empty 3) 9
    ∷ alone (held match_rule 9 empty 3) 8
    ∷ after (ticked (held vector_rule 9 single 1)).state
    ∷ [])

unfoldable pub written : List Line
written =
    step 65534 none up 0b0001 0  -- a
    ∷ step 65535 (d (pos 1)) up 0b0011 0  -- b
    ∷ step 65534 (d (neg_ℤ (pos 1))) duplicate 0b0011 0  -- c
    ∷ step 1 (d (pos 2)) up 0b1101 0  -- d
    ∷ step 0 (d (neg_ℤ (pos 1))) up 0b1111 0  -- e
    ∷ step 5 (d (pos 4)) rogue 0b1111 0  -- f
    ∷ step 65533 (d (neg_ℤ (pos 4))) rogue 0b1111 0  -- g
    ∷ step 65534 (d (neg_ℤ (pos 3))) duplicate 0b1111 0  -- h
    ∷ step 4 (d (pos 3)) up 0b1001 0  -- i
    ∷ totals 5 2 2 3
    ∷ arrival 32768 (d (neg_ℤ (pos 32768))) rogue 0  -- j
    ∷ arrival 9 (d (pos 0)) duplicate 0  -- k
    ∷ arrival 8 (d (neg_ℤ (pos 1))) up 1
    ∷ after fresh  -- l
    ∷ []

-- The definitions give the paper's lines.
abbrev pub WrapRun : Type 0
WrapRun = computed ≡ written
