-- Document 02, order 4: what a reader must believe of the counter `lost`. "From now on a zero bit that leaves counts only if
-- its number comes after the first one handed up since the reset." In the sender's count: lost is how many indices above the
-- first and at most highest - L were not handed up. Assumes nothing.
use Rattle.std.specs.Prelude.{ℕ, zero, suc, ◌+◌, ◌-◌, ◌%◌, ◌^◌, ◌≤◌, ◌<◌, ◌≡◌, true, false, not, List, [], ◌∷◌, ◌++◌}
use Rattle.refusal.specs.Checks.Said.{answers}
use Rattle.record.specs.Words.{yes}
use Rattle.record.specs.Sizes.{vector_rule}
use Rattle.stream.specs.History.{one}
use Rattle.stream.specs.Record.{lawful}
use Rattle.stream.specs.Decisions.{rise}
use Rattle.calls.specs.Table.{Table, at}
use Rattle.calls.specs.Calls.{Call, opening, placed}
use Rattle.demands.specs.Receiver.{Receiver, run}
use Rattle.demands.specs.Seen.{log, verdicts}
use Rattle.demands.specs.Unlimited.{elem, highest, unlimited}
use Rattle.demands.specs.Corollaries.{handed_of, Lasting}
use Rattle.demands.specs.Steps.{Step, Machine, ran_steps, read_as, log_steps}

-- How many of the n indices behind the first, first + 1 to first + n, do not stand in the list.
unfoldable pub absent : (first : ℕ) (handed : List ℕ) (n : ℕ) → ℕ
absent first hs zero = 0
absent first hs (suc n) = one (not (elem (first + suc n) hs)) + absent first hs n

-- How many of the indices above the first and at most highest - L do not stand in it. (`-` stops at 0, so none while highest - L
-- is at most the first.)
abbrev pub missed : (window first : ℕ) (handed : List ℕ) → ℕ
missed window first hs = absent first hs (highest hs - window - first)

-- From take-any on, until its next reset or closing and under demand 3's two premises: lost of a vector stream has risen, modulo
-- 2^64, by the indices above the first and at most highest - L that the stream did not hand up. The run `later` may be any one,
-- so this is so after each arrival.
abbrev pub FreshLost : Receiver → Type 0
FreshLost receive =
    (t : Table) (i : ℕ) (later : List Call) (first : ℕ) (rest : List ℕ)
    → lawful (at t i) ≡ true → yes (at t i).state.any ≡ true → (at t i).rule ≡ vector_rule
    → Lasting receive t i (at t i).window later (first ∷ rest)
    → (at (run receive t later) i).counts.lost
    ≡ rise (at t i).counts.lost (missed (at t i).window first (handed_of (verdicts (log receive i t later)) (first ∷ rest)))

-- From its open on it is that number, modulo 2^64.
abbrev pub OpenedLost : Receiver → Type 0
OpenedLost receive =
    (t : Table) (dest : List ℕ) (vlan window time i : ℕ) (later : List Call) (first : ℕ) (rest : List ℕ)
    → (receive t (opening dest vlan vector_rule window time)).said ≡ answers (placed i)
    → Lasting receive (receive t (opening dest vlan vector_rule window time)).table i window later (first ∷ rest)
    → (at (run receive (receive t (opening dest vlan vector_rule window time)).table later) i).counts.lost
    ≡ missed window first (handed_of (verdicts (log receive i (receive t (opening dest vlan vector_rule window time)).table later)) (first ∷ rest)) % 2 ^ 64

-- The same of a run of steps, single calls and batches.
abbrev pub FreshLostSteps : Machine → Type 0
FreshLostSteps m =
    (t : Table) (i : ℕ) (later : List Step) (first : ℕ) (rest : List ℕ)
    → lawful (at t i) ≡ true → yes (at t i).state.any ≡ true → (at t i).rule ≡ vector_rule
    → Lasting m.receive t i (at t i).window (read_as m t later) (first ∷ rest)
    → (at (ran_steps m t later) i).counts.lost
    ≡ rise (at t i).counts.lost (missed (at t i).window first (handed_of (verdicts (log_steps m i t later)) (first ∷ rest)))

-- What the receiver with unlimited memory hands up of these indices: by demand 3 it is what a stream hands up of them.
abbrev pub handed_by : (window : ℕ) (indices : List ℕ) → List ℕ
handed_by window indices = handed_of (unlimited window [] indices) indices

-- What is counted is lost for good: an index at most highest - L that was not handed up is not handed up later, whatever arrives.
abbrev pub LostForGood : Type 0
LostForGood =
    (window : ℕ) (before after : List ℕ) (x : ℕ)
    → 0 < window → x + window ≤ highest (handed_by window before)
    → elem x (handed_by window before) ≡ false → elem x (handed_by window (before ++ after)) ≡ false
