-- What follows from demand 3 for a program that acts on what is handed up. Assumes nothing.
use Rattle.std.specs.Prelude.{ℕ, zero, suc, ◌≡◌, Bool, true, ◌&&◌, not, List, [], ◌∷◌, map, ℤ, pos, ◌+ℤ◌}
use Rattle.refusal.specs.Checks.Said.{answers}
use Rattle.std.specs.Prelude.{if◌then◌else◌}
use Rattle.record.specs.Words.{yes}
use Rattle.record.specs.Sizes.{vector_rule}
use Rattle.stream.specs.Record.{lawful}
use Rattle.stream.specs.Decisions.{Verdict, up, is_up}
use Rattle.frame.specs.declared.Rank.{Rank}
use Rattle.calls.specs.Table.{Table, at}
use Rattle.calls.specs.Calls.{Call, opening, arrived, placed}
use Rattle.calls.specs.Calls as calls
use Rattle.demands.specs.Receiver.{Receiver, run}
use Rattle.demands.specs.Seen.{told, log, numbers, verdicts, lasting, every}
use Rattle.demands.specs.Unlimited.{elem, highest, unlimited, all_near}
use Rattle.demands.specs.Demand3.{number_of, Silent, Premises}

-- The indices of the arrivals that were handed up,
unfoldable pub handed_of : List Verdict → (indices : List ℕ) → List ℕ
handed_of [] xs = []
handed_of (v ∷ vs) [] = []
handed_of (v ∷ vs) (x ∷ xs) = if is_up v then x ∷ handed_of vs xs else handed_of vs xs

-- and those of the run behind a gap.
abbrev pub handed : Receiver → Table → (slot : ℕ) → (gap later : List Call) → (indices : List ℕ) → List ℕ
handed receive t i gap later indices = handed_of (verdicts (log receive i (run receive t gap) later)) indices

-- No index stands twice in a list.
unfoldable pub distinct : List ℕ → Bool
distinct [] = true
distinct (x ∷ xs) = not (elem x xs) && distinct xs

-- No index is handed up twice.
abbrev pub NeverTwice : Receiver → Type 0
NeverTwice receive =
    (t : Table) (i : ℕ) (gap later : List Call) (indices : List ℕ)
    → Premises receive t i gap later indices
    → distinct (handed receive t i gap later indices) ≡ true

-- That is so of the receiver with unlimited memory, on any indices: so also wherever a stream is shown to decide as it does.
abbrev pub UnlimitedNeverTwice : Type 0
UnlimitedNeverTwice = (window : ℕ) (indices : List ℕ) → distinct (handed_of (unlimited window [] indices) indices) ≡ true

-- What demand 3 asks of the calls behind the gap, here from a table u on.
pub record Lasting (receive : Receiver) (u : Table) (i window : ℕ) (later : List Call) (indices : List ℕ) : Type 0 where
  pub lasts : every lasting (log receive i u later) ≡ true
  pub numbered : numbers (log receive i u later) ≡ map number_of indices
  pub near : all_near window [] indices ≡ true

-- A stream that takes any number needs no gap, ..
abbrev pub FreshDecides : Receiver → Type 0
FreshDecides receive =
    (t : Table) (i : ℕ) (later : List Call) (indices : List ℕ)
    → lawful (at t i) ≡ true → yes (at t i).state.any ≡ true → (at t i).rule ≡ vector_rule
    → Lasting receive t i (at t i).window later indices
    → verdicts (log receive i t later) ≡ unlimited (at t i).window [] indices

-- .. and so a stream decides from its open on as it does after a gap.
abbrev pub OpenedDecides : Receiver → Type 0
OpenedDecides receive =
    (t : Table) (dest : List ℕ) (vlan window time i : ℕ) (later : List Call) (indices : List ℕ)
    → (receive t (opening dest vlan vector_rule window time)).said ≡ answers (placed i)
    → Lasting receive (receive t (opening dest vlan vector_rule window time)).table i window later indices
    → verdicts (log receive i (receive t (opening dest vlan vector_rule window time)).table later) ≡ unlimited window [] indices

-- After a sender restart and R silent ticks the first new frame is handed up: R is the stream's reset time, the frame's
-- number may be any, and the stream may be of any rule, a virtual link too. (A frame that is refused does not count.)
abbrev pub RestartGetsThrough : Receiver → Type 0
RestartGetsThrough receive =
    (t : Table) (i : ℕ) (gap : List Call) (c : Call) (number : ℕ) (x : Rank) (v : calls.Verdict)
    → Silent receive t i gap
    → (receive (run receive t gap) c).said ≡ answers (arrived i number x v)
    → told v ≡ up

-- Increments: what a program adds up over the frames that it is handed, by any function from indices to integers, ..
unfoldable pub sum_of : (ℕ → ℤ) → List ℕ → ℤ
sum_of f [] = pos 0
sum_of f (x ∷ xs) = f x +ℤ sum_of f xs

-- .. and the sum over the indices below n that stand in a list, each of them once.
unfoldable pub sum_once : (ℕ → ℤ) → (n : ℕ) → List ℕ → ℤ
sum_once f zero xs = pos 0
sum_once f (suc n) xs = (if elem n xs then f n else pos 0) +ℤ sum_once f n xs

-- The sum counts each index that was handed up once, and no other.
abbrev pub CountsOnce : Receiver → Type 0
CountsOnce receive =
    (t : Table) (i : ℕ) (gap later : List Call) (indices : List ℕ) (f : ℕ → ℤ)
    → Premises receive t i gap later indices
    → sum_of f (handed receive t i gap later indices)
    ≡ sum_once f (suc (highest (handed receive t i gap later indices))) (handed receive t i gap later indices)
