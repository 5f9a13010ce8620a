-- Document 02, order 8. "Show that nothing is missed. Operators can live with a late command but not with a silent hole. In any run
-- of a vector stream from the fresh state, with no reset, closing or refused arrival, suppose a frame's number is its index modulo
-- 65536 and every arrival after the first has an index less than L from the highest that arrived before it on either network. Then
-- every index that arrives is handed up exactly once, at its first arrival." Assumes nothing.
use Rattle.std.specs.Prelude.{ℕ, suc, ◌≡◌, Bool, true, false, ◌&&◌, not, List, [], ◌∷◌, ◌++◌, map, eqb, ltb, ℤ}
use Rattle.refusal.specs.Checks.{Said}
use Rattle.refusal.specs.Checks.Said.{refused, answers}
use Rattle.refusal.specs.Numbers.{TABLE, NETWORK, DAMAGED, ROOM}
use Rattle.record.specs.declared.Stream.{Stream}
use Rattle.std.specs.Prelude.{if◌then◌else◌}
use Rattle.record.specs.Words.{yes}
use Rattle.record.specs.Sizes.{vector_rule}
use Rattle.frame.specs.Frame.{Tag, read_of}
use Rattle.frame.specs.Link.{Link, link_of}
use Rattle.stream.specs.Record.{lawful}
use Rattle.stream.specs.Decisions.{Verdict, is_up, rise}
use Rattle.calls.specs.Table.{Table, at, search, some_slot, hears}
use Rattle.calls.specs.Calls.{Call, arriving, linking, opening, closing, resetting, ticking, Answer, placed, done, admitted}
use Rattle.demands.specs.Receiver.{Receiver, run}
use Rattle.demands.specs.Seen.{was_reset, seen, log, numbers, verdicts, lasting, every}
use Rattle.demands.specs.Unlimited.{elem, highest, apart}
use Rattle.demands.specs.Demand3.{number_of}
use Rattle.demands.specs.Corollaries.{handed_of, distinct, sum_of, sum_once}
use Rattle.demands.specs.Steps.{Step, Machine, ran_steps, read_as, log_steps}
use Rattle.demands.specs.Lost.{missed}

-- ---- of the indices

-- "Every arrival after the first has an index less than L from the highest that arrived before it on either network": neither the
-- network nor what was handed up is asked for.
unfoldable pub all_close : (window : ℕ) (before indices : List ℕ) → Bool
all_close window before [] = true
all_close window [] (x ∷ xs) = all_close window (x ∷ []) xs
all_close window (b ∷ bs) (x ∷ xs) = ltb (apart x (highest (b ∷ bs))) window && all_close window (x ∷ b ∷ bs) xs

-- Which arrivals are the first of their index.
unfoldable pub firsts : (before indices : List ℕ) → List Bool
firsts before [] = []
firsts before (x ∷ xs) = not (elem x before) ∷ firsts (x ∷ before) xs

-- A counter that has risen, modulo 2^64, by the indices above the first and at most highest - L that never arrived.
abbrev pub with_holes : (window count : ℕ) (indices : List ℕ) → ℕ
with_holes window count [] = count
with_holes window count (first ∷ rest) = rise count (missed window first (first ∷ rest))

-- What is promised of the verdicts on arrivals, and of their indices:
pub record ExactlyOnce (vs : List Verdict) (indices : List ℕ) : Type 0 where
  -- "at its first arrival": the k-th arrival is handed up exactly if no arrival before it had its index;
  pub at_first : map is_up vs ≡ firsts [] indices
  -- "every index that arrives is handed up", and no other,
  pub each : (x : ℕ) → elem x (handed_of vs indices) ≡ elem x indices
  -- "exactly once";
  pub once : distinct (handed_of vs indices) ≡ true
  -- so a sum over what is handed up is the sum over the indices that arrived, each of them once.
  pub sums : (f : ℕ → ℤ) → sum_of f (handed_of vs indices) ≡ sum_once f (suc (highest indices)) indices

-- And of a record before and after a run:
pub record NoneMissed (before after : Stream) (vs : List Verdict) (indices : List ℕ) : Type 0 where
  pub exactly : ExactlyOnce vs indices
  -- no arrival is a rogue;
  pub no-rogue : after.counts.rogue ≡ before.counts.rogue
  -- and no hole is silent: of the indices above the first and at most highest - L lost counts those that never arrived.
  pub lost : after.counts.lost ≡ with_holes before.window before.counts.lost indices

-- ---- over what the stream sees

-- "A vector stream from the fresh state": lawful, and take-any holds.
pub record FreshVector (s : Stream) : Type 0 where
  pub vector : s.rule ≡ vector_rule
  pub lawful : lawful s ≡ true
  pub any : yes s.state.any ≡ true

-- The premises: a run of calls from a table t for the stream in its slot i, the numbers of its arrivals and their true indices.
pub record Unbroken (receive : Receiver) (t : Table) (i : ℕ) (calls : List Call) (arrived indices : List ℕ) : Type 0 where
  pub fresh : FreshVector (at t i)
  -- "with no reset", by call or by tick, and no "closing";
  pub lasts : every lasting (log receive i t calls) ≡ true
  -- "a frame's number is its index modulo 65536",
  pub numbered : arrived ≡ map number_of indices
  pub close : all_close (at t i).window [] indices ≡ true

-- A refused call is no arrival in the log of a stream, and so no word of refusals is needed. (Which calls are refused is the
-- receiver's own answer, here and below: that it refuses no other than it should is demand 1.)
abbrev pub NothingSeenMissed : Receiver → Type 0
NothingSeenMissed receive =
    (t : Table) (i : ℕ) (calls : List Call) (indices : List ℕ)
    → Unbroken receive t i calls (numbers (log receive i t calls)) indices
    → NoneMissed (at t i) (at (run receive t calls) i) (verdicts (log receive i t calls)) indices

-- ---- in the order's words: over all that arrives

-- The number of a frame for the stream in slot i, if that is the lowest slot that hears the frame.
abbrev pub if_lowest : (slot : ℕ) → Table → (hearing : Stream → Bool) (number : ℕ) → List ℕ
if_lowest i t hearing number = if some_slot hearing t && eqb (search hearing t) i then number ∷ [] else []

-- A frame that passes 3, 4, 5 and 14 is heard by the slots with its key that are no virtual links,
unfoldable pub number_for : (slot : ℕ) → Table → Said Tag → List ℕ
number_for i t (refused n) = []
number_for i t (answers g) = if_lowest i t (hears false g.header.dest g.header.vlan) g.number

-- and that of an arrival of a virtual link, which passes 3, 4 and 14, by those that are (order 10).
unfoldable pub link_number_for : (slot : ℕ) → Table → Said Link → List ℕ
link_number_for i t (refused n) = []
link_number_for i t (answers g) = if_lowest i t (hears true g.dest 0) g.number

-- An arrival of that stream, refused or not, by its number. (Ordinary traffic to the same address has no tag and is none.)
abbrev pub arrival_of : (slot : ℕ) → Table → Call → List ℕ
arrival_of i t (arriving network f out) = number_for i t (admitted f (read_of f))
arrival_of i t (linking network f out) = link_number_for i t (link_of f)
arrival_of i t (opening dest vlan rule window time) = []
arrival_of i t (closing j) = []
arrival_of i t (resetting j) = []
arrival_of i t ticking = []

-- one that is refused
abbrev pub turned_away : (slot : ℕ) → Table → Call → Said Answer → List ℕ
turned_away i t c (refused n) = arrival_of i t c
turned_away i t c (answers a) = []

-- Those of a run, and the refused ones among them.
unfoldable pub arrivals : Receiver → (slot : ℕ) → Table → List Call → List ℕ
arrivals receive i t [] = []
arrivals receive i t (c ∷ cs) = arrival_of i t c ++ arrivals receive i (receive t c).table cs

unfoldable pub refused_arrivals : Receiver → (slot : ℕ) → Table → List Call → List ℕ
refused_arrivals receive i t [] = []
refused_arrivals receive i t (c ∷ cs) = turned_away i t c (receive t c).said ++ refused_arrivals receive i (receive t c).table cs

-- The order: "with no .. refused arrival".
abbrev pub NothingMissed : Receiver → Type 0
NothingMissed receive =
    (t : Table) (i : ℕ) (calls : List Call) (indices : List ℕ)
    → Unbroken receive t i calls (arrivals receive i t calls) indices → refused_arrivals receive i t calls ≡ []
    → NoneMissed (at t i) (at (run receive t calls) i) (verdicts (log receive i t calls)) indices

-- The two readings fit: each arrival of a stream is seen by it, with its number, or refused; and none but these is seen.
abbrev pub SeenOrRefused : Receiver → Type 0
SeenOrRefused receive =
    (t : Table) (i : ℕ) (c : Call)
    → arrival_of i t c ≡ numbers (seen i t c (receive t c) ∷ []) ++ turned_away i t c (receive t c).said

-- It can be refused with these only.
abbrev pub refusals : List ℕ
refusals = TABLE ∷ NETWORK ∷ DAMAGED ∷ ROOM ∷ []

abbrev pub RefusedWith : Receiver → Type 0
RefusedWith receive =
    (t : Table) (i : ℕ) (c : Call) (number n : ℕ)
    → arrival_of i t c ≡ number ∷ [] → (receive t c).said ≡ refused n
    → elem n refusals ≡ true

-- ---- where such a run begins: an open leaves the stream fresh, and so does a reset, by call or by tick

pub record Begins (receive : Receiver) (t : Table) (i : ℕ) : Type 0 where
  pub opened : (dest : List ℕ) (vlan window time : ℕ)
      → (receive t (opening dest vlan vector_rule window time)).said ≡ answers (placed i)
      → FreshVector (at (receive t (opening dest vlan vector_rule window time)).table i)
  pub reset : (at t i).rule ≡ vector_rule → (receive t (resetting i)).said ≡ answers done → FreshVector (at (receive t (resetting i)).table i)
  pub ticked : (at t i).rule ≡ vector_rule → was_reset (at t i) (at (receive t ticking).table i) ≡ true
      → FreshVector (at (receive t ticking).table i)

abbrev pub BeginsFresh : Receiver → Type 0
BeginsFresh receive = (t : Table) (i : ℕ) → Begins receive t i

-- ---- with batches: over runs of steps, both ways

abbrev pub NothingSeenMissedSteps : Machine → Type 0
NothingSeenMissedSteps m =
    (t : Table) (i : ℕ) (steps : List Step) (indices : List ℕ)
    → Unbroken m.receive t i (read_as m t steps) (numbers (log_steps m i t steps)) indices
    → NoneMissed (at t i) (at (ran_steps m t steps) i) (verdicts (log_steps m i t steps)) indices

abbrev pub NothingMissedSteps : Machine → Type 0
NothingMissedSteps m =
    (t : Table) (i : ℕ) (steps : List Step) (indices : List ℕ)
    → Unbroken m.receive t i (read_as m t steps) (arrivals m.receive i t (read_as m t steps)) indices
    → refused_arrivals m.receive i t (read_as m t steps) ≡ []
    → NoneMissed (at t i) (at (ran_steps m t steps) i) (verdicts (log_steps m i t steps)) indices
