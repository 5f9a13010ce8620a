-- What `demands` and `both_sides` say of every receiver, machine and sending side, written out once more from their lists of theorems,
-- on any table and in any slot. One of these that asks for more, gives less or leaves its list is refused here. Assumes nothing.
use Rattle.std.specs.Prelude.{ℕ, suc, ◌+◌, ◌-◌, ◌%◌, ◌^◌, ◌≤◌, ◌<◌, ◌≡◌, ◌↔◌, true, false, ℤ, length, set, replicate}
use Rattle.std.proofs.Math.Option.{some, none}
use mathlib.Core.List.{List, [], ◌∷◌, ◌++◌, map, flat_map}
use Rattle.refusal.specs.Checks.{First}
use Rattle.refusal.specs.Checks.Said.{refused, answers}
use Rattle.record.specs.Sizes.{vector_rule}
use Rattle.frame.specs.Bytes.{overlay}
use Rattle.frame.specs.Frame.{number_in, rank_of}
use Rattle.frame.specs.Link.{last_byte}
use Rattle.frame.specs.declared.Rank.{Rank}
use Rattle.frame.specs.TagCalls.{take_tag, write_tag}
use Rattle.frame.specs.Refusals.{take_checks, write_checks}
use Rattle.stream.specs.Record.{lawful}
use Rattle.stream.specs.Decisions.{up, verdict, decided, rise, expires}
use Rattle.calls.specs.Table.{Table, at}
use Rattle.calls.specs.Calls.{Call, arriving, linking, opening, resetting, ticking, out_of, arrived, placed, done, swept, Result, result_of}
use Rattle.calls.specs.Calls as calls
use Rattle.calls.specs.Refusals.{checks_of}
use Rattle.batch.specs.Batch.{Batch, frames_most, adds, reached}
use Rattle.batch.specs.Refusals.{batch_checks}
use Rattle.demands.specs.Receiver.{Receiver, MeetsContract, the_receiver, run, results, Throughout, Ensured, Tagger, MeetsTags}
use Rattle.demands.specs.Seen.{told, was_reset, seen, log, numbers, verdicts, ticks, calm, lasting, every}
use Rattle.demands.specs.Unlimited.{elem, highest, unlimited, all_near}
use Rattle.demands.specs.Demand1.{Refuses}
use Rattle.demands.specs.Demand2.{link_verdict, link_record}
use Rattle.demands.specs.Demand3.{number_of, Premises}
use Rattle.demands.specs.Corollaries.{handed_of, handed, distinct, sum_of, sum_once}
use Rattle.demands.specs.Lost.{FreshLost, missed, handed_by}
use Rattle.demands.specs.Missed.{FreshVector, NoneMissed, all_close, arrival_of, turned_away, arrivals, refused_arrivals}
use Rattle.demands.specs.Steps.{Step, Machine, MeetsAll, the_machine, ran_steps, read_as, log_steps, Got, EnsuredSteps, given_all}
use Rattle.demands.specs.Needed.{All, premises_of}
use Rattle.lost_runs.specs.LostRuns as lost
use Rattle.sender.specs.declared.Sender.{Sender}
use Rattle.sender.specs.Sender.{sender_at_first, refuses}
use Rattle.sender.specs.Refusals.{send_checks}
use Rattle.sender.specs.Runs as sends
use Rattle.sender.specs.Runs.{Side, MeetsSide, Pair, ran, sent, nth, unbroken, Carries}
use Rattle.both_sides.specs.Copies.{CopiesOf, frames_heard, counted_from}

-- ---- single calls

-- the table that an open leaves, and what is asked of the stream in slot i from a table on
abbrev pub opened_in : Receiver → Table → (dest : List ℕ) (vlan window time : ℕ) → Table
opened_in receive t dest vlan window time = (receive t (opening dest vlan vector_rule window time)).table

abbrev pub lasts_from : Receiver → Table → (slot window : ℕ) → (later : List Call) → (indices : List ℕ) → List (Type 0)
lasts_from receive u i window later indices =
    (every lasting (log receive i u later) ≡ true)
    ∷ (numbers (log receive i u later) ≡ map number_of indices)
    ∷ (all_near window [] indices ≡ true)
    ∷ []

-- order 8's premises, with these numbers of its arrivals
abbrev pub close_from : Receiver → Table → (slot : ℕ) → (calls : List Call) → (came indices : List ℕ) → List (Type 0)
close_from receive t i calls came indices =
    FreshVector (at t i)
    ∷ (every lasting (log receive i t calls) ≡ true)
    ∷ (came ≡ map number_of indices)
    ∷ (all_close (at t i).window [] indices ≡ true)
    ∷ []

pub record WrittenCalls (receive : Receiver) : Type 0 where
  -- demand 1: which calls are refused, and all that a refused one leaves;
  pub refuses : (t : Table) (c : Call) (n : ℕ) → First n (checks_of t c) → receive t c ≡ record { said = refused n; table = t; output = out_of c }
  pub refuses-only : (t : Table) (c : Call) (n : ℕ) → (receive t c).said ≡ refused n → First n (checks_of t c)
  -- demand 2;
  pub gives : (t : Table) (c : Call) → receive t c ≡ result_of t c
  pub recovered : (t : Table) (network : ℕ) (frame out : List ℕ) (i n : ℕ) (x : Rank) (v : calls.Verdict)
      → (receive t (arriving network frame out)).said ≡ answers (arrived i n x v)
      → (n ≡ number_in frame) × (x ≡ rank_of frame) × (told v ≡ verdict (at t i) n) × ((receive t (arriving network frame out)).table ≡ set t i (decided (at t i) n network))
  -- of virtual links, order 10;
  pub links : (t : Table) (network : ℕ) (frame out : List ℕ) (i n : ℕ) (x : Rank) (v : calls.Verdict)
      → (receive t (linking network frame out)).said ≡ answers (arrived i n x v)
      → ((at t i).rule ≡ 3) × (n ≡ last_byte frame) × (x ≡ record { priority = 0; vlantag = 0 }) × (told v ≡ link_verdict (at t i) n) × ((receive t (linking network frame out)).table ≡ set t i (link_record (at t i) n network))
  -- demand 3, and what follows from it;
  pub decides : (t : Table) (i : ℕ) (gap later : List Call) (indices : List ℕ) → All (premises_of receive t i gap later indices)
      → verdicts (log receive i (run receive t gap) later) ≡ unlimited (at t i).window [] indices
  pub never-twice : (t : Table) (i : ℕ) (gap later : List Call) (indices : List ℕ) → All (premises_of receive t i gap later indices)
      → distinct (handed receive t i gap later indices) ≡ true
  pub counts-once : (t : Table) (i : ℕ) (gap later : List Call) (indices : List ℕ) (f : ℕ → ℤ) → All (premises_of receive t i gap later indices)
      → sum_of f (handed receive t i gap later indices) ≡ sum_once f (suc (highest (handed receive t i gap later indices))) (handed receive t i gap later indices)
  pub restart : (t : Table) (i : ℕ) (gap : List Call) (c : Call) (number : ℕ) (x : Rank) (v : calls.Verdict)
      → lawful (at t i) ≡ true → (at t i).time ≤ ticks (log receive i t gap) → every calm (log receive i t gap) ≡ true
      → (receive (run receive t gap) c).said ≡ answers (arrived i number x v) → told v ≡ up
  pub fresh : (t : Table) (i : ℕ) (later : List Call) (indices : List ℕ) → All (lost.premises_of receive t i later indices)
      → verdicts (log receive i t later) ≡ unlimited (at t i).window [] indices
  pub opened : (t : Table) (dest : List ℕ) (vlan window time i : ℕ) (later : List Call) (indices : List ℕ)
      → (receive t (opening dest vlan vector_rule window time)).said ≡ answers (placed i)
      → All (lasts_from receive (opened_in receive t dest vlan window time) i window later indices)
      → verdicts (log receive i (opened_in receive t dest vlan window time) later) ≡ unlimited window [] indices
  -- what lost is (the first of the two is written out below), and that nothing is missed;
  pub fresh-lost : FreshLost receive
  pub opened-lost : (t : Table) (dest : List ℕ) (vlan window time i : ℕ) (later : List Call) (first : ℕ) (rest : List ℕ)
      → (receive t (opening dest vlan vector_rule window time)).said ≡ answers (placed i)
      → All (lasts_from receive (opened_in receive t dest vlan window time) i window later (first ∷ rest))
      → (at (run receive (opened_in receive t dest vlan window time) later) i).counts.lost
      ≡ missed window first (handed_of (verdicts (log receive i (opened_in receive t dest vlan window time) later)) (first ∷ rest)) % 2 ^ 64
  pub nothing-missed : (t : Table) (i : ℕ) (calls : List Call) (indices : List ℕ)
      → All (close_from receive t i calls (arrivals receive i t calls) indices) → refused_arrivals receive i t calls ≡ []
      → NoneMissed (at t i) (at (run receive t calls) i) (verdicts (log receive i t calls)) indices
  pub nothing-seen-missed : (t : Table) (i : ℕ) (calls : List Call) (indices : List ℕ)
      → All (close_from receive t i calls (numbers (log receive i t calls)) indices)
      → NoneMissed (at t i) (at (run receive t calls) i) (verdicts (log receive i t calls)) indices
  pub seen-or-refused : (t : Table) (i : ℕ) (c : Call)
      → arrival_of i t c ≡ numbers (seen i t c (receive t c) ∷ []) ++ turned_away i t c (receive t c).said
  pub refused-with : (t : Table) (i : ℕ) (c : Call) (number n : ℕ) → arrival_of i t c ≡ number ∷ [] → (receive t c).said ≡ refused n
      → elem n (1 ∷ 2 ∷ 7 ∷ 8 ∷ []) ≡ true
  -- and where a run begins.
  pub resets-seen : (t : Table) (i streams records : ℕ) → (receive t ticking).said ≡ answers (swept streams records)
      → was_reset (at t i) (at (receive t ticking).table i) ≡ expires (at t i)
  pub begins-opened : (t : Table) (dest : List ℕ) (vlan window time i : ℕ)
      → (receive t (opening dest vlan vector_rule window time)).said ≡ answers (placed i) → FreshVector (at (opened_in receive t dest vlan window time) i)
  pub begins-reset : (t : Table) (i : ℕ) → (at t i).rule ≡ vector_rule → (receive t (resetting i)).said ≡ answers done → FreshVector (at (receive t (resetting i)).table i)
  pub begins-ticked : (t : Table) (i : ℕ) → (at t i).rule ≡ vector_rule → was_reset (at t i) (at (receive t ticking).table i) ≡ true
      → FreshVector (at (receive t ticking).table i)

-- The two calls that have no table.
pub record WrittenTags (tagger : Tagger) : Type 0 where
  pub take : (f out : List ℕ) (n : ℕ) → First n (take_checks f out) → tagger.take f out ≡ record { said = refused n; bytes = out }
  pub taken : (f out : List ℕ) (n : ℕ) → (tagger.take f out).said ≡ refused n → First n (take_checks f out)
  pub write : (f : List ℕ) (number : ℕ) (out : List ℕ) (n : ℕ) → First n (write_checks f out) → tagger.write f number out ≡ record { said = refused n; bytes = out }
  pub written : (f : List ℕ) (number : ℕ) (out : List ℕ) (n : ℕ) → (tagger.write f number out).said ≡ refused n → First n (write_checks f out)
  pub gives : (f : List ℕ) (number : ℕ) (out : List ℕ) → (tagger.take f out ≡ take_tag f out) × (tagger.write f number out ≡ write_tag f number out)

-- ---- with batches

pub record WrittenSteps (m : Machine) : Type 0 where
  pub refuses : (t : Table) (b : Batch) (n : ℕ) → First n (batch_checks t b)
      → ((m.batch t b).said ≡ refused n) × ((m.batch t b).table ≡ t) × ((m.batch t b).output ≡ b.out) × (reached t b ≡ [])
  pub refuses-only : (t : Table) (b : Batch) (n : ℕ) → (m.batch t b).said ≡ refused n → First n (batch_checks t b)
  pub frames : (t : Table) (b : Batch) → Throughout m.receive (Refuses m.receive) t (reached t b)
  pub decides : (t : Table) (i : ℕ) (gap later : List Step) (indices : List ℕ)
      → All (premises_of m.receive t i (read_as m t gap) (read_as m (ran_steps m t gap) later) indices)
      → verdicts (log_steps m i (ran_steps m t gap) later) ≡ unlimited (at t i).window [] indices
  pub lost : (t : Table) (i : ℕ) (later : List Step) (first : ℕ) (rest : List ℕ)
      → All (lost.premises_of m.receive t i (read_as m t later) (first ∷ rest))
      → (at (ran_steps m t later) i).counts.lost
      ≡ rise (at t i).counts.lost (missed (at t i).window first (handed_of (verdicts (log_steps m i t later)) (first ∷ rest)))
  pub nothing-missed : (t : Table) (i : ℕ) (ss : List Step) (indices : List ℕ)
      → All (close_from m.receive t i (read_as m t ss) (arrivals m.receive i t (read_as m t ss)) indices)
      → refused_arrivals m.receive i t (read_as m t ss) ≡ []
      → NoneMissed (at t i) (at (ran_steps m t ss) i) (verdicts (log_steps m i t ss)) indices
  pub nothing-seen-missed : (t : Table) (i : ℕ) (ss : List Step) (indices : List ℕ)
      → All (close_from m.receive t i (read_as m t ss) (numbers (log_steps m i t ss)) indices)
      → NoneMissed (at t i) (at (ran_steps m t ss) i) (verdicts (log_steps m i t ss)) indices
  pub as-calls : (t : Table) (ss : List Step) → ran_steps m t ss ≡ run m.receive t (read_as m t ss)
  pub seen : (t : Table) (i : ℕ) (ss : List Step) → log_steps m i t ss ≡ log m.receive i t (read_as m t ss)
  pub answered : (t : Table) (b : Batch)
      → (m.batch t b).answers ≡ map (λ (r : Result). some r.said) (results m.receive t (reached t b)) ++ replicate (frames_most - length (results m.receive t (reached t b))) none
  pub left : (t : Table) (b : Batch) → (m.batch t b).table ≡ run m.receive t (reached t b)
  pub packed : (t : Table) (b : Batch) → (m.batch t b).output ≡ overlay (flat_map adds (results m.receive t (reached t b))) b.out

-- ---- the sending side

pub record WrittenSide (side : Side) : Type 0 where
  pub refuses : (s : Sender) (f out0 out1 : List ℕ) (n : ℕ) → First n (send_checks f out0 out1) → side.send s f out0 out1 ≡ refuses s out0 out1 n
  pub refuses-only : (s : Sender) (f out0 out1 : List ℕ) (n : ℕ) → (side.send s f out0 out1).said ≡ refused n → First n (send_checks f out0 out1)
  pub carries : (s : Sender) (calls : List sends.Call) (k : ℕ) (p : Pair) → s.next < 65536 → unbroken calls ≡ true
      → nth (sent side s calls) k ≡ some p → Carries p ((s.next + k) % 65536)
  pub at_first : (calls : List sends.Call) (k : ℕ) (p : Pair) → unbroken calls ≡ true → nth (sent side sender_at_first calls) k ≡ some p → Carries p (k % 65536)
  pub after-reset : (s : Sender) (before later : List sends.Call) (k : ℕ) (p : Pair) → unbroken later ≡ true
      → nth (sent side (ran side s (before ++ sends.resetting ∷ [])) later) k ≡ some p → Carries p (k % 65536)
  pub in_parts : (s : Sender) (before later : List sends.Call) → sent side s (before ++ later) ≡ sent side s before ++ sent side (ran side s before) later
  pub rises : (s : Sender) (calls : List sends.Call) → s.next < 65536 → unbroken calls ≡ true
      → (ran side s calls).next ≡ (s.next + length (sent side s calls)) % 65536
  pub same_bytes : (s : Sender) (calls : List sends.Call) (k : ℕ) (p q : Pair) → s.next < 65536 → unbroken calls ≡ true
      → nth (sent side s calls) k ≡ some p → nth (sent side s calls) (k + 65536) ≡ some q → p.given ≡ q.given → p ≡ q

-- What is asked of both: the premises of demand 3, with frames of the sender for its numbers.
abbrev pub asked_of_both : Receiver → Side → Sender → (calls : List sends.Call) → Table → (slot : ℕ) → (gap later : List Call) → (indices : List ℕ) → List (Type 0)
asked_of_both receive side s calls t i gap later indices =
    ((at t i).rule ≡ vector_rule)
    ∷ (lawful (at t i) ≡ true)
    ∷ ((at t i).time ≤ ticks (log receive i t gap))
    ∷ (every calm (log receive i t gap) ≡ true)
    ∷ (every lasting (log receive i (run receive t gap) later) ≡ true)
    ∷ (s.next < 65536)
    ∷ (unbroken calls ≡ true)
    ∷ CopiesOf (sent side s calls) indices (frames_heard receive i (run receive t gap) later)
    ∷ (all_near (at t i).window [] (counted_from s indices) ≡ true)
    ∷ []

pub record WrittenBoth (receive : Receiver) (side : Side) : Type 0 where
  pub numbered : (s : Sender) (calls : List sends.Call) (t : Table) (i : ℕ) (later : List Call) (indices : List ℕ)
      → s.next < 65536 → unbroken calls ≡ true → CopiesOf (sent side s calls) indices (frames_heard receive i t later)
      → numbers (log receive i t later) ≡ map number_of (counted_from s indices)
  pub at_first : (calls : List sends.Call) (t : Table) (i : ℕ) (later : List Call) (indices : List ℕ)
      → unbroken calls ≡ true → CopiesOf (sent side sender_at_first calls) indices (frames_heard receive i t later)
      → numbers (log receive i t later) ≡ map number_of indices
  pub premises : (s : Sender) (calls : List sends.Call) (t : Table) (i : ℕ) (gap later : List Call) (indices : List ℕ)
      → All (asked_of_both receive side s calls t i gap later indices) → Premises receive t i gap later (counted_from s indices)
  pub decides : (s : Sender) (calls : List sends.Call) (t : Table) (i : ℕ) (gap later : List Call) (indices : List ℕ)
      → All (asked_of_both receive side s calls t i gap later indices)
      → verdicts (log receive i (run receive t gap) later) ≡ unlimited (at t i).window [] (counted_from s indices)
  pub never-twice : (s : Sender) (calls : List sends.Call) (t : Table) (i : ℕ) (gap later : List Call) (indices : List ℕ)
      → All (asked_of_both receive side s calls t i gap later indices)
      → distinct (handed receive t i gap later (counted_from s indices)) ≡ true

-- ---- all of it

pub record WrittenOut : Type 0 where
  -- What the public calls ensure in a run is what the definitions give, and nothing else; so too with batches.
  pub runs : (t : Table) (calls : List Call) (rs : List Result) → Ensured t calls rs ↔ (rs ≡ results the_receiver t calls)
  pub step-runs : (t : Table) (ss : List Step) (gs : List Got) → EnsuredSteps t ss gs ↔ (gs ≡ given_all the_machine t ss)
  -- Of the receiver with unlimited memory.
  pub once : (window : ℕ) (indices : List ℕ) → distinct (handed_of (unlimited window [] indices) indices) ≡ true
  pub for-good : (window : ℕ) (before later : List ℕ) (x : ℕ) → 0 < window → x + window ≤ highest (handed_by window before)
      → elem x (handed_by window before) ≡ false → elem x (handed_by window (before ++ later)) ≡ false
  -- Of every one that meets its contract.
  pub calls : (receive : Receiver) → MeetsContract receive → WrittenCalls receive
  pub lost : (receive : Receiver) → MeetsContract receive → (t : Table) (i : ℕ) (later : List Call) (first : ℕ) (rest : List ℕ)
      → All (lost.premises_of receive t i later (first ∷ rest)) → lost.lost_after receive t i later ≡ lost.lost_said receive t i later first rest
  pub tags : (tagger : Tagger) → MeetsTags tagger → WrittenTags tagger
  pub steps : (m : Machine) → MeetsAll m → WrittenSteps m
  pub sides : (side : Side) → MeetsSide side → WrittenSide side
  pub both : (receive : Receiver) → MeetsContract receive → (side : Side) → MeetsSide side → WrittenBoth receive side
  pub both-steps : (m : Machine) → MeetsAll m → (side : Side) → MeetsSide side
      → (s : Sender) (calls : List sends.Call) (t : Table) (i : ℕ) (gap later : List Step) (indices : List ℕ)
      → All (asked_of_both m.receive side s calls t i (read_as m t gap) (read_as m (ran_steps m t gap) later) indices)
      → verdicts (log_steps m i (ran_steps m t gap) later) ≡ unlimited (at t i).window [] (counted_from s indices)
