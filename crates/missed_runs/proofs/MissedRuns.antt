-- The runs of `specs/MissedRuns` compute. Assumes nothing.
use Prim.Native.Nat.{ℕ, ◌-◌, ◌^◌}
use mathlib.Core.Path.{◌≡◌, refl}
use mathlib.Core.Bool.{Bool, true, false, false≢true}
use mathlib.Core.List.{List, [], ◌∷◌, flat_map, cons≢nil, head-eq_of_cons-eq, tail-eq_of_cons-eq}
use native.Mathlib.Omega.{arith}
use lib.Dec.{eqb}
use lib.IntN.{ℤ, pos}
use Rattle.record.specs.declared.Stream.{Stream}
use Rattle.std.specs.Prelude.{if◌then◌else◌}
use Rattle.frame.specs.Bytes.{overlay}
use Rattle.stream.specs.Decisions.{duplicate}
use Rattle.calls.specs.Table.{Table, blank}
use Rattle.calls.specs.Calls.{Call, arriving, linking, opening, closing, resetting, ticking, Act, refuse, arrive, opens, closes, resets, ticks, act, answer, Answer, out_of, Result}
use Rattle.batch.specs.Batch.{runs_past, frames_in, adds_for, ends, turns_in, comes_to, reached, table_after, packed, before, answers_of, bundle, batch_of}
use Rattle.demands.specs.Steps.{the_machine, table_of, ran_steps, calls_of, read_as, seen_in, seen_of_step, log_steps}
use Rattle.demands.specs.Seen.{Seen, arrived, tick, ended, nothing, heard, answered, seen_of, seen, log, verdicts}
use Rattle.demands.specs.Corollaries.{handed_of, distinct, sum_of, sum_once}
use Rattle.demands.specs.Lost.{absent}
use Rattle.demands.specs.Examples.{from, alone}
use Rattle.demands.specs.Needed.{All}
use Rattle.demands.specs.Receiver.{the_receiver}
use Rattle.demands.specs.Missed.{all_close, firsts, Unbroken, number_for, arrivals, refused_arrivals}
use Rattle.demands.specs.Wrong.{by_act, deciding, finds_duplicates, marks_nothing, hands_up_all}
use Rattle.demands.proofs.Alike.{the-receiver-meets}
use Rattle.demands.proofs.Stepping.{the-machine-meets}
use Rattle.demands.proofs.Missed.{nothing-seen-missed, nothing-missed, nothing-seen-missed-steps, nothing-missed-steps}
use Rattle.demands.proofs.Computing.{computing}
use Rattle.lost_runs.specs.LostRuns.{begin, sent}
use Rattle.missed_runs.specs.MissedRuns.{dead, dead_indices, swapped, swapped_indices, drawn, drawn_indices, strides, drawn_steps, cut_steps, whole_steps, only_higher, duplicate_is_rogue, counts_no_loss, says_done, finds_unknown, asked, MissedPremisesAre, MissedShown, ClosePinned, MissedPremisesNeeded, ArrivalsShown, BeginsShown, MissedStepsShown, HandsUpNothing, OnlyHigher, RuledOutByOne, NoneDropped}

unbroken : {t : Table} {i : ℕ} {calls : List Call} {turned came indices : List ℕ} → All (asked t i calls turned came indices)
    → Unbroken the_receiver t i calls came indices
unbroken a = record {
  fresh = record { vector = a.0; lawful = a.1.0; any = a.1.1.0 };
  lasts = a.1.1.1.0;
  numbered = a.1.1.1.1.1.0;
  close = a.1.1.1.1.1.1.0;
}

pub missed-premises-are : MissedPremisesAre
unfolding the_machine
missed-premises-are = record {
  arriving = λ t i calls indices a. nothing-missed the-receiver-meets t i calls indices (unbroken a) a.1.1.1.1.0;
  seen = λ t i calls indices a. nothing-seen-missed the-receiver-meets t i calls indices (unbroken a);
  steps = λ t i steps indices a. nothing-missed-steps the-machine-meets t i steps indices (unbroken a) a.1.1.1.1.0;
  seen-steps = λ t i steps indices a. nothing-seen-missed-steps the-machine-meets t i steps indices (unbroken a);
}

pub missed-shown : MissedShown
unfolding computing all_close firsts number_for arrivals refused_arrivals begin sent dead dead_indices swapped swapped_indices drawn drawn_indices
missed-shown = record {
  dead = record { premises = (refl, (refl, (refl, (refl, (refl, (refl, (refl, tt))))))); given = refl; rogue = refl; lost = refl };
  swapped = record { premises = (refl, (refl, (refl, (refl, (refl, (refl, (refl, tt))))))); given = refl; rogue = refl; lost = refl };
  drawn = record { premises = (refl, (refl, (refl, (refl, (refl, (refl, (refl, tt))))))); given = refl; rogue = refl; lost = refl };
  beside = record { premises = (refl, (refl, (refl, (refl, (refl, (refl, (refl, tt))))))); given = refl; rogue = refl; lost = refl };
  silent = record { premises = (refl, (refl, (refl, (refl, (refl, (refl, (refl, tt))))))); given = refl; rogue = refl; lost = refl };
}

pub close-pinned : ClosePinned
unfolding computing all_close firsts number_for arrivals refused_arrivals sent strides
close-pinned = record {
  reached = (
    record { within = refl; shown = record { premises = (refl, (refl, (refl, (refl, (refl, (refl, (refl, tt))))))); given = refl; rogue = refl; lost = refl } },
    record { within = refl; shown = record { premises = (refl, (refl, (refl, (refl, (refl, (refl, (refl, tt))))))); given = refl; rogue = refl; lost = refl } },
    record { within = refl; shown = record { premises = (refl, (refl, (refl, (refl, (refl, (refl, (refl, tt))))))); given = refl; rogue = refl; lost = refl } },
    record { within = refl; shown = record { premises = (refl, (refl, (refl, (refl, (refl, (refl, (refl, tt))))))); given = refl; rogue = refl; lost = refl } },
    record { within = refl; shown = record { premises = (refl, (refl, (refl, (refl, (refl, (refl, (refl, tt))))))); given = refl; rogue = refl; lost = refl } },
    record { within = refl; shown = record { premises = (refl, (refl, (refl, (refl, (refl, (refl, (refl, tt))))))); given = refl; rogue = refl; lost = refl } },
    record { within = refl; shown = record { premises = (refl, (refl, (refl, (refl, (refl, (refl, (refl, tt))))))); given = refl; rogue = refl; lost = refl } },
    record { within = refl; shown = record { premises = (refl, (refl, (refl, (refl, (refl, (refl, (refl, tt))))))); given = refl; rogue = refl; lost = refl } },
  );
  round = refl;
  sharp = (
    record { beyond = refl; close = record { broken = (refl, (refl, (refl, (refl, (refl, (refl, (false≢true, tt))))))); given = refl; wanted = refl } },
    record { beyond = refl; close = record { broken = (refl, (refl, (refl, (refl, (refl, (refl, (false≢true, tt))))))); given = refl; wanted = refl } },
    record { beyond = refl; close = record { broken = (refl, (refl, (refl, (refl, (refl, (refl, (false≢true, tt))))))); given = refl; wanted = refl } },
    record { beyond = refl; close = record { broken = (refl, (refl, (refl, (refl, (refl, (refl, (false≢true, tt))))))); given = refl; wanted = refl } },
    record { beyond = refl; close = record { broken = (refl, (refl, (refl, (refl, (refl, (refl, (false≢true, tt))))))); given = refl; wanted = refl } },
    record { beyond = refl; close = record { broken = (refl, (refl, (refl, (refl, (refl, (refl, (false≢true, tt))))))); given = refl; wanted = refl } },
  );
}

-- A list that is not empty is no empty one, and 7 is not 8.
some-refused : ◌≡◌ {A = List ℕ} (28 ∷ []) [] → ⊥
some-refused = cons≢nil

no_number : ◌≡◌ {A = List ℕ} (7 ∷ 7 ∷ []) (7 ∷ 8 ∷ []) → ⊥
no_number e = let z : ◌≡◌ {A = ℕ} 7 8 = head-eq_of_cons-eq (tail-eq_of_cons-eq e) in omega arith

pub missed-premises-needed : MissedPremisesNeeded
unfolding computing all_close firsts number_for arrivals refused_arrivals begin sent
missed-premises-needed = record {
  matching = record { broken = (λ e. (let z : ◌≡◌ {A = ℕ} 2 1 = e in omega arith), (refl, (refl, (refl, (refl, (refl, (refl, tt))))))); given = refl; wanted = refl };
  free = record { broken = (refl, (false≢true, (refl, (refl, (refl, (refl, (refl, tt))))))); given = refl; wanted = refl };
  begun = record { broken = (refl, (refl, (false≢true, (refl, (refl, (refl, (refl, tt))))))); given = refl; wanted = refl };
  ticked = record { broken = (refl, (refl, (refl, (false≢true, (refl, (refl, (refl, tt))))))); given = refl; wanted = refl };
  reset = record { broken = (refl, (refl, (refl, (false≢true, (refl, (refl, (refl, tt))))))); given = refl; wanted = refl };
  reopened = record { broken = (refl, (refl, (refl, (false≢true, (refl, (refl, (refl, tt))))))); given = refl; wanted = refl };
  no_room = record { broken = (refl, (refl, (refl, (refl, (some-refused, (refl, (refl, tt))))))); given = refl; wanted = refl };
  no-network = record { broken = (refl, (refl, (refl, (refl, (some-refused, (refl, (refl, tt))))))); given = refl; wanted = refl };
  renumbered = record { broken = (refl, (refl, (refl, (refl, (refl, (no_number, (refl, tt))))))); given = refl; wanted = refl };
  ahead = record { broken = (refl, (refl, (refl, (refl, (refl, (refl, (false≢true, tt))))))); given = refl; wanted = refl };
  ahead-lost = refl;
  behind = record { broken = (refl, (refl, (refl, (refl, (refl, (refl, (false≢true, tt))))))); given = refl; wanted = refl };
}

pub arrivals-shown : ArrivalsShown
unfolding computing number_for begin
arrivals-shown = record {
  four = refl;
  many-slots = (refl, refl);
  no-network = (refl, refl);
  damaged = (refl, refl);
  no_room = (refl, refl);
  untagged = refl;
  grouped = refl;
  other_key = (refl, refl);
  lower-slot = (refl, refl);
}

pub begins-shown : BeginsShown
unfolding computing
begins-shown = record { opened = refl; reset = refl; ticked = refl }

pub missed-steps-shown : MissedStepsShown
unfolding computing all_close number_for arrivals refused_arrivals begin drawn_indices flat_map overlay runs_past frames_in adds_for ends turns_in comes_to reached table_after packed before answers_of bundle batch_of the_machine table_of ran_steps calls_of read_as seen_in seen_of_step log_steps drawn_steps cut_steps whole_steps
missed-steps-shown = record {
  premises = record { fresh = record { vector = refl; lawful = refl; any = refl }; lasts = refl; numbered = refl; close = refl };
  none-refused = refl;
  given = refl;
  cut-arrivals = refl;
  cut-refused = refl;
  whole = refl;
}

-- ---- two wrong receivers

-- What a stream sees is no hand-up.
abbrev Quiet : Seen → Type 0
Quiet (arrived n v) = v ≡ duplicate
Quiet (tick b) = Unit {0}
Quiet ended = Unit {0}
Quiet nothing = Unit {0}

quiet_if : (b : Bool) (x y : Seen) → Quiet x → Quiet y → Quiet (if b then x else y)
quiet_if true x y p q = p
quiet_if false x y p q = q

quiet-answer : (i : ℕ) (t : Table) (c : Call) (r : Result) (a : Answer) → Quiet (heard i a) → Quiet (answered i t c r a)
unfolding answered
quiet-answer i t (arriving network f out) r a q = q
quiet-answer i t (linking network f out) r a q = q
quiet-answer i t (opening dest vlan rule window time) r a q = tt
quiet-answer i t (closing j) r a q = quiet_if (eqb j i) ended nothing tt tt
quiet-answer i t (resetting j) r a q = quiet_if (eqb j i) ended nothing tt tt
quiet-answer i t ticking r a q = tt

-- A receiver that finds every arrival a duplicate, whatever it stores.
module _ (d : Stream → (number network : ℕ) → Stream) where
  quiet-act : (i : ℕ) (t : Table) (c : Call) (a : Act) → Quiet (seen i t c (by_act (λ s n. duplicate) d t (out_of c) a))
  unfolding by_act seen_of answer
  quiet-act i t c (refuse n) = tt
  quiet-act i t c (arrive j n w x bare) =
      quiet-answer i t c (by_act (λ s n. duplicate) d t (out_of c) (arrive j n w x bare)) _ (quiet_if (eqb j i) (arrived n duplicate) nothing refl tt)
  quiet-act i t c (opens j s) = quiet-answer i t c (by_act (λ s n. duplicate) d t (out_of c) (opens j s)) _ tt
  quiet-act i t c (closes j) = quiet-answer i t c (by_act (λ s n. duplicate) d t (out_of c) (closes j)) _ tt
  quiet-act i t c (resets j) = quiet-answer i t c (by_act (λ s n. duplicate) d t (out_of c) (resets j)) _ tt
  quiet-act i t c ticks = quiet-answer i t c (by_act (λ s n. duplicate) d t (out_of c) ticks) _ tt

one_more : (e : Seen) (es : List Seen) (xs : List ℕ) → Quiet e → ((ys : List ℕ) → handed_of (verdicts es) ys ≡ [])
    → handed_of (verdicts (e ∷ es)) xs ≡ []
unfolding verdicts handed_of
one_more (arrived n v) es [] q f = refl
one_more (arrived n v) es (x ∷ xs) q f = rw q (f xs)
one_more (tick b) es xs q f = f xs
one_more ended es xs q f = f xs
one_more nothing es xs q f = f xs

none-up : (i : ℕ) (t : Table) (calls : List Call) (xs : List ℕ) → handed_of (verdicts (log finds_duplicates i t calls)) xs ≡ []
unfolding log verdicts handed_of finds_duplicates deciding
none-up i t [] xs = refl
none-up i t (c ∷ cs) xs =
    one_more (seen i t c (finds_duplicates t c)) (log finds_duplicates i (finds_duplicates t c).table cs) xs
    (quiet-act _ i t c (act t c)) (none-up i (finds_duplicates t c).table cs)

pub hands-up-nothing : HandsUpNothing
unfolding computing all_close number_for arrivals refused_arrivals begin sent distinct handed_of by_act deciding finds_duplicates
hands-up-nothing = record {
  at-most-once = λ t i calls indices p e. rw (none-up i t calls indices);
  misses = λ h. false≢true ((h begin 0 (sent (7 ∷ [])) (7 ∷ []) (record { fresh = record { vector = refl; lawful = refl; any = refl }; lasts = refl; numbered = refl; close = refl }) refl).exactly.each 7);
}

pub only-higher : OnlyHigher
unfolding computing all_close firsts number_for arrivals refused_arrivals begin sent drawn drawn_indices handed_of by_act deciding only_higher
only-higher = record {
  given = refl;
  misses = λ h. false≢true (head-eq_of_cons-eq (tail-eq_of_cons-eq (h begin 0 (sent (8 ∷ 7 ∷ [])) (8 ∷ 7 ∷ []) (record { fresh = record { vector = refl; lawful = refl; any = refl }; lasts = refl; numbered = refl; close = refl }) refl).exactly.at_first));
}

pub ruled-out-by-one : RuledOutByOne
unfolding computing all_close number_for arrivals refused_arrivals begin sent dead dead_indices distinct handed_of sum_of sum_once absent by_act deciding marks_nothing hands_up_all duplicate_is_rogue counts_no_loss
ruled-out-by-one = record {
  marks-nothing = λ h. false≢true (h begin 0 (sent (7 ∷ 7 ∷ [])) (7 ∷ 7 ∷ []) (record { fresh = record { vector = refl; lawful = refl; any = refl }; lasts = refl; numbered = refl; close = refl }) refl).exactly.once;
  hands-up-all = λ h.
      (let z : ◌≡◌ {A = ℤ} (pos 22) (pos 15) = (h begin 0 (sent (7 ∷ 8 ∷ 7 ∷ [])) (7 ∷ 8 ∷ 7 ∷ []) (record { fresh = record { vector = refl; lawful = refl; any = refl }; lasts = refl; numbered = refl; close = refl }) refl).exactly.sums (λ x. pos x) in
      let y : ◌≡◌ {A = ℕ} 22 15 = cc in omega arith);
  duplicate-is-rogue = λ h. (let z : ◌≡◌ {A = ℕ} 1 0 = (h begin 0 (sent (7 ∷ 7 ∷ [])) (7 ∷ 7 ∷ []) (record { fresh = record { vector = refl; lawful = refl; any = refl }; lasts = refl; numbered = refl; close = refl }) refl).no-rogue in omega arith);
  counts-no-loss = λ h. (let z : ◌≡◌ {A = ℕ} (2 ^ 64 - 1) 0 = (h begin 0 dead dead_indices (record { fresh = record { vector = refl; lawful = refl; any = refl }; lasts = refl; numbered = refl; close = refl }) refl).lost in omega arith);
}

-- Slot 1 has the key, and is damaged.
pub none_dropped : NoneDropped
unfolding computing number_for says_done finds_unknown
none_dropped = record {
  says-done = λ h. (let z : ◌≡◌ {A = List ℕ} (7 ∷ []) [] = h (blank ∷ alone 1 3 3) 1 (from 0 1 7) in cons≢nil z);
  finds-unknown = λ h. false≢true (h (blank ∷ alone 1 3 3) 1 (from 0 1 7) 7 6 refl refl);
}
