-- Demand 1. Assumes nothing.
use Prim.Native.Nat.{ℕ}
use mathlib.Core.List.{List, [], ◌∷◌}
use Rattle.frame.specs.TagCalls.{take_tag, write_tag}
use Rattle.frame.specs.Refusals.{take_checks, write_checks}
use Rattle.frame.proofs.Refusals.{take-refused-exactly, write-refused-exactly}
use Rattle.frame.proofs.Laws.{take-refused-keeps, write-refused-keeps}
use Rattle.calls.specs.Table.{Table}
use Rattle.calls.specs.Calls.{Call}
use Rattle.calls.proofs.Exactly.{refused-exactly}
use Rattle.calls.proofs.Kept.{refused-changes-nothing}
use Rattle.demands.specs.Receiver.{Receiver, MeetsContract, the_receiver, Throughout, Tagger, MeetsTags}
use Rattle.demands.specs.Demand1.{Refuses, Demand1, RefusesTag, Demand1Tags}
use Rattle.demands.proofs.Alike.{carried}

-- One call,
refuses : (t : Table) (c : Call) → Refuses the_receiver t c
unfolding the_receiver
refuses t c = record {
  number = refused-exactly t c;
  records = λ n e. (refused-changes-nothing t c n e).0;
  bytes = λ n e. (refused-changes-nothing t c n e).1;
}

-- and each of a run.
throughout : (receive : Receiver) (P : Table → Call → Type 0) → ((t : Table) (c : Call) → P t c)
    → (t : Table) (calls : List Call) → Throughout receive P t calls
unfolding Throughout
throughout receive P p t [] = tt
throughout receive P p t (c ∷ cs) = (p t c, throughout receive P p (receive t c).table cs)

one : Demand1 the_receiver
one t calls = throughout the_receiver (Refuses the_receiver) refuses t calls

pub demand-1 : {receive : Receiver} → MeetsContract receive → Demand1 receive
demand-1 m = carried Demand1 one m

-- The two calls that have no table.
taken : (f out : List ℕ) → RefusesTag (take_tag f out) (take_checks f out) out
taken f out = record { number = take-refused-exactly f out; bytes = take-refused-keeps f out }

written : (f : List ℕ) (number : ℕ) (out : List ℕ) → RefusesTag (write_tag f number out) (write_checks f out) out
written f number out = record { number = write-refused-exactly f number out; bytes = write-refused-keeps f number out }

pub demand-1-tags : {tagger : Tagger} → MeetsTags tagger → Demand1Tags tagger
demand-1-tags m = record {
  take = λ f out. rw (m.take f out) (taken f out);
  write = λ f number out. rw (m.write f number out) (written f number out);
}
