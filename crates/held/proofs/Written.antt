-- Each line of `specs/Written`, from the lists of theorems. Assumes nothing.
use Prim.Native.Nat.{ℕ}
use mathlib.Core.Path.{◌≡◌, refl, sym, subst}
use mathlib.Core.List.{List, [], ◌∷◌}
use lib.Dec.{lit≤}
use Rattle.refusal.specs.Checks.{Said}
use Rattle.frame.specs.TagCalls.{Outcome}
use Rattle.calls.specs.Table.{Table}
use Rattle.calls.specs.Calls.{Call, Result}
use Rattle.batch.specs.Batch.{Batch, batch_of}
use Rattle.demands.specs.Receiver.{Receiver, MeetsContract, the_receiver, results, Throughout, Ensured, Tagger, MeetsTags}
use Rattle.demands.specs.Demand1.{Refuses}
use Rattle.demands.specs.Steps.{Step, single, batch, Machine, MeetsAll, the_machine, table_of, RefusesBatch, EachStep, EnsuredSteps, given, given_all}
use Rattle.demands.specs.Needed.{All}
use Rattle.demands.specs.Theorems.{Demands, StepDemands}
use Rattle.demands.proofs.Theorems as demands
use Rattle.lost_runs.proofs.LostRuns.{lost-premises-are}
use Rattle.sender.specs.declared.Sender.{Sender}
use Rattle.sender.specs.Runs as sends
use Rattle.sender.specs.Runs.{Side, MeetsSide, SentNumbered}
use Rattle.both_sides.specs.Demand1Sent.{Demand1Sent}
use Rattle.both_sides.specs.Demand3Sent.{PremisesSent}
use Rattle.both_sides.specs.Theorems.{Both}
use Rattle.both_sides.proofs.Theorems as both-sides
use Rattle.held.specs.Written.{asked_of_both, WrittenCalls, WrittenTags, WrittenSteps, WrittenSide, WrittenBoth, WrittenOut}

-- A result and an outcome are their parts.
pub result : (r : Result) (s : Said _) (t : Table) (o : List ℕ) → r.said ≡ s → r.table ≡ t → r.output ≡ o → r ≡ record { said = s; table = t; output = o }
result r s t o e f g i = record { said = e i; table = f i; output = g i }

pub outcome : {A : Type 0} (r : Outcome A) (s : Said A) (o : List ℕ) → r.said ≡ s → r.bytes ≡ o → r ≡ record { said = s; bytes = o }
outcome r s o e f i = record { said = e i; bytes = f i }

module _ {receive : Receiver} (m : MeetsContract receive) where
  d : Demands receive
  d = (demands.theorems).demands receive m

  one : (t : Table) (c : Call) → Refuses receive t c
  unfolding Throughout
  one t c = (d.demand-1 t (c ∷ [])).0

  written-calls : WrittenCalls receive
  written-calls = record {
    refuses = λ t c n h. let e = ((one t c).number n).1 h in result (receive t c) _ _ _ e ((one t c).records n e) ((one t c).bytes n e);
    refuses-only = λ t c n e. ((one t c).number n).0 e;
    gives = λ t c. result (receive t c) _ _ _ (d.demand-2 t c).said (d.demand-2 t c).table (d.demand-2 t c).output;
    recovered = λ t w f o i n x v e. let r = d.arrivals-recovered t w f o i n x v e in (r.number, r.rank, r.verdict, r.records);
    links = λ t w f o i n x v e. let r = d.links-recovered t w f o i n x v e in (r.rule, r.number, r.rank, r.verdict, r.records);
    decides = λ t i gap later xs a. d.demand-3 t i gap later xs (((demands.theorems).premises-are receive t i gap later xs).0 a);
    never-twice = λ t i gap later xs a. d.never-twice t i gap later xs (((demands.theorems).premises-are receive t i gap later xs).0 a);
    counts-once = λ t i gap later xs f a. d.counts-once t i gap later xs f (((demands.theorems).premises-are receive t i gap later xs).0 a);
    restart = λ t i gap c n x v p q r e. d.restart-gets-through t i gap c n x v (record { lawful = p; long = q; calm = r }) e;
    fresh = λ t i later xs a. d.fresh-decides t i later xs a.1.0 a.1.1.0 a.0 (record { lasts = a.1.1.1.0; numbered = a.1.1.1.1.0; near = a.1.1.1.1.1.0 });
    opened = λ t dest vlan w r i later xs e a. d.opened-decides t dest vlan w r i later xs e (record { lasts = a.0; numbered = a.1.0; near = a.1.1.0 });
    opened-lost = λ t dest vlan w r i later x xs e a. d.opened-lost t dest vlan w r i later x xs e (record { lasts = a.0; numbered = a.1.0; near = a.1.1.0 });
    fresh-lost = d.fresh-lost;
    nothing-missed = λ t i cs xs a e. d.nothing-missed t i cs xs (record { fresh = a.0; lasts = a.1.0; numbered = a.1.1.0; close = a.1.1.1.0 }) e;
    nothing-seen-missed = λ t i cs xs a. d.nothing-seen-missed t i cs xs (record { fresh = a.0; lasts = a.1.0; numbered = a.1.1.0; close = a.1.1.1.0 });
    seen-or-refused = λ t i c. d.seen-or-refused t i c;
    refused-with = λ t i c x n p e. d.refused-with t i c x n p e;
    resets-seen = λ t i streams records e. d.resets-seen t i streams records e;
    begins-opened = λ t dest vlan w r i e. (d.begins-fresh t i).opened dest vlan w r e;
    begins-reset = λ t i p e. (d.begins-fresh t i).reset p e;
    begins-ticked = λ t i p e. (d.begins-fresh t i).ticked p e;
  }

written-tags : {tagger : Tagger} → MeetsTags tagger → WrittenTags tagger
written-tags {tagger} m =
    let one = (demands.theorems).tags-1 tagger m in
    let two = (demands.theorems).tags-2 tagger m in record {
      take = λ f out n h. let e = ((one.take f out).number n).1 h in outcome (tagger.take f out) _ _ e ((one.take f out).bytes n e);
      taken = λ f out n e. ((one.take f out).number n).0 e;
      write = λ f x out n h. let e = ((one.write f x out).number n).1 h in outcome (tagger.write f x out) _ _ e ((one.write f x out).bytes n e);
      written = λ f x out n e. ((one.write f x out).number n).0 e;
      gives = λ f x out. (two.take f out, two.write f x out);
    }

module _ {m : Machine} (k : MeetsAll m) where
  s : StepDemands m
  s = (demands.theorems).step-demands m k

  first : (t : Table) (b : Batch) → RefusesBatch m t b
  unfolding EachStep
  first t b = (s.demand-1-steps t (batch b ∷ [])).0

  written-steps : WrittenSteps m
  written-steps = record {
    refuses = λ t b n h. let e = ((first t b).number n).1 h in (e, (first t b).records n e, (first t b).bytes n e, (first t b).none-reached n e);
    refuses-only = λ t b n e. ((first t b).number n).0 e;
    frames = λ t b. (first t b).frames;
    decides = λ t i gap later xs a. s.demand-3-steps t i gap later xs (((demands.theorems).premises-are m.receive t i _ _ xs).0 a);
    lost = λ t i later x xs a. s.fresh-lost-steps t i later x xs a.1.0 a.1.1.0 a.0 (record { lasts = a.1.1.1.0; numbered = a.1.1.1.1.0; near = a.1.1.1.1.1.0 });
    nothing-missed = λ t i ss xs a e. s.nothing-missed-steps t i ss xs (record { fresh = a.0; lasts = a.1.0; numbered = a.1.1.0; close = a.1.1.1.0 }) e;
    nothing-seen-missed = λ t i ss xs a. s.nothing-seen-missed-steps t i ss xs (record { fresh = a.0; lasts = a.1.0; numbered = a.1.1.0; close = a.1.1.1.0 });
    as-calls = λ t ss. s.steps-are-calls t ss;
    seen = λ t i ss. s.seen-as-calls t i ss;
    answered = λ t b. (s.batches-are-calls t b).answers;
    left = λ t b. (s.batches-are-calls t b).table;
    packed = λ t b. (s.batches-are-calls t b).output;
  }

module _ {side : Side} (m : MeetsSide side) where
  n : SentNumbered side
  n = (both-sides.theorems).sides-number side m

  sent-one : Demand1Sent side
  sent-one = (both-sides.theorems).demand-1-sent side m

  written-side : WrittenSide side
  written-side = record {
    refuses = λ s f out0 out1 k h. sent-one.keeps s f out0 out1 k ((sent-one.number s f out0 out1 k).1 h);
    refuses-only = λ s f out0 out1 k e. (sent-one.number s f out0 out1 k).0 e;
    carries = λ s calls k p b u e. n.sent-from s calls k p (record { sixteen = b; whole = u }) e;
    at_first = λ calls k p u e. n.sent-at-first calls k p u e;
    after-reset = λ s before later k p u e. n.sent-after-reset s before later k p u e;
    in_parts = λ s before later. n.sent-in-parts s before later;
    rises = λ s calls b u. n.next-rises s calls (record { sixteen = b; whole = u });
    same_bytes = λ s calls k p q b u e f g. n.same_bytes s calls k p q (record { sixteen = b; whole = u }) e f g;
  }

sent-premises : (receive : Receiver) (side : Side) (s : Sender) (calls : List sends.Call) (t : Table) (i : ℕ) (gap later : List Call) (xs : List ℕ)
    → All (asked_of_both receive side s calls t i gap later xs) → PremisesSent receive side s calls t i gap later xs
sent-premises receive side s calls t i gap later xs a = record {
  vector = a.0;
  silent = record { lawful = a.1.0; long = a.1.1.0; calm = a.1.1.1.0 };
  lasts = a.1.1.1.1.0;
  from-sender = record { sends = record { sixteen = a.1.1.1.1.1.0; whole = a.1.1.1.1.1.1.0 }; copies = a.1.1.1.1.1.1.1.0 };
  near = a.1.1.1.1.1.1.1.1.0;
}

module _ {receive : Receiver} (k : MeetsContract receive) {side : Side} (m : MeetsSide side) where
  b : Both receive side
  b = (both-sides.theorems).both receive k side m

  written_both : WrittenBoth receive side
  written_both = record {
    numbered = λ s calls t i later xs p u c. b.sent-are-numbered s calls t i later xs (record { sends = record { sixteen = p; whole = u }; copies = c });
    at_first = λ calls t i later xs u c. b.sent-at-first-are-numbered calls t i later xs (record { sends = record { sixteen = lit≤ tt; whole = u }; copies = c });
    premises = λ s calls t i gap later xs a. b.premises-met s calls t i gap later xs (sent-premises receive side s calls t i gap later xs a);
    decides = λ s calls t i gap later xs a. b.demand-3-sent s calls t i gap later xs (sent-premises receive side s calls t i gap later xs a);
    never-twice = λ s calls t i gap later xs a. b.never-twice-sent s calls t i gap later xs (sent-premises receive side s calls t i gap later xs a);
  }

-- What the definitions give is ensured.
ensured : (t : Table) (calls : List Call) → Ensured t calls (results the_receiver t calls)
unfolding Ensured results the_receiver
ensured t [] = tt
ensured t (c ∷ cs) = ((demands.theorems).met t c, ensured (the_receiver t c).table cs)

ensured-steps : (t : Table) (ss : List Step) → EnsuredSteps t ss (given_all the_machine t ss)
unfolding EnsuredSteps given_all given table_of the_machine the_receiver
ensured-steps t [] = tt
ensured-steps t (single c ∷ ss) = ((demands.theorems).met t c, ensured-steps (the_receiver t c).table ss)
ensured-steps t (batch b ∷ ss) = (record { said = refl; table = refl; output = refl }, ensured-steps (batch_of t b).table ss)

pub written_out : WrittenOut
written_out = record {
  runs = λ t cs rs. ((demands.theorems).runs-coincide t cs rs, λ e. subst (Ensured t cs) (sym e) (ensured t cs));
  step-runs = λ t ss gs. ((demands.theorems).steps-coincide t ss gs, λ e. subst (EnsuredSteps t ss) (sym e) (ensured-steps t ss));
  once = λ w xs. (demands.theorems).unlimited-never-twice w xs;
  for-good = λ w before later x p q e. (demands.theorems).lost-for-good w before later x p q e;
  calls = λ receive m. written-calls m;
  lost = λ receive m t i later x xs a. lost-premises-are receive m t i later x xs a;
  tags = λ tagger m. written-tags m;
  steps = λ m k. written-steps k;
  sides = λ side m. written-side m;
  both = λ receive k side m. written_both k m;
  both-steps = λ m k side n s calls t i gap later xs a.
      (both-sides.theorems).steps m k side n s calls t i gap later xs (sent-premises m.receive side s calls t i _ _ xs a);
}
