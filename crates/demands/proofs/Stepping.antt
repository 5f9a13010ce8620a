-- A run of steps is the calls that it is read as: demands 1 and 3 of it, and what lost means. Assumes nothing.
use Prim.Native.Nat.{ℕ}
use mathlib.Core.Path.{◌≡◌, refl, ap, sym, ◌∙◌, subst}
use mathlib.Core.List.{List, [], ◌∷◌, ◌++◌}
use native.Mathlib.Omega.{arith}
use Rattle.refusal.specs.Checks.{Said}
use Rattle.refusal.specs.Checks.Said.{refused, answers}
use Rattle.frame.specs.Bytes.{overlay}
use Rattle.stream.specs.Decisions.{rise}
use Rattle.calls.specs.Table.{Table, at}
use Rattle.calls.specs.Calls.{Call}
use Rattle.calls.proofs.Kept.{coincide}
use Rattle.batch.specs.Batch.{Batch, Turn, comes_to, turns_of, reached, bundle, batch_of}
use Rattle.batch.proofs.Refusing.{refused-exactly, refused-changes-nothing}
use Rattle.batch.proofs.Turns.{turns_by, answers-are}
use Rattle.demands.specs.Receiver.{the_receiver, run, Throughout}
use Rattle.demands.specs.Seen.{Seen, seen, log, verdicts}
use Rattle.demands.specs.Corollaries.{handed_of}
use Rattle.demands.specs.Lost.{missed, FreshLostSteps}
use Rattle.demands.specs.Steps.{Step, single, batch, Machine, MeetsAll, the_machine, table_of, ran_steps, calls_of, read_as, StepsAreCalls, AsCalls, BatchesAreCalls, RefusesStep, EachStep, Demand1Steps, seen_in, seen_of_step, log_steps, SeenAsCalls, Demand3Steps, Got, result, told, left_by, EnsuredStep, EnsuredSteps, given, given_all, StepsCoincide}
use Rattle.demands.proofs.Alike.{alike, the-receiver-meets}
use Rattle.demands.proofs.One.{demand-1}
use Rattle.demands.proofs.Three.{demand-3}
use Rattle.demands.proofs.Lost.{fresh-lost}
use Rattle.demands.proofs.Turns.{calls_in, same-results, same-table, same_seen, answers-results, packed-results, table_is, output-is}

-- ---- a machine that meets the documents is the definitions'

same-machine : {m : Machine} → MeetsAll m → m ≡ the_machine
unfolding the_machine
same-machine k = λ i. record { receive = alike k.receive i; batch = λ t b. k.batch t b i }

pub carried : (P : Machine → Type 0) → P the_machine → {m : Machine} → MeetsAll m → P m
carried P p k = subst P (sym (same-machine k)) p

pub the-machine-meets : MeetsAll the_machine
unfolding the_machine
the-machine-meets = record { receive = the-receiver-meets; batch = λ t b. refl }

-- ---- one batch

as-calls : BatchesAreCalls the_machine
unfolding the_machine reached
as-calls t b = subst (AsCalls the_machine t b) (sym (same-results t b)) (record {
  answers = answers-are t b ∙ answers-results (turns_by t b);
  table = table_is t b ∙ same-table t b;
  output = output-is t b ∙ ap (λ (bs : List ℕ). overlay bs b.out) (packed-results (turns_by t b));
})

none-reached : (t : Table) (b : Batch) (n : ℕ) → (batch_of t b).said ≡ refused n → reached t b ≡ []
unfolding batch_of bundle reached
none-reached t b n e = go (comes_to t b) e
  where
    go : (s : Said (List Turn)) → (bundle t b.out s).said ≡ refused n → calls_in (turns_of s) ≡ []
    go (refused m) e = refl
    go (answers us) e = absurd (let z : ◌≡◌ {A = ℕ} 0 1 = cc in omega arith)

refuses : (t : Table) (s : Step) → RefusesStep the_machine t s
unfolding the_machine Throughout
refuses t (single c) = (demand-1 the-receiver-meets t (c ∷ [])).0
refuses t (batch b) = record {
  number = refused-exactly t b;
  records = λ n e. (refused-changes-nothing t b n e).0;
  bytes = λ n e. (refused-changes-nothing t b n e).1;
  none-reached = none-reached t b;
  frames = demand-1 the-receiver-meets t (reached t b);
}

each : (m : Machine) (P : Table → Step → Type 0) → ((t : Table) (s : Step) → P t s) → (t : Table) (ss : List Step) → EachStep m P t ss
unfolding EachStep
each m P p t [] = tt
each m P p t (s ∷ ss) = (p t s, each m P p (table_of m t s) ss)

-- ---- runs of steps

-- the table after one step, and what a stream sees of it
table-of : (t : Table) (s : Step) → table_of the_machine t s ≡ run the_receiver t (calls_of t s)
unfolding the_machine table_of calls_of run
table-of t (single c) = refl
table-of t (batch b) = (as-calls t b).table

seen_of : (i : ℕ) (t : Table) (s : Step) → seen_of_step the_machine i t s ≡ log the_receiver i t (calls_of t s)
unfolding the_machine seen_of_step calls_of log reached
seen_of i t (single c) = refl
seen_of i t (batch b) = ap (seen_in i) (answers-are t b) ∙ same_seen i t b

run-append : (t : Table) (cs ds : List Call) → run the_receiver t (cs ++ ds) ≡ run the_receiver (run the_receiver t cs) ds
unfolding run
run-append t [] ds = refl
run-append t (c ∷ cs) ds = run-append (the_receiver t c).table cs ds

log-append : (i : ℕ) (t : Table) (cs ds : List Call) → log the_receiver i t (cs ++ ds) ≡ log the_receiver i t cs ++ log the_receiver i (run the_receiver t cs) ds
unfolding run log
log-append i t [] ds = refl
log-append i t (c ∷ cs) ds = ap (λ (es : List Seen). seen i t c (the_receiver t c) ∷ es) (log-append i (the_receiver t c).table cs ds)

steps : StepsAreCalls the_machine
unfolding the_machine ran_steps read_as run
steps t [] = refl
steps t (s ∷ ss) =
    let rest : List Call = read_as the_machine (table_of the_machine t s) ss in
    steps (table_of the_machine t s) ss
    ∙ ap (λ (u : Table). run the_receiver u rest) (table-of t s)
    ∙ sym (run-append t (calls_of t s) rest)

seen-steps : SeenAsCalls the_machine
unfolding the_machine log_steps read_as log
seen-steps t i [] = refl
seen-steps t i (s ∷ ss) =
    let rest : List Call = read_as the_machine (table_of the_machine t s) ss in
    (λ j. seen_of i t s j ++ (seen-steps (table_of the_machine t s) i ss ∙ ap (λ (u : Table). log the_receiver i u rest) (table-of t s)) j)
    ∙ sym (log-append i t (calls_of t s) rest)

three : Demand3Steps the_machine
unfolding the_machine
three t i gap later indices p =
    let u : Table = ran_steps the_machine t gap in
    ap verdicts (seen-steps u i later)
    ∙ ap (λ (v : Table). verdicts (log the_receiver i v (read_as the_machine u later))) (steps t gap)
    ∙ demand-3 the-receiver-meets t i (read_as the_machine t gap) (read_as the_machine u later) indices p

lost-steps : FreshLostSteps the_machine
unfolding the_machine
lost-steps t i later first rest w a v p =
    ap (λ (u : Table). (at u i).counts.lost) (steps t later)
    ∙ fresh-lost the-receiver-meets t i (read_as the_machine t later) first rest w a v p
    ∙ ap (λ (es : List Seen). rise (at t i).counts.lost (missed (at t i).window first (handed_of (verdicts es) (first ∷ rest))))
    (sym (seen-steps t i later))

-- ---- of every machine that meets the documents

pub steps-are-calls : {m : Machine} → MeetsAll m → StepsAreCalls m
steps-are-calls k = carried StepsAreCalls steps k

pub batches-are-calls : {m : Machine} → MeetsAll m → BatchesAreCalls m
batches-are-calls k = carried BatchesAreCalls as-calls k

pub seen-as-calls : {m : Machine} → MeetsAll m → SeenAsCalls m
seen-as-calls k = carried SeenAsCalls seen-steps k

pub demand-1-steps : {m : Machine} → MeetsAll m → Demand1Steps m
demand-1-steps k = carried Demand1Steps (each the_machine (RefusesStep the_machine) refuses) k

pub demand-3-steps : {m : Machine} → MeetsAll m → Demand3Steps m
demand-3-steps k = carried Demand3Steps three k

pub fresh-lost-steps : {m : Machine} → MeetsAll m → FreshLostSteps m
fresh-lost-steps k = carried FreshLostSteps lost-steps k

-- ---- what a program gets

pub got : (t : Table) (s : Step) (g : Got) → EnsuredStep t s g → g ≡ given the_machine t s
unfolding the_machine given
got t (single c) (result r) e = ap result (coincide t c r (the_receiver t c) e (the-receiver-meets t c))
got t (single c) (told a rows bytes) e = absurd e
got t (batch b) (result r) e = absurd e
got t (batch b) (told a rows bytes) e = λ i. told (e.said i) (e.table i) (e.output i)

pub left : (t : Table) (s : Step) → left_by (given the_machine t s) ≡ table_of the_machine t s
unfolding given table_of
left t (single c) = refl
left t (batch b) = refl

pub steps-coincide : StepsCoincide
unfolding EnsuredSteps given_all
steps-coincide t [] [] e = refl
steps-coincide t [] (g ∷ gs) e = absurd e
steps-coincide t (s ∷ ss) [] e = absurd e
steps-coincide t (s ∷ ss) (g ∷ gs) (e, es) =
    let x : g ≡ given the_machine t s = got t s g e in
    let y : left_by g ≡ table_of the_machine t s = ap left_by x ∙ left t s in
    λ i. x i ∷ (steps-coincide (left_by g) ss gs es ∙ ap (λ (u : Table). given_all the_machine u ss) y) i
