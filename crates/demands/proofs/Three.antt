-- Demand 3. Assumes nothing.
use Prim.Native.Nat.{ℕ, zero, suc, ◌<◌}
use mathlib.Core.Path.{◌≡◌, refl, ◌∙◌}
use mathlib.Core.Bool.{true, false≢true}
use mathlib.Core.List.{List, [], ◌∷◌}
use native.Mathlib.Omega.{arith}
use lib.ListN.{length}
use Rattle.record.specs.Words.{yes}
use Rattle.record.specs.Sizes.{vector_rule}
use Rattle.stream.specs.Record.{lawful}
use Rattle.stream.proofs.Law.{Law, law, size}
use Rattle.calls.specs.Table.{Table, at}
use Rattle.calls.specs.Calls.{Call}
use Rattle.demands.specs.Receiver.{Receiver, MeetsContract, the_receiver, run}
use Rattle.demands.specs.Seen.{log, verdicts}
use Rattle.demands.specs.Unlimited.{unlimited}
use Rattle.demands.specs.Demand3.{Silent, Demand3}
use Rattle.demands.specs.Corollaries.{Lasting, FreshDecides}
use Rattle.demands.proofs.Alike.{carried}
use Rattle.demands.proofs.Slot.{traced, run_length}
use Rattle.demands.proofs.Gap.{Over, gap}
use Rattle.demands.proofs.Follow.{follow}

-- A lawful record stands in the table: what `at` gives beyond it is free.
pub inside : (t : Table) (i : ℕ) → lawful (at t i) ≡ true → i < length t
unfolding lawful yes
inside [] i l = absurd (false≢true l)
inside (s ∷ t) zero l = omega arith
inside (s ∷ t) (suc i) l = let p = inside t i l in omega arith

pub over : {t : Table} {i : ℕ} {before : List Call} → Silent the_receiver t i before
    → Over (at t i) (at (run the_receiver t before) i)
over {t} {i} {before} q =
    let l = law q.lawful in
    gap (at t i) (log the_receiver i t before) (at (run the_receiver t before) i) l
    (traced t i before (inside t i q.lawful)) q.calm (omega (arith, l.rest, q.long))

-- From take-any on, with the window l.
pub from-fresh : (l : ℕ) (t : Table) (i : ℕ) (later : List Call) (indices : List ℕ) → i < length t → Law (at t i)
    → (at t i).window ≡ l → yes (at t i).state.any ≡ true → (at t i).rule ≡ vector_rule → Lasting the_receiver t i l later indices
    → verdicts (log the_receiver i t later) ≡ unlimited l [] indices
from-fresh l t i later indices n w e a v p =
    let z = size w in
    follow l (rw e at z.least) (rw e at z.most) (at t i) (log the_receiver i t later) (at (run the_receiver t later) i) [] indices
    (record { used = w.used; rule = v; window = e; sim = a }) (traced t i later n) p.lasts p.numbered p.near

fresh : FreshDecides the_receiver
fresh t i later indices l a v p = from-fresh (at t i).window t i later indices (inside t i l) (law l) refl a v p

three : Demand3 the_receiver
three t i before later indices p =
    let o = over p.silent in
    from-fresh (at t i).window (run the_receiver t before) i later indices
    (rw (run_length t before) (inside t i p.silent.lawful)) o.law o.window o.any (o.rule ∙ p.vector)
    (record { lasts = p.lasts; numbered = p.numbered; near = p.near })

pub demand-3 : {receive : Receiver} → MeetsContract receive → Demand3 receive
demand-3 m = carried Demand3 three m

pub fresh-decides : {receive : Receiver} → MeetsContract receive → FreshDecides receive
fresh-decides m = carried FreshDecides fresh m
