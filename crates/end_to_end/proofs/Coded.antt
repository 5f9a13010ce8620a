-- From the code of the sender to the code of the receiver. Assumes nothing.
use Prim.Native.Nat.{ℕ}
use mathlib.Core.Path.{◌≡◌, refl, sym, ap, subst, ◌∙◌}
use mathlib.Core.Option.{Option, none, some}
use mathlib.Core.Bool.{Bool, true, false, cond}
use mathlib.Core.List.{List, [], ◌∷◌, ◌++◌, map}
use lib.Dec.{eqb}
use lib.ListN.{take, drop}
use seplogic.Ra.Ura.{Ura}
use prog.Model.{Model}
use mir.Syntax.{Callee}
use prog.Wired.{Code}
use types.Logic.{Logic}
use contract.Lifetimes.{Lfts}
use contract.Running.{Running}
use denote.Triple.Clauses.{Ended, AtExit}
use denote.Triple.Entry.{Args, Res}
use Rattle.refusal.specs.Checks.{Said}
use Rattle.refusal.specs.Checks.Said.{refused, answers}
use Rattle.refusal.specs.Numbers.{INDEX}
use Rattle.std.specs.Prelude.{if◌then◌else◌}
use Rattle.calls.specs.Table.{Table}
use Rattle.calls.specs.Calls.{Answer, arrived, placed, done, swept, handed_up, duplicate, rogue}
use Rattle.index.specs.Index.{Index}
use Rattle.batch.specs.Batch.{answers_of, bundle}
use Rattle.batch.specs.Told.{tell_each}
use Rattle.demands.specs.Code.{Promise, Ensures}
use Rattle.demands.specs.Steps.{Step, single, batch, the_machine, table_of, Got, left_by, given, given_all}
use Rattle.demands.specs.Indexed.{Doing, step, rebuilds, drops, steps_of, GotBy, got, made, EnsuredDoing, EnsuredAll, plainly, refused_step}
use Rattle.demands.proofs.Coded.{code_meets}
use Rattle.demands.proofs.Indexing.{indexed-coincide, left-out-claim-nothing}
use Rattle.sender.specs.declared.Sender.{Sender}
use Rattle.sender.specs.Runs as sends
use Rattle.sender.specs.Runs.{the_side, EnsuredCall, EnsuredCalls, sent_in}
use Rattle.sender.proofs.Programs.{send-runs-coincide, sent-is-read}
use Rattle.both_sides.proofs.Theorems as both
use Rattle.end_to_end.specs.Bytes.{got_of, given_at, once_each}
use Rattle.end_to_end.specs.Batches as batches
use Rattle.end_to_end.specs.Batches.{takes, got_from, got_steps, BytesToBytesSteps}
use Rattle.end_to_end.specs.Code.{CodeCalled, Receives, ReceiverRan, got_told, got_of_step, got_all, SenderDoes, SenderRan, RansCoincide, CodeToCode}
use Rattle.end_to_end.specs.Code.Receives.{arrival, link-arrival, open-stream, close, rebuild, reset, tick, in-batch}
use Rattle.end_to_end.specs.Code.ReceiverRan.{none_made as no_steps, made as steps-more}
use Rattle.end_to_end.specs.Code.SenderDoes.{send, reset as reset-sender}
use Rattle.end_to_end.specs.Code.SenderRan.{none_made as no-sends, made as sends_more}

-- what a promise of the code gives of what was passed and left holds of a call of it
module _ {T : Ended} {name : Callee} {code : Code} {X Y : Type 0} {passed : (κs : Lfts T.signature.lifetimes) → Args T.signature κs → X} {left : (κs : Lfts T.signature.lifetimes) → Res T.signature κs → AtExit T κs → Y} where
  called : (R : X → Y → Type 0) {x : X} {y : Y} → CodeCalled T name code passed left x y → {P : Promise T}
      → ((M : Type 1) (𝓤 : Ura M) (𝓛 : Logic 𝓤) (𝓜 : Model 𝓤 𝓛.H) (𝓡 : Running 𝓤 𝓛.H 𝓜) → Ensures 𝓛 𝓜 𝓡 T name code P)
      → ((κs : Lfts T.signature.lifetimes) (a : Args T.signature κs) (r : Res T.signature κs) (e : AtExit T κs) → P κs a r e → R (passed κs a) (left κs r e))
      → R x y
  called R {x} {y} c {P} met gives =
      subst (λ (z : Y). R x z) c.to-y (subst (λ (z : X). R z (left c.κs c.answer c.exit)) c.with-x
      (gives c.κs c.arguments c.answer c.exit (c.outcome P met)))

-- ---- the receiver's end

abbrev doing : Index × Table × Doing → GotBy → Type 0
doing x = EnsuredDoing x.0 x.1 x.2

-- A single call leaves the index, and so does a batch; an open and a close write nothing.
received : (ix : Index) (t : Table) (d : Doing) (g : GotBy) → Receives ix t d g → EnsuredDoing ix t d g
received ix t d g (arrival c) = called doing c (λ M 𝓤 𝓛 𝓜 𝓡. (code_meets M 𝓤 𝓛 𝓜 𝓡).arrival) (λ κs a r e m. (m, refl))
received ix t d g (link-arrival c) = called doing c (λ M 𝓤 𝓛 𝓜 𝓡. (code_meets M 𝓤 𝓛 𝓜 𝓡).link-arrival) (λ κs a r e m. (m, refl))
received ix t d g (open-stream c) = called doing c (λ M 𝓤 𝓛 𝓜 𝓡. (code_meets M 𝓤 𝓛 𝓜 𝓡).open-stream) (λ κs a r e m. (m, refl))
received ix t d g (close c) = called doing c (λ M 𝓤 𝓛 𝓜 𝓡. (code_meets M 𝓤 𝓛 𝓜 𝓡).close) (λ κs a r e m. (m, refl))
received ix t d g (rebuild c) = called doing c (λ M 𝓤 𝓛 𝓜 𝓡. (code_meets M 𝓤 𝓛 𝓜 𝓡).rebuild) (λ κs a r e m. m)
received ix t d g (reset c) = called doing c (λ M 𝓤 𝓛 𝓜 𝓡. (code_meets M 𝓤 𝓛 𝓜 𝓡).reset) (λ κs a r e m. (m, refl))
received ix t d g (tick c) = called doing c (λ M 𝓤 𝓛 𝓜 𝓡. (code_meets M 𝓤 𝓛 𝓜 𝓡).tick) (λ κs a r e m. (m, refl))
received ix t d _ (in-batch c) = called (λ (x : Index × Table × Doing) (h : Got). doing x (got h x.0)) c (λ M 𝓤 𝓛 𝓜 𝓡. (code_meets M 𝓤 𝓛 𝓜 𝓡).batch) (λ κs a r e m. (m, refl))

all-received : {ix : Index} {t : Table} {ds : List Doing} {gs : List GotBy} → ReceiverRan ix t ds gs → EnsuredAll ix t ds gs
unfolding EnsuredAll
all-received no_steps = tt
all-received (steps-more r rs) = (received _ _ _ _ r, all-received rs)

-- ---- the sender's end

abbrev call : Sender × sends.Call → sends.SideGot → Type 0
call x = EnsuredCall x.0 x.1

did : (s : Sender) (c : sends.Call) (g : sends.SideGot) → SenderDoes s c g → EnsuredCall s c g
did s c g (send d) = called call d (λ M 𝓤 𝓛 𝓜 𝓡. ((both.theorems).sender-meets M 𝓤 𝓛 𝓜 𝓡).send) (λ κs a r e m. m)
did s c g (reset-sender d) = called call d (λ M 𝓤 𝓛 𝓜 𝓡. ((both.theorems).sender-meets M 𝓤 𝓛 𝓜 𝓡).reset) (λ κs a r e m. m)

all-did : {s : Sender} {cs : List sends.Call} {gs : List sends.SideGot} → SenderRan s cs gs → EnsuredCalls s cs gs
unfolding EnsuredCalls
all-did no-sends = tt
all-did (sends_more d ds) = (did _ _ _ d, all-did ds)

pub rans-coincide : RansCoincide
rans-coincide = record {
  sender = λ s calls gs d. send-runs-coincide s calls gs (all-did d);
  receiver = λ ix t ds rs r. indexed-coincide ix t ds rs (all-received r);
}

-- ---- what the application gets

-- by the fields of the answers it is what it is by the answers
told_is : (i : ℕ) (xs : List (Option (Said Answer))) (output : List ℕ) → got_told i (map tell_each xs) output ≡ batches.got_in i xs output
unfolding got_told batches.got_in got_of takes
told_is i [] output = refl
told_is i (none ∷ xs) output = told_is i xs output
told_is i (some (refused n) ∷ xs) output = told_is i xs output
told_is i (some (answers (arrived j n x (handed_up l))) ∷ xs) output = ap (λ (rest : List (List ℕ)). (if eqb j i then take l (drop 2 output) ∷ [] else []) ++ rest) (told_is i xs _)
told_is i (some (answers (arrived j n x duplicate)) ∷ xs) output = told_is i xs output
told_is i (some (answers (arrived j n x rogue)) ∷ xs) output = told_is i xs output
told_is i (some (answers (placed j)) ∷ xs) output = told_is i xs output
told_is i (some (answers done) ∷ xs) output = told_is i xs output
told_is i (some (answers (swept streams records)) ∷ xs) output = told_is i xs output

got_so_far : (slot : ℕ) → List Got → List (List ℕ)
got_so_far i [] = []
got_so_far i (g ∷ gs) = got_of_step i g ++ got_so_far i gs

got-is : (i : ℕ) (t : Table) (ss : List Step) → got_so_far i (given_all the_machine t ss) ≡ got_steps the_machine i t ss
unfolding got_so_far given_all given got_steps got_from
got-is i t [] = refl
got-is i t (single c ∷ ss) = ap (λ (rest : List (List ℕ)). got_of i (the_machine.receive t c).said (the_machine.receive t c).output ++ rest) (got-is i _ ss)
got-is i t (batch b ∷ ss) = λ j. told_is i (the_machine.batch t b).answers (the_machine.batch t b).output j ++ got-is i (table_of the_machine t (batch b)) ss j

-- a step that 18 refuses gives nothing
refused-gives : (i : ℕ) (t : Table) (s : Step) → got_of_step i (refused_step INDEX t s) ≡ []
unfolding got_of bundle answers_of batches.got_in takes
refused-gives i t (single c) = refl
refused-gives i t (batch b) = told_is i (answers_of []) b.out

plainly-gives : (i : ℕ) (ix : Index) (t : Table) (ds : List Doing) (gs : List GotBy) → EnsuredAll ix t ds gs → got_all i gs ≡ got_so_far i (plainly ix t ds gs)
unfolding EnsuredAll got_so_far got_all plainly
plainly-gives i ix t [] [] m = refl
plainly-gives i ix t [] (g ∷ gs) m = absurd m
plainly-gives i ix t (d ∷ ds) [] m = absurd m
plainly-gives i ix t (step s ∷ ds) (made w jx ∷ gs) m = absurd m.0
plainly-gives i ix t (rebuilds ∷ ds) (got g jx ∷ gs) m = absurd m.0
plainly-gives i ix t (rebuilds ∷ ds) (made w jx ∷ gs) m = plainly-gives i jx t ds gs m.1
plainly-gives i ix t (step s ∷ ds) (got g jx ∷ gs) m = go (drops ix t s) refl (plainly-gives i jx (left_by g) ds gs m.1)
  where
    go : (b : Bool) → drops ix t s ≡ b → got_all i gs ≡ got_so_far i (plainly jx (left_by g) ds gs)
        → got_of_step i g ++ got_all i gs ≡ got_so_far i (cond (drops ix t s) (plainly jx (left_by g) ds gs) (g ∷ plainly jx (left_by g) ds gs))
    go true e f = let n : got_of_step i g ≡ [] = ap (got_of_step i) (left-out-claim-nothing ix t s g jx e m.0).0 ∙ refused-gives i t s in rw (e, n) f
    go false e f = rw e (ap (λ (rest : List (List ℕ)). got_of_step i g ++ rest) f)

pub from-steps : BytesToBytesSteps the_machine the_side → CodeToCode
unfolding the_machine
from-steps steps-to k b still before es s sending gs ix t i ds rs places d r fresh between =
    let e = rans-coincide.sender s sending gs d in
    let f = rans-coincide.receiver ix t ds rs r in
    plainly-gives i ix t ds rs (all-received r) ∙ ap (got_so_far i) f ∙ got-is i t (steps_of ix t ds) ∙ steps-to k b still before es s sending t i (steps_of ix t ds) places fresh between
    ∙ ap (λ (ps : List sends.Pair). given_at ps (once_each [] places)) (sym (ap (sent_in sending) e ∙ sent-is-read the_side s sending))
