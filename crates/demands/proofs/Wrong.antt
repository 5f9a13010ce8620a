-- The wrong receivers fail. Assumes nothing.
use Prim.Native.Nat.{ℕ}
use mathlib.Core.Path.{◌≡◌, refl, ap}
use mathlib.Core.List.{List, [], ◌∷◌}
use native.Mathlib.Omega.{arith}
use lib.Dec.{lit≤}
use Rattle.refusal.specs.Checks.Said.{refused, answers}
use Rattle.record.specs.Sizes.{vector_rule}
use Rattle.stream.specs.Record.{fresh}
use Rattle.stream.specs.Decisions.{Verdict, up, duplicate, rogue, verdict, decided}
use Rattle.frame.specs.Frame.{unranked}
use Rattle.calls.specs.Table.{Table, at}
use Rattle.calls.specs.Calls.{Act, refuse, arrive, opens, closes, resets, ticks, act, after, answer, output, out_of, Result, arrived, handed_up, ticking}
use Rattle.calls.specs.Calls as calls
use Rattle.demands.specs.Demand2.{Demand2}
use Rattle.demands.specs.Demand3.{Demand3}
use Rattle.demands.specs.Wrong.{by_act, deciding, refuses_everything, finds_duplicates, marks_nothing, hands_up_all, invents_counters, duplicate_renews, rogue_renews, RightOtherwise, RuledOut}
use Rattle.demands.specs.Examples.{from, stream, alone, silence}
use Rattle.demands.proofs.Computing.{computing}

same-act : (t : Table) (out : List ℕ) (a : Act)
    → by_act verdict decided t out a ≡ record { said = answer t a; table = after t a; output = output t out a }
unfolding by_act answer after output
same-act t out (refuse n) = refl
same-act t out (arrive i n w x bare) = refl
same-act t out (opens i s) = refl
same-act t out (closes i) = refl
same-act t out (resets i) = refl
same-act t out ticks = refl

pub right-otherwise : RightOtherwise
unfolding deciding
right-otherwise t c =
    let e = same-act t (out_of c) (act t c) in
    record {
      said = ap (λ (r : Result). r.said) e;
      table = ap (λ (r : Result). r.table) e;
      output = ap (λ (r : Result). r.output) e;
    }

-- ---- what differs

refused-not-up : refused 1 ≡ answers (arrived 0 10 unranked (handed_up 14)) → ⊥
refused-not-up e = let z : ◌≡◌ {A = ℕ} 0 1 = cc in omega arith

duplicate-not-up : answers (arrived 0 10 unranked calls.duplicate) ≡ answers (arrived 0 10 unranked (handed_up 14)) → ⊥
duplicate-not-up e = let z : ◌≡◌ {A = ℕ} 0 1 = cc in omega arith

up-not-duplicate : answers (arrived 0 9 unranked (handed_up 14)) ≡ answers (arrived 0 9 unranked calls.duplicate) → ⊥
up-not-duplicate e = let z : ◌≡◌ {A = ℕ} 0 1 = cc in omega arith

rogue-not-up : {vs ws : List Verdict} → rogue ∷ vs ≡ up ∷ ws → ⊥
rogue-not-up e = let z : ◌≡◌ {A = ℕ} 0 1 = cc in omega arith

up-not-again : up ∷ up ∷ [] ≡ up ∷ duplicate ∷ [] → ⊥
up-not-again e = let z : ◌≡◌ {A = ℕ} 0 1 = cc in omega arith

-- ---- demand 2: one call. "A fresh stream hands up and changes."

idle : Table
idle = stream 1 vector_rule 4 3 fresh ∷ []

refuses-everything : Demand2 refuses_everything → ⊥
unfolding computing idle refuses_everything
refuses-everything m = refused-not-up (m idle (from 0 1 10)).said

finds-duplicates : Demand2 finds_duplicates → ⊥
unfolding computing idle deciding by_act finds_duplicates
finds-duplicates m = duplicate-not-up (m idle (from 0 1 10)).said

marks-nothing : Demand2 marks_nothing → ⊥
unfolding computing idle deciding by_act marks_nothing
marks-nothing m =
    let e : ◌≡◌ {A = ℕ} 1 0 = ap (λ (t : Table). (at t 0).state.any) (m idle (from 0 1 10)).table in
    omega arith

hands-up-all : Demand2 hands_up_all → ⊥
unfolding computing deciding by_act hands_up_all
hands-up-all m = up-not-duplicate (m (alone 4 3 3) (from 0 1 9)).said

-- a duplicate, of which the counter discarded must tell
invents-counters : Demand2 invents_counters → ⊥
unfolding computing deciding by_act invents_counters
invents-counters m =
    let e : ◌≡◌ {A = ℕ} 1 2 = ap (λ (t : Table). (at t 0).counts.discarded) (m (alone 4 3 3) (from 0 1 9)).table in
    omega arith

-- with two ticks left, a duplicate or a rogue leaves two
duplicate-renews : Demand2 duplicate_renews → ⊥
unfolding computing deciding by_act duplicate_renews
duplicate-renews m =
    let e : ◌≡◌ {A = ℕ} 3 2 = ap (λ (t : Table). (at t 0).state.remaining) (m (alone 4 3 2) (from 0 1 9)).table in
    omega arith

rogue-renews : Demand2 rogue_renews → ⊥
unfolding computing deciding by_act rogue_renews
rogue-renews m =
    let e : ◌≡◌ {A = ℕ} 3 2 = ap (λ (t : Table). (at t 0).state.remaining) (m (alone 4 3 2) (from 0 1 5000)).table in
    omega arith

-- ---- demand 3: a run that meets its premises

-- after R silent ticks a frame and its twin: both are handed up
hands-up-all-3 : Demand3 hands_up_all → ⊥
unfolding computing deciding by_act hands_up_all
hands-up-all-3 d = up-not-again (d (alone 4 3 3) 0 (silence 3) (from 0 1 7 ∷ from 1 1 7 ∷ []) (7 ∷ 7 ∷ []) (record {
  vector = refl;
  silent = record { lawful = refl; long = lit≤ tt; calm = refl };
  lasts = refl;
  numbered = refl;
  near = refl;
}))

-- R ticks, in which only a duplicate or a rogue comes: the restarted sender's first frame is a rogue
duplicate-renews-3 : Demand3 duplicate_renews → ⊥
unfolding computing deciding by_act duplicate_renews
duplicate-renews-3 d = rogue-not-up (d (alone 4 3 3) 0 (ticking ∷ from 0 1 9 ∷ silence 2) (from 0 1 5000 ∷ []) (5000 ∷ []) (record {
  vector = refl;
  silent = record { lawful = refl; long = lit≤ tt; calm = refl };
  lasts = refl;
  numbered = refl;
  near = refl;
}))

rogue-renews-3 : Demand3 rogue_renews → ⊥
unfolding computing deciding by_act rogue_renews
rogue-renews-3 d = rogue-not-up (d (alone 4 3 3) 0 (ticking ∷ from 0 1 5000 ∷ silence 2) (from 0 1 5001 ∷ []) (5001 ∷ []) (record {
  vector = refl;
  silent = record { lawful = refl; long = lit≤ tt; calm = refl };
  lasts = refl;
  numbered = refl;
  near = refl;
}))

pub ruled_out : RuledOut
ruled_out = record {
  refuses-everything = refuses-everything;
  finds-duplicates = finds-duplicates;
  marks-nothing = marks-nothing;
  hands-up-all = (hands-up-all, hands-up-all-3);
  invents-counters = invents-counters;
  duplicate-renews = (duplicate-renews, duplicate-renews-3);
  rogue-renews = (rogue-renews, rogue-renews-3);
}
