-- The runs of `specs/LostRuns` compute. Assumes nothing.
use Prim.Native.Nat.{ℕ}
use mathlib.Core.Path.{◌≡◌, refl}
use mathlib.Core.Bool.{false≢true}
use mathlib.Core.List.{List, [], ◌∷◌, head-eq_of_cons-eq, tail-eq_of_cons-eq}
use native.Mathlib.Omega.{arith}
use Rattle.demands.specs.Receiver.{the_receiver}
use Rattle.demands.specs.Corollaries.{handed_of}
use Rattle.demands.specs.Lost.{absent}
use Rattle.demands.specs.Examples.{later}
use Rattle.lost_runs.specs.LostRuns.{LostPremisesAre, lost_after, begin, sent, after_gap, LostShown, LostPremisesNeeded}
use Rattle.demands.proofs.Lost.{fresh-lost}
use Rattle.demands.proofs.Computing.{computing}

pub lost-premises-are : LostPremisesAre
lost-premises-are receive m t i later first rest a =
    fresh-lost m t i later first rest a.1.0 a.1.1.0 a.0
    (record { lasts = a.1.1.1.0; numbered = a.1.1.1.1.0; near = a.1.1.1.1.1.0 })

-- With the number written out: to compare with `2 ^ 64 - 1` takes more steps than there are.
wrap-lost : lost_after the_receiver after_gap 0 later ≡ 18446744073709551615
unfolding computing
wrap-lost = refl

pub lost-shown : LostShown
unfolding computing handed_of absent begin sent
lost-shown = record {
  wrap = record { premises = (refl, (refl, (refl, (refl, (refl, (refl, tt)))))); given = refl; missed = refl; lost = wrap-lost };
  onward = record { premises = (refl, (refl, (refl, (refl, (refl, (refl, tt)))))); given = refl; missed = refl; lost = refl };
  waiting = record { premises = (refl, (refl, (refl, (refl, (refl, (refl, tt)))))); given = refl; missed = refl; lost = refl };
  late = record { premises = (refl, (refl, (refl, (refl, (refl, (refl, tt)))))); given = refl; missed = refl; lost = refl };
  gone = record { premises = (refl, (refl, (refl, (refl, (refl, (refl, tt)))))); given = refl; missed = refl; lost = refl };
  too-late = record { premises = (refl, (refl, (refl, (refl, (refl, (refl, tt)))))); given = refl; missed = refl; lost = refl };
  second-waiting = record { premises = (refl, (refl, (refl, (refl, (refl, (refl, tt)))))); given = refl; missed = refl; lost = refl };
  second-gone = record { premises = (refl, (refl, (refl, (refl, (refl, (refl, tt)))))); given = refl; missed = refl; lost = refl };
  older = record { premises = (refl, (refl, (refl, (refl, (refl, (refl, tt)))))); given = refl; missed = refl; lost = refl };
  older-late = record { premises = (refl, (refl, (refl, (refl, (refl, (refl, tt)))))); given = refl; missed = refl; lost = refl };
  only = record { premises = (refl, (refl, (refl, (refl, (refl, (refl, tt)))))); given = refl; missed = refl; lost = refl };
  several = record { premises = (refl, (refl, (refl, (refl, (refl, (refl, tt)))))); given = refl; missed = refl; lost = refl };
}

-- The number 8 for the index 9.
no_number : ◌≡◌ {A = List ℕ} (7 ∷ 8 ∷ 9 ∷ 10 ∷ []) (7 ∷ 9 ∷ 10 ∷ 12 ∷ []) → ⊥
no_number e = let z : ◌≡◌ {A = ℕ} 8 9 = head-eq_of_cons-eq (tail-eq_of_cons-eq e) in omega arith

pub lost-premises-needed : LostPremisesNeeded
unfolding computing handed_of absent begin sent
lost-premises-needed = record {
  matching = record { broken = (λ e. (let z : ◌≡◌ {A = ℕ} 2 1 = e in omega arith), (refl, (refl, (refl, (refl, (refl, tt)))))); lost = refl; said = refl };
  free = record { broken = (refl, (false≢true, (refl, (refl, (refl, (refl, tt)))))); lost = refl; said = refl };
  begun = record { broken = (refl, (refl, (false≢true, (refl, (refl, (refl, tt)))))); lost = refl; said = refl };
  ticked = record { broken = (refl, (refl, (refl, (false≢true, (refl, (refl, tt)))))); lost = refl; said = refl };
  reset = record { broken = (refl, (refl, (refl, (false≢true, (refl, (refl, tt)))))); lost = refl; said = refl };
  reopened = record { broken = (refl, (refl, (refl, (false≢true, (refl, (refl, tt)))))); lost = refl; said = refl };
  renumbered = record { broken = (refl, (refl, (refl, (refl, (no_number, (refl, tt)))))); lost = refl; said = refl };
  further = refl;
  near = record { broken = (refl, (refl, (refl, (refl, (refl, (false≢true, tt)))))); lost = refl; said = refl };
}
