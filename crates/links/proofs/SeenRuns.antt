-- The runs of `specs/SeenRuns` compute. Assumes nothing.
use Prim.Native.Nat.{ℕ}
use mathlib.Core.Path.{◌≡◌, refl}
use mathlib.Core.Bool.{false≢true}
use mathlib.Core.Option.{some-injective}
use mathlib.Core.List.{List, [], ◌∷◌, head-eq_of_cons-eq, tail-eq_of_cons-eq}
use native.Mathlib.Omega.{arith}
use Rattle.frame.specs.Link.{last_byte, but_last, link_of}
use Rattle.calls.specs.Calls.{link_arrival}
use Rattle.demands.proofs.Computing.{computing}
use Rattle.links.specs.SeenRuns.{link_frame, link_from, beside, over, RingMeets, RisingAre, five, RisingNeeded}
use Rattle.links.proofs.Runs.{computing as links}

pub ring-meets : RingMeets
unfolding computing links last_byte but_last link_of link_arrival link_frame link_from beside over
ring-meets = record {
  premises = record { link = refl; lawful = refl; last = refl; lasts = refl; numbered = refl; within = refl };
  seen = refl;
}

pub rising-are : RisingAre
rising-are receive t i calls h indices = (
  λ a. record { link = a.0; lawful = a.1.0; last = a.1.1.0; lasts = a.1.1.1.0; numbered = a.1.1.1.1.0; within = a.1.1.1.1.1.0 },
  λ p. (p.link, (p.lawful, (p.last, (p.lasts, (p.numbered, (p.within, tt)))))),
)

-- The number 6 for the index 7.
no_number : ◌≡◌ {A = List ℕ} (6 ∷ 6 ∷ []) (6 ∷ 7 ∷ []) → ⊥
no_number e = let z : ◌≡◌ {A = ℕ} 6 7 = head-eq_of_cons-eq (tail-eq_of_cons-eq e) in omega arith

pub rising-needed : RisingNeeded
unfolding computing links last_byte but_last link_of link_arrival link_frame link_from five
rising-needed = record {
  matching = record { broken = (λ e. (let z : ◌≡◌ {A = ℕ} 2 3 = e in omega arith), (refl, (refl, (refl, (refl, (refl, tt)))))); given = refl; wanted = refl };
  free = record { broken = (refl, (false≢true, (refl, (refl, (refl, (refl, tt)))))); given = refl; wanted = refl };
  otherwise = record { broken = (refl, (refl, (λ e. (let z : ◌≡◌ {A = ℕ} 5 6 = some-injective 5 6 e in omega arith), (refl, (refl, (refl, tt)))))); given = refl; wanted = refl };
  ticked = record { broken = (refl, (refl, (refl, (false≢true, (refl, (refl, tt)))))); given = refl; wanted = refl };
  reset = record { broken = (refl, (refl, (refl, (false≢true, (refl, (refl, tt)))))); given = refl; wanted = refl };
  reopened = record { broken = (refl, (refl, (refl, (false≢true, (refl, (refl, tt)))))); given = refl; wanted = refl };
  renumbered = record { broken = (refl, (refl, (refl, (refl, (no_number, (refl, tt)))))); given = refl; wanted = refl };
  ahead = record { broken = (refl, (refl, (refl, (refl, (refl, (false≢true, tt)))))); given = refl; wanted = refl };
  behind = record { broken = (refl, (refl, (refl, (refl, (refl, (false≢true, tt)))))); given = refl; wanted = refl };
  late-zero = record { broken = (refl, (refl, (refl, (refl, (refl, (false≢true, tt)))))); given = refl; wanted = refl };
}
