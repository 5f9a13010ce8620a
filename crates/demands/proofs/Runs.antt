-- The runs with numbers compute. Assumes nothing.
use Prim.Native.Nat.{ℕ, ◌≤◌}
use mathlib.Core.Path.{◌≡◌, refl}
use mathlib.Core.Bool.{false≢true}
use mathlib.Core.List.{List, [], ◌∷◌, head-eq_of_cons-eq, tail-eq_of_cons-eq}
use native.Mathlib.Omega.{arith}
use lib.Dec.{lit≤}
use Rattle.demands.specs.Examples.{WrapMeets}
use Rattle.demands.specs.Needed.{JustWithin, BoundReached, PremisesAre, OneFurther, BoundSharp, PremisesNeeded}
use Rattle.demands.proofs.Computing.{computing}

pub wrap_meets : WrapMeets
unfolding computing
wrap_meets = record {
  premises = record {
    vector = refl;
    silent = record { lawful = refl; long = lit≤ tt; calm = refl };
    lasts = refl;
    numbered = refl;
    near = refl;
  };
  seen = refl;
  given = refl;
  wanted = refl;
}

pub premises-are : PremisesAre
premises-are receive t i gap later indices = (
  λ a. record {
    vector = a.0;
    silent = record { lawful = a.1.0; long = a.1.1.0; calm = a.1.1.1.0 };
    lasts = a.1.1.1.1.0;
    numbered = a.1.1.1.1.1.0;
    near = a.1.1.1.1.1.1.0;
  },
  λ p. (p.vector, (p.silent.lawful, (p.silent.long, (p.silent.calm, (p.lasts, (p.numbered, (p.near, tt))))))),
)

-- The bound: at it,
within-ahead-2 : JustWithin 2 100 65634
unfolding computing
within-ahead-2 = record { within = refl; premises = record { vector = refl; silent = record { lawful = refl; long = lit≤ tt; calm = refl }; lasts = refl; numbered = refl; near = refl }; given = refl; wanted = refl }

within-behind-2 : JustWithin 2 65634 100
unfolding computing
within-behind-2 = record { within = refl; premises = record { vector = refl; silent = record { lawful = refl; long = lit≤ tt; calm = refl }; lasts = refl; numbered = refl; near = refl }; given = refl; wanted = refl }

within-ahead-4 : JustWithin 4 100 65632
unfolding computing
within-ahead-4 = record { within = refl; premises = record { vector = refl; silent = record { lawful = refl; long = lit≤ tt; calm = refl }; lasts = refl; numbered = refl; near = refl }; given = refl; wanted = refl }

within-behind-4 : JustWithin 4 65632 100
unfolding computing
within-behind-4 = record { within = refl; premises = record { vector = refl; silent = record { lawful = refl; long = lit≤ tt; calm = refl }; lasts = refl; numbered = refl; near = refl }; given = refl; wanted = refl }

within-ahead-512 : JustWithin 512 100 65124
unfolding computing
within-ahead-512 = record { within = refl; premises = record { vector = refl; silent = record { lawful = refl; long = lit≤ tt; calm = refl }; lasts = refl; numbered = refl; near = refl }; given = refl; wanted = refl }

within-behind-512 : JustWithin 512 65124 100
unfolding computing
within-behind-512 = record { within = refl; premises = record { vector = refl; silent = record { lawful = refl; long = lit≤ tt; calm = refl }; lasts = refl; numbered = refl; near = refl }; given = refl; wanted = refl }

pub bound-reached : BoundReached
bound-reached = (within-ahead-2, within-behind-2, within-ahead-4, within-behind-4, within-ahead-512, within-behind-512)

-- and one further.
ahead-2 : OneFurther 2 100 65635
unfolding computing
ahead-2 = record { further = refl; near = record { broken = (refl, (refl, (lit≤ tt, (refl, (refl, (refl, (false≢true, tt))))))); given = refl; wanted = refl } }

behind-2 : OneFurther 2 65635 100
unfolding computing
behind-2 = record { further = refl; near = record { broken = (refl, (refl, (lit≤ tt, (refl, (refl, (refl, (false≢true, tt))))))); given = refl; wanted = refl } }

ahead-4 : OneFurther 4 100 65633
unfolding computing
ahead-4 = record { further = refl; near = record { broken = (refl, (refl, (lit≤ tt, (refl, (refl, (refl, (false≢true, tt))))))); given = refl; wanted = refl } }

behind-4 : OneFurther 4 65633 100
unfolding computing
behind-4 = record { further = refl; near = record { broken = (refl, (refl, (lit≤ tt, (refl, (refl, (refl, (false≢true, tt))))))); given = refl; wanted = refl } }

ahead-512 : OneFurther 512 100 65125
unfolding computing
ahead-512 = record { further = refl; near = record { broken = (refl, (refl, (lit≤ tt, (refl, (refl, (refl, (false≢true, tt))))))); given = refl; wanted = refl } }

behind-512 : OneFurther 512 65125 100
unfolding computing
behind-512 = record { further = refl; near = record { broken = (refl, (refl, (lit≤ tt, (refl, (refl, (refl, (false≢true, tt))))))); given = refl; wanted = refl } }

pub bound-sharp : BoundSharp
bound-sharp = (ahead-2, behind-2, ahead-4, behind-4, ahead-512, behind-512)

-- The number 7 for the index 8.
no_number : ◌≡◌ {A = List ℕ} (7 ∷ 7 ∷ []) (7 ∷ 8 ∷ []) → ⊥
no_number e = let z : ◌≡◌ {A = ℕ} 7 8 = head-eq_of_cons-eq (tail-eq_of_cons-eq e) in omega arith

pub premises-needed : PremisesNeeded
unfolding computing
premises-needed = record {
  matching = record { broken = (λ e. (let z : ◌≡◌ {A = ℕ} 2 1 = e in omega arith), (refl, (lit≤ tt, (refl, (refl, (refl, (refl, tt))))))); given = refl; wanted = refl };
  free = record { broken = (refl, (false≢true, (lit≤ tt, (refl, (refl, (refl, (refl, tt))))))); given = refl; wanted = refl };
  short = record { broken = (refl, (refl, (λ e. (let z : 3 ≤ 2 = e in omega arith), (refl, (refl, (refl, (refl, tt))))))); given = refl; wanted = refl };
  handing = record { broken = (refl, (refl, (lit≤ tt, (false≢true, (refl, (refl, (refl, tt))))))); given = refl; wanted = refl };
  refilled = record { broken = (refl, (refl, (lit≤ tt, (false≢true, (refl, (refl, (refl, tt))))))); given = refl; wanted = refl };
  ticked = record { broken = (refl, (refl, (lit≤ tt, (refl, (false≢true, (refl, (refl, tt))))))); given = refl; wanted = refl };
  reset = record { broken = (refl, (refl, (lit≤ tt, (refl, (false≢true, (refl, (refl, tt))))))); given = refl; wanted = refl };
  closed = record { broken = (refl, (refl, (lit≤ tt, (refl, (false≢true, (refl, (refl, tt))))))); given = refl; wanted = refl };
  renumbered = record { broken = (refl, (refl, (lit≤ tt, (refl, (refl, (no_number, (refl, tt))))))); given = refl; wanted = refl };
}
