-- The runs of `specs/DelaysRuns` compute. Assumes nothing.
use Prim.Native.Nat.{ℕ}
use mathlib.Core.Path.{refl}
use mathlib.Core.List.{List, [], ◌∷◌, ◌++◌}
use native.Mathlib.Omega.{arith}
use lib.Dec.{lit≤, lit<}
use Rattle.stream.specs.Decisions.{Verdict}
use Rattle.delays.specs.Line.{came, ticked}
use Rattle.delays.specs.ByNumber.{new, Gives, line, busy, caught}
use Rattle.delays.proofs.Losing.{loses-by}
use Rattle.delays_runs.specs.DelaysRuns.{again, hole, burst, bursts, lull, back, wide, far, volleys, hush, volley_window, Hushed, RoundSharp, HoleSeen, Bursts, BurstsRound, Restart, AfterOutage, Wide, InBatches}
use Rattle.delays_runs.proofs.Hole.{not-losing}
use Rattle.delays_runs.proofs.Computing.{running, stepping}

pub round-sharp : RoundSharp
unfolding running
round-sharp = record {
  less = lit≤ tt;
  right-less = record {
    keeps = record { some = lit≤ tt; kept = refl };
    often = refl;
    long = lit≤ tt;
    sends = record { rises = λ x. omega arith; within = λ x n p. omega (arith, p) };
    gives = record { fresh = record { vector = refl; lawful = refl; any = refl }; timed = record { order = refl; numbered = refl }; given = refl };
  };
  judged-less = record { verdicts = refl; once = refl };
  exactly = refl;
  right = record {
    keeps = record { some = lit≤ tt; kept = refl };
    often = refl;
    long = lit≤ tt;
    sends = record { rises = λ x. omega arith; within = λ x n p. omega (arith, p) };
    gives = record { fresh = record { vector = refl; lawful = refl; any = refl }; timed = record { order = refl; numbered = refl }; given = refl };
  };
  judged = record { verdicts = refl; once = refl };
  further = refl;
  wrong = record {
    keeps = record { some = lit≤ tt; kept = refl };
    often = refl;
    long = lit≤ tt;
    sends = record { rises = λ x. omega arith; within = λ x n p. omega (arith, p) };
    gives = record { fresh = record { vector = refl; lawful = refl; any = refl }; timed = record { order = refl; numbered = refl }; given = refl };
  };
  wanted = refl;
}

pub hole-seen : HoleSeen
unfolding running
hole-seen = record {
  broken = not-losing line hole 0 5 refl refl (lit< tt) refl (λ y p. omega (arith, p));
  gives = record { fresh = record { vector = refl; lawful = refl; any = refl }; timed = record { order = refl; numbered = refl }; given = refl };
  judged = record { verdicts = refl; once = refl };
}

pub bursts-shown : Bursts
unfolding running
bursts-shown = record {
  no-T = λ T s. (let a = s.some in let p = s.apart 0 in omega (arith, a, p));
  no_less = λ s. (let p = s.within 0 5 (lit≤ tt) in omega (arith, p));
  lawful = record {
    sends = record { rises = λ x. omega arith; within = λ x n p. omega (arith, p) };
    keeps = record { some = lit≤ tt; kept = refl };
    loses = loses-by bursts [] burst refl refl;
  };
  right = record { fresh = record { vector = refl; lawful = refl; any = refl }; timed = record { order = refl; numbered = refl }; given = refl };
  window-less = record { fresh = record { vector = refl; lawful = refl; any = refl }; timed = record { order = refl; numbered = refl }; given = refl };
}

hushed : (m : ℕ) (vs : List Verdict) → Gives (volleys m) hush (new (volley_window m) 5) vs → Hushed m vs
unfolding running
hushed m vs g = record {
  keeps = record { some = lit≤ tt; kept = refl };
  often = refl;
  long = lit≤ tt;
  sends = record { rises = λ x. omega arith; within = λ x n p. omega (arith, p) };
  gives = g;
}

pub bursts-round : BurstsRound
unfolding running
bursts-round = record {
  no-T = λ m T s. (let a = s.some in let p = s.apart 0 in omega (arith, a, p));
  window = λ m. record { rises = λ x. omega arith; within = λ x n p. omega (arith, p) };
  no_less = λ m s. (let p = s.within 0 65531 (lit≤ tt) in omega (arith, p));
  exactly = refl;
  right = hushed 0 _ (record { fresh = record { vector = refl; lawful = refl; any = refl }; timed = record { order = refl; numbered = refl }; given = refl });
  judged = record { verdicts = refl; once = refl };
  further = refl;
  wrong = hushed 1 _ (record { fresh = record { vector = refl; lawful = refl; any = refl }; timed = record { order = refl; numbered = refl }; given = refl });
  wanted = refl;
}

pub restart : Restart
unfolding running
restart = record {
  longer = omega arith;
  right = record {
    silence = record { vector = refl; lawful = refl; order = refl; begun = lit≤ tt; over = refl; ticks = refl };
    timed = record { order = refl; numbered = refl };
    lawful = record {
      sends = record { rises = λ x. omega arith; within = λ x n p. omega (arith, p) };
      keeps = record { some = lit≤ tt; kept = refl };
      loses = loses-by (again 14) [] (came 0 20 ∷ ticked 21 ∷ came 1 22 ∷ came 0 25 ∷ []) refl refl;
    };
    given = refl;
  };
  as_long = refl;
  wrong = record {
    silence = record { vector = refl; lawful = refl; order = refl; begun = lit≤ tt; over = refl; ticks = refl };
    timed = record { order = refl; numbered = refl };
    lawful = record {
      sends = record { rises = λ x. omega arith; within = λ x n p. omega (arith, p) };
      keeps = record { some = lit≤ tt; kept = refl };
      loses = loses-by (again 13) [] (came 0 19 ∷ ticked 19 ∷ came 1 21 ∷ []) refl refl;
    };
    given = refl;
  };
}

pub after-outage : AfterOutage
unfolding running
after-outage = record {
  broken = not-losing busy (lull ++ back ++ caught) 0 9 refl refl (lit< tt) refl (λ y p. omega (arith, p));
  seen = record { fresh = record { vector = refl; lawful = refl; any = refl }; timed = record { order = refl; numbered = refl }; given = refl };
  lawful = record {
    sends = record { rises = λ x. omega arith; within = λ x n p. omega (arith, p) };
    keeps = record { some = lit≤ tt; kept = refl };
    loses = loses-by busy [] (back ++ caught) refl refl;
  };
  right = record { fresh = record { vector = refl; lawful = refl; any = refl }; timed = record { order = refl; numbered = refl }; given = refl };
  window-less = record { fresh = record { vector = refl; lawful = refl; any = refl }; timed = record { order = refl; numbered = refl }; given = refl };
}

pub wide-shown : Wide
unfolding running
wide-shown = record {
  largest = refl;
  lawful = record {
    sends = record { rises = λ x. omega arith; within = λ x n p. omega (arith, p) };
    keeps = record { some = lit≤ tt; kept = refl };
    loses = loses-by wide [] far refl refl;
  };
  right = record { fresh = record { vector = refl; lawful = refl; any = refl }; timed = record { order = refl; numbered = refl }; given = refl };
  window-less = record { fresh = record { vector = refl; lawful = refl; any = refl }; timed = record { order = refl; numbered = refl }; given = refl };
}

pub in-batches : InBatches
unfolding stepping
in-batches = record { fresh = record { vector = refl; lawful = refl; any = refl }; timed = record { order = refl; numbered = refl }; given = refl }
