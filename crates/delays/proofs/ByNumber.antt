-- The runs of `specs/ByNumber` compute. Errors are told in the order of the modules' names, behind those of what a module uses: by its name
-- this one comes before the proofs of the theorems, and so a wrong formula is refused by a run (must-fail/). Assumes nothing.
use mathlib.Core.Path.{refl}
use mathlib.Core.List.{[], ◌++◌}
use native.Mathlib.Omega.{arith}
use lib.Dec.{lit≤}
use Rattle.delays.specs.StartedAgain.{copies_in}
use Rattle.delays.specs.ByNumber.{line, traffic, busy, missed, caught, old_life, new_life, Sharp, TrafficSharp, AgainSharp}
use Rattle.delays.proofs.Losing.{loses-by}
use Rattle.delays.proofs.Computing.{timing}

pub sharp : Sharp
unfolding timing
sharp = record {
  right = record { fresh = record { vector = refl; lawful = refl; any = refl }; timed = record { order = refl; numbered = refl }; given = refl };
  window-less = record { fresh = record { vector = refl; lawful = refl; any = refl }; timed = record { order = refl; numbered = refl }; given = refl };
  time-less = record { fresh = record { vector = refl; lawful = refl; any = refl }; timed = record { order = refl; numbered = refl }; given = refl };
  wanted = refl;
  even = record { some = lit≤ tt; apart = λ x. omega arith };
  lawful = record {
    sends = record { rises = λ x. omega arith; within = λ x n p. omega (arith, p) };
    keeps = record { some = lit≤ tt; kept = refl };
    loses = loses-by line [] traffic refl refl;
  };
}

pub traffic-sharp : TrafficSharp
unfolding timing
traffic-sharp = record {
  right = record { fresh = record { vector = refl; lawful = refl; any = refl }; timed = record { order = refl; numbered = refl }; given = refl };
  window-less = record { fresh = record { vector = refl; lawful = refl; any = refl }; timed = record { order = refl; numbered = refl }; given = refl };
  even = record { some = lit≤ tt; apart = λ x. omega arith };
  lawful = record {
    sends = record { rises = λ x. omega arith; within = λ x n p. omega (arith, p) };
    keeps = record { some = lit≤ tt; kept = refl };
    loses = loses-by busy [] (missed ++ caught) refl refl;
  };
}

pub again-sharp : AgainSharp
unfolding timing
again-sharp = record {
  right = record {
    gives = record { fresh = record { vector = refl; lawful = refl; any = refl }; timed = record { order = refl; numbered = refl }; given = refl };
    both = refl;
  };
  wait-less = record {
    gives = record { fresh = record { vector = refl; lawful = refl; any = refl }; timed = record { order = refl; numbered = refl }; given = refl };
    both = refl;
  };
  at_once = record {
    gives = record { fresh = record { vector = refl; lawful = refl; any = refl }; timed = record { order = refl; numbered = refl }; given = refl };
    both = refl;
  };
  window-less = record {
    gives = record { fresh = record { vector = refl; lawful = refl; any = refl }; timed = record { order = refl; numbered = refl }; given = refl };
    both = refl;
  };
  old = record { fresh = record { vector = refl; lawful = refl; any = refl }; timed = record { order = refl; numbered = refl }; given = refl };
  lawful = record {
    sends = record { rises = λ x. omega arith; within = λ x n p. omega (arith, p) };
    keeps = record { some = lit≤ tt; kept = refl };
    loses = loses-by line [] (copies_in old_life ++ new_life) refl refl;
  };
  not-struck = refl;
  whole = refl;
  as_long = refl;
}
