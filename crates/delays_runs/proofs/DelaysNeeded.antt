-- The runs of `specs/DelaysNeeded` compute. Assumes nothing.
use Prim.Native.Nat.{ℕ}
use mathlib.Core.Path.{◌≡◌, refl}
use mathlib.Core.Bool.{true, false≢true}
use mathlib.Core.List.{List, [], ◌∷◌, cons≢nil, head-eq_of_cons-eq, tail-eq_of_cons-eq}
use native.Mathlib.Omega.{arith}
use lib.Dec.{lit≤, lit<}
use Rattle.stream.specs.Record.{lawful}
use Rattle.calls.specs.Table.{at}
use Rattle.demands.specs.Missed.{FreshVector}
use Rattle.delays.specs.Line.{came, ticked, J, Sends, Loses}
use Rattle.delays.specs.OnceEach.{Kind, copy, close}
use Rattle.delays.specs.ByNumber.{new, line, b}
use Rattle.delays.proofs.Losing.{loses-by}
use Rattle.delays_runs.specs.DelaysRuns.{hole, level, again}
use Rattle.delays_runs.specs.DelaysNeeded.{DelaysNeeded, FewerNeeded, TicksNeeded, SilenceNeeded, anew, twice, sooner, pair, falling, fallen}
use Rattle.delays_runs.proofs.Hole.{not-losing}
use Rattle.delays_runs.proofs.Computing.{running}

fresh : (window time : ℕ) → lawful (at (new window time) 0) ≡ true → FreshVector (at (new window time) 0)
unfolding running
fresh window time e = record { vector = refl; lawful = e; any = refl }

line-sends : Sends line (J line) b
unfolding running
line-sends = record { rises = λ x. omega arith; within = λ x n p. omega (arith, p) }

other-kind : ◌≡◌ {A = List Kind} (copy ∷ close ∷ copy ∷ []) (copy ∷ copy ∷ []) → ⊥
other-kind e = cons≢nil (tail-eq_of_cons-eq (tail-eq_of_cons-eq e))

other-number : ◌≡◌ {A = List ℕ} (0 ∷ 0 ∷ []) (0 ∷ 1 ∷ []) → ⊥
other-number e = let z : ◌≡◌ {A = ℕ} 0 1 = head-eq_of_cons-eq (tail-eq_of_cons-eq e) in omega arith

all-at-once : Sends (level (λ x. 0) 1 0) 0 0 → ⊥
unfolding running
all-at-once s = let p = s.within 0 1 (lit≤ tt) in omega (arith, p)

one_by_one : Sends (level (λ x. x) 0 0) 0 0
unfolding running
one_by_one = record { rises = λ x. omega arith; within = λ x n p. omega (arith, p) }

hole-broken : Loses line [] hole → ⊥
unfolding running
hole-broken = not-losing line hole 0 5 refl refl (lit< tt) refl (λ y p. omega (arith, p)) []

instant-loses : Loses (level (λ x. 0) 1 0) [] (came 0 0 ∷ came 2 0 ∷ came 1 0 ∷ [])
unfolding running
instant-loses = loses-by (level (λ x. 0) 1 0) [] (came 0 0 ∷ came 2 0 ∷ came 1 0 ∷ []) refl refl

ringing-loses : Loses (level (λ x. x) 0 0) [] (came 0 0 ∷ ticked 0 ∷ ticked 0 ∷ came 0 0 ∷ [])
unfolding running
ringing-loses = loses-by (level (λ x. x) 0 0) [] (came 0 0 ∷ ticked 0 ∷ ticked 0 ∷ came 0 0 ∷ []) refl refl

falls-once : Sends falling 0 2 → ⊥
unfolding running
falls-once s = let p = s.rises 0 in omega (arith, p)

pub delays-needed : DelaysNeeded
unfolding running
delays-needed = record {
  late = record {
    broken = (fresh 5 4 refl, (refl, (refl, (line-sends, (lit≤ tt, (false≢true, (loses-by line [] (twice 8 8) refl refl, (lit≤ tt, (lit≤ tt, tt)))))))));
    given = refl;
    wanted = refl;
  };
  sooner = record {
    broken = (fresh 5 4 refl, (refl, (refl, (line-sends, (lit≤ tt, (false≢true, (loses-by line [] sooner refl refl, (lit≤ tt, (lit≤ tt, tt)))))))));
    given = refl;
    wanted = refl;
  };
  disordered = record {
    broken = (fresh 5 4 refl, (refl, (refl, (line-sends, (lit≤ tt, (false≢true, (loses-by line [] (twice 8 7) refl refl, (lit≤ tt, (lit≤ tt, tt)))))))));
    given = refl;
    wanted = refl;
  };
  ticks = record {
    broken = (fresh 5 4 refl, (refl, (refl, (line-sends, (lit≤ tt, (false≢true, (loses-by line [] (twice 7 7) refl refl, (lit≤ tt, (lit≤ tt, tt)))))))));
    given = refl;
    wanted = refl;
  };
  lost = record {
    broken = (fresh 5 4 refl, (refl, (refl, (line-sends, (lit≤ tt, (refl, (hole-broken, (lit≤ tt, (lit≤ tt, tt)))))))));
    given = refl;
    wanted = refl;
  };
  not-apart = λ x. omega arith;
  no-T = record {
    broken = (fresh 2 2 refl, (refl, (refl, (all-at-once, (lit≤ tt, (refl, (instant-loses, (lit≤ tt, (lit≤ tt, tt)))))))));
    given = refl;
    wanted = refl;
  };
  no-tau = record {
    broken = (fresh 2 2 refl, (refl, (refl, (one_by_one, (λ p. omega (arith, p), (refl, (ringing-loses, (lit≤ tt, (lit≤ tt, tt)))))))));
    given = refl;
    wanted = refl;
  };
  within = λ x n p. omega (arith, p);
  falls = record {
    broken = (fresh 4 2 refl, (refl, (refl, (falls-once, (lit≤ tt, (refl, (loses-by falling [] fallen refl refl, (lit≤ tt, (lit≤ tt, tt)))))))));
    given = refl;
    wanted = refl;
  };
  number = record {
    broken = (fresh 5 4 refl, (refl, (other-number, (line-sends, (lit≤ tt, (refl, (loses-by line [] (pair 1) refl refl, (lit≤ tt, (lit≤ tt, tt)))))))));
    given = refl;
    wanted = refl;
  };
  reset = record {
    broken = (fresh 5 4 refl, (other-kind, (refl, (line-sends, (lit≤ tt, (refl, (loses-by line [] (pair 0) refl refl, (lit≤ tt, (lit≤ tt, tt)))))))));
    given = refl;
    wanted = refl;
  };
  reopened = record {
    broken = (fresh 5 4 refl, (other-kind, (refl, (line-sends, (lit≤ tt, (refl, (loses-by line [] (pair 0) refl refl, (lit≤ tt, (lit≤ tt, tt)))))))));
    given = refl;
    wanted = refl;
  };
  begun = record {
    broken = (λ f. false≢true f.any, (refl, (refl, (line-sends, (lit≤ tt, (refl, (loses-by line [] (came 0 4 ∷ []) refl refl, (lit≤ tt, (lit≤ tt, tt)))))))));
    given = refl;
    wanted = refl;
  };
}

pub fewer-needed : FewerNeeded
unfolding running
fewer-needed = record {
  least = (refl, refl);
  as_many = refl;
  wrong = record { fresh = fresh 5 4 refl; timed = record { order = refl; numbered = refl }; given = refl };
  fewer = refl;
  near = refl;
  right = record { fresh = fresh 5 5 refl; timed = record { order = refl; numbered = refl }; given = refl };
  round = (refl, refl);
}

pub ticks-needed : TicksNeeded
unfolding running
ticks-needed = record {
  keeps = record { some = lit≤ tt; kept = refl };
  broken = refl;
  long = lit≤ tt;
  sends = record { rises = λ x. omega arith; within = λ x n p. omega (arith, p) };
  near = lit≤ tt;
  gives = record { fresh = record { vector = refl; lawful = refl; any = refl }; timed = record { order = refl; numbered = refl }; given = refl };
  wanted = refl;
}

pub silence-needed : SilenceNeeded
unfolding running
silence-needed = record {
  longer = omega arith;
  kept = record {
    sends = record { rises = λ x. omega arith; within = λ x n p. omega (arith, p) };
    keeps = record { some = lit≤ tt; kept = refl };
    loses = loses-by (again 14) [] anew refl refl;
  };
  wanted = refl;
  begun = record { broken = (refl, (refl, (refl, (λ p. omega arith, (refl, (refl, tt)))))); timed = record { order = refl; numbered = refl }; given = refl };
  over = record { broken = (refl, (refl, (refl, (lit≤ tt, (false≢true, (refl, tt)))))); timed = record { order = refl; numbered = refl }; given = refl };
  ticks = record { broken = (refl, (refl, (refl, (lit≤ tt, (refl, (false≢true, tt)))))); timed = record { order = refl; numbered = refl }; given = refl };
}
