-- The runs of `specs/AgainRuns` compute, and what the statements ask for and give. Assumes nothing.
use mathlib.Core.Path.{refl}
use mathlib.Core.Bool.{false≢true}
use mathlib.Core.List.{[], ◌∷◌}
use native.Mathlib.Omega.{arith}
use lib.Dec.{lit≤}
use Rattle.stream.specs.Decisions.{up}
use Rattle.demands.specs.Receiver.{Receiver, the_receiver}
use Rattle.demands.specs.Steps.{the_machine}
use Rattle.demands.proofs.Alike.{the-receiver-meets}
use Rattle.demands.proofs.Stepping.{the-machine-meets}
use Rattle.delays.specs.Line.{came, indices}
use Rattle.delays.specs.OnceEach.{Sees}
use Rattle.delays.specs.StartedAgain.{Among, EachWaits, OnceEachStartedAgain, OnceEachBothLives}
use Rattle.delays.specs.ByNumber.{wait_ticks}
use Rattle.delays.proofs.Theorems.{theorems}
use Rattle.delays_runs.specs.AgainRuns.{WrittenAgain, AgainPremisesAre, AgainNeeded, later_lives, ThreeLives}
use Rattle.delays_runs.proofs.Computing.{running}

written : {A : Type 0} {receive : Receiver} {sees : Sees A} → OnceEachStartedAgain receive sees → OnceEachBothLives receive sees → WrittenAgain receive sees
written again lives = record {
  again = λ k b still handed old wait es dest vlan window time t i run e p one among s q o w l r. (
      let a = again k b still handed old wait es window time _ i run
      (record { dest = dest; vlan = vlan; table = t; answered = e; left = refl; timed = p }) one among s q o w l r in
      (a.verdicts, a.gone, a.once, a.each)
      );
  lives = λ k b still before was wait es dest₀ vlan₀ window₀ time₀ s t j old dest vlan window time r u i new e f p g h q sends c d o l₀ r₀ w l n. (
      let a = lives k b still before was wait es window₀ time₀ t j old window time u i new
      (record { dest = dest₀; vlan = vlan₀; table = s; answered = e; left = f; timed = p })
      (record { dest = dest; vlan = vlan; table = r; answered = g; left = h; timed = q }) sends c d o l₀ r₀ w l n in
      (a.old, a.new, a.once, a.each)
      );
}

pub again-premises-are : AgainPremisesAre
unfolding the_machine
again-premises-are =
    let d = theorems.delays the_receiver the-receiver-meets in
    let s = theorems.delays-steps the_machine the-machine-meets in
    record {
      calls = written d.once-each-started-again d.once-each-both-lives;
      steps = written s.once-each-started-again s.once-each-both-lives;
      behind-wait = theorems.none-behind-wait;
      handed = theorems.handed-came;
      over-lives = theorems.none-twice-over-lives;
      least = λ T q j tau m n s e few. (
          let a = theorems.least-wait T q j tau m n s e (omega arith) in
          (a.old, a.wait, a.es, a.sends, a.keeps, a.loses, a.waited, a.twice)
          );
    }

pub again-needed : AgainNeeded
unfolding running
again-needed = record {
  late = record {
    broken = (lit≤ tt, (false≢true, (lit≤ tt, tt)));
    old = record { fresh = record { vector = refl; lawful = refl; any = refl }; timed = record { order = refl; numbered = refl }; given = refl };
    new = record { fresh = record { vector = refl; lawful = refl; any = refl }; timed = record { order = refl; numbered = refl }; given = refl };
  };
  sooner = record {
    broken = (lit≤ tt, (false≢true, (lit≤ tt, tt)));
    old = record { fresh = record { vector = refl; lawful = refl; any = refl }; timed = record { order = refl; numbered = refl }; given = refl };
    new = record { fresh = record { vector = refl; lawful = refl; any = refl }; timed = record { order = refl; numbered = refl }; given = refl };
  };
  ticks = record {
    broken = (lit≤ tt, (false≢true, (lit≤ tt, tt)));
    old = record { fresh = record { vector = refl; lawful = refl; any = refl }; timed = record { order = refl; numbered = refl }; given = refl };
    new = record { fresh = record { vector = refl; lawful = refl; any = refl }; timed = record { order = refl; numbered = refl }; given = refl };
  };
  no-tau = record {
    broken = (λ p. omega (arith, p), (refl, (lit≤ tt, tt)));
    old = record { fresh = record { vector = refl; lawful = refl; any = refl }; timed = record { order = refl; numbered = refl }; given = refl };
    new = record { fresh = record { vector = refl; lawful = refl; any = refl }; timed = record { order = refl; numbered = refl }; given = refl };
  };
  disordered = record {
    broken = (lit≤ tt, (false≢true, (lit≤ tt, tt)));
    old = record { fresh = record { vector = refl; lawful = refl; any = refl }; timed = record { order = refl; numbered = refl }; given = refl };
    new = record { fresh = record { vector = refl; lawful = refl; any = refl }; timed = record { order = refl; numbered = refl }; given = refl };
  };
  overlap = record {
    broken = (lit≤ tt, (false≢true, (lit≤ tt, tt)));
    old = record { fresh = record { vector = refl; lawful = refl; any = refl }; timed = record { order = refl; numbered = refl }; given = refl };
    new = record { fresh = record { vector = refl; lawful = refl; any = refl }; timed = record { order = refl; numbered = refl }; given = refl };
  };
  fewer = record {
    broken = (lit≤ tt, (refl, (λ p. omega (arith, p), tt)));
    old = record { fresh = record { vector = refl; lawful = refl; any = refl }; timed = record { order = refl; numbered = refl }; given = refl };
    new = record { fresh = record { vector = refl; lawful = refl; any = refl }; timed = record { order = refl; numbered = refl }; given = refl };
  };
  as_many = (refl, refl);
  handed-twice = refl;
  not-come = (refl, refl);
  life-twice = refl;
}

alone : Among (0 ∷ []) (indices (came 0 2 ∷ []))
unfolding running
alone x i = i

waits : EachWaits wait_ticks (came 0 2 ∷ []) (later_lives wait_ticks (up ∷ []))
unfolding running
waits = (refl, lit≤ tt, refl, (refl, lit≤ tt, refl, tt))

pub three-lives : ThreeLives
unfolding running
three-lives = record {
  first = record { fresh = record { vector = refl; lawful = refl; any = refl }; timed = record { order = refl; numbered = refl }; given = refl };
  second = record { fresh = record { vector = refl; lawful = refl; any = refl }; timed = record { order = refl; numbered = refl }; given = refl };
  third = record { fresh = record { vector = refl; lawful = refl; any = refl }; timed = record { order = refl; numbered = refl }; given = refl };
  keeps = record { some = lit≤ tt; kept = refl };
  not-struck = refl;
  waits = waits;
  once = theorems.none-twice-in-all-lives wait_ticks (came 0 2 ∷ []) (0 ∷ []) (later_lives wait_ticks (up ∷ [])) refl alone waits;
  all = refl;
  shorter = record { fresh = record { vector = refl; lawful = refl; any = refl }; timed = record { order = refl; numbered = refl }; given = refl };
  twice = refl;
}
