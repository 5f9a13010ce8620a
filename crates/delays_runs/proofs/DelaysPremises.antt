-- What the statements ask for and give. Assumes nothing.
use mathlib.Core.Path.{refl}
use Rattle.demands.specs.Receiver.{the_receiver}
use Rattle.demands.specs.Steps.{the_machine}
use Rattle.demands.proofs.Alike.{the-receiver-meets}
use Rattle.demands.proofs.Stepping.{the-machine-meets}
use Rattle.delays.specs.OnceEach.{Sees, OnceEach, OnceEachEven, NoneTwice, NoneForAnother}
use Rattle.delays.proofs.Theorems.{theorems}
use Rattle.delays_runs.specs.DelaysNeeded.{Written, DelaysPremisesAre}

written : {A : Type 0} {sees : Sees A} → OnceEach sees → OnceEachEven sees → NoneTwice sees → NoneForAnother sees → Written sees
written once even twice another = record {
  each = λ k b still before es t i run p.
      once k b still before es t i run p.0 (record { order = p.1.0; numbered = p.1.1.0 }) p.1.1.1.0
      (record { some = p.1.1.1.1.0; kept = p.1.1.1.1.1.0 }) p.1.1.1.1.1.1.0 p.1.1.1.1.1.1.1.0 p.1.1.1.1.1.1.1.1.0;
  even = even;
  twice = λ t i run es f p few near. let j = twice t i run es f p few near in (j.verdicts, j.once);
  another = λ k c start es t i run f p q ticks time s round. let j = another k c start es t i run f p q ticks time s round in (j.verdicts, j.once);
}

pub delays-premises-are : DelaysPremisesAre
delays-premises-are =
    let d = theorems.delays the_receiver the-receiver-meets in
    let s = theorems.delays-steps the_machine the-machine-meets in
    record {
      calls = written d.once-each d.once-each-even d.none-twice d.none-for-another;
      steps = written s.once-each s.once-each-even s.none-twice s.none-for-another;
      opened = λ k b still before es dest vlan window time t i calls e p.
          d.once-each-opened k b still before es dest vlan window time t _ i calls e refl
          (record { order = p.1.0; numbered = p.1.1.0 }) p.1.1.1.0 (record { some = p.1.1.1.1.0; kept = p.1.1.1.1.1.0 })
          p.1.1.1.1.1.1.0 p.1.1.1.1.1.1.1.0 p.1.1.1.1.1.1.1.1.0;
      fewer = λ k start es some q. theorems.fewer-ticks k start es (record { some = some; kept = q });
    }
