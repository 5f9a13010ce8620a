-- From an open on. Assumes nothing.
use Prim.Native.Nat.{ℕ}
use mathlib.Core.Path.{◌≡◌, refl, ap, sym, ◌∙◌}
use mathlib.Core.List.{List}
use Rattle.refusal.specs.Checks.Said.{answers}
use Rattle.record.specs.Words.{yes}
use Rattle.record.specs.Sizes.{vector_rule}
use Rattle.frame.specs.Frame.{dest_of}
use Rattle.stream.specs.Record.{opened}
use Rattle.calls.specs.Table.{Table, at}
use Rattle.calls.specs.Calls.{opening, placed, checked, act, after}
use Rattle.calls.proofs.Sound.{open-lawful, open-takes-free}
use Rattle.demands.specs.Receiver.{Receiver, MeetsContract, the_receiver}
use Rattle.demands.specs.Missed.{FreshVector}
use Rattle.demands.proofs.Alike.{carried}
use Rattle.demands.proofs.Slot.{at_set}
use Rattle.demands.proofs.After.{is_open}
use Rattle.delays.specs.OnceEach.{Sees, OnceEach, OnceEachOpened}

-- An open leaves the record that it asks for, and that is fresh.
record Opens (u : Table) (i l r : ℕ) : Type 0 where
  fresh : FreshVector (at u i)
  window : (at u i).window ≡ l
  time : (at u i).time ≡ r

abbrev Opening : Receiver → Type 0
Opening receive =
    (dest : List ℕ) (vlan window time : ℕ) (t u : Table) (i : ℕ)
    → (receive t (opening dest vlan vector_rule window time)).said ≡ answers (placed i)
    → (receive t (opening dest vlan vector_rule window time)).table ≡ u
    → Opens u i window time

of-the-receiver : Opening the_receiver
unfolding the_receiver act checked after yes
of-the-receiver dest vlan window time t u i e q =
    let c = opening dest vlan vector_rule window time in
    let w = opened (dest_of dest) vlan vector_rule window time in
    let a = is_open t w i e in
    let z : at u i ≡ w = ap (λ (v : Table). at v i) (sym q) ∙ rw a (at_set t i w (open-takes-free t c i w a).0) in
    record {
      fresh = record { vector = rw z refl; lawful = rw q at (open-lawful t c i w a); any = rw z refl };
      window = rw z refl;
      time = rw z refl;
    }

pub once-each-opened : {receive : Receiver} → MeetsContract receive → {A : Type 0} {sees : Sees A} → OnceEach sees → OnceEachOpened receive sees
once-each-opened m once k b still before es dest vlan window time t u i run e q f s p o l r =
    let n = carried Opening of-the-receiver m dest vlan window time t u i e q in
    once k b still before es u i run n.fresh f s p o (rw n.window l) (rw n.time r)
