-- An open and a reset leave a stream fresh. Assumes nothing.
use Prim.Native.Nat.{ℕ}
use mathlib.Core.Path.{◌≡◌, refl, sym, ◌∙◌}
use mathlib.Core.Bool.{Bool, true, false, ◌&&◌, not, false≢true}
use mathlib.Core.List.{map}
use lib.Dec.{ltb}
use lib.ListN.{length}
use Rattle.refusal.specs.Checks.Said.{refused, answers}
use Rattle.refusal.specs.Numbers.{TABLE, DAMAGED, SLOT}
use Rattle.record.specs.declared.Stream.{Stream}
use Rattle.std.specs.Prelude.{if◌then◌else◌}
use Rattle.record.specs.Words.{yes}
use Rattle.record.specs.Sizes.{slots_most, vector_rule}
use Rattle.stream.specs.Record.{settled}
use Rattle.stream.specs.Decisions.{reset, expires, ticked}
use Rattle.stream.proofs.Logic.{tests}
use Rattle.stream.proofs.Law.{law}
use Rattle.stream.proofs.Keeps.{reset-lawful}
use Rattle.calls.specs.Table.{Table, at}
use Rattle.calls.specs.Calls.{resetting, ticking, refuse, resets, ticks, in_use, checked, act, after, answer, done}
use Rattle.calls.proofs.Sound.{Known, act-known, at-ticked}
use Rattle.demands.specs.Receiver.{Receiver, MeetsContract, the_receiver}
use Rattle.demands.specs.Seen.{was_reset}
use Rattle.demands.specs.Missed.{FreshVector, BeginsFresh}
use Rattle.demands.proofs.Alike.{carried}
use Rattle.demands.proofs.Slot.{at_set}
use Rattle.demands.proofs.Follow.{reset-seen}
use Rattle.demands.proofs.After.{begun}

-- A reset that is answered is one.
is-reset : (t : Table) (i : ℕ) → answer t (act t (resetting i)) ≡ answers done → act t (resetting i) ≡ resets i
unfolding act checked answer
is-reset t i e = go (ltb slots_most (length t)) refl (in_use t i) refl (settled (at t i)) refl
  where
    go : (a : Bool) → ltb slots_most (length t) ≡ a → (b : Bool) → in_use t i ≡ b → (c : Bool) → settled (at t i) ≡ c
        → (if ltb slots_most (length t) then refuse TABLE else (if not (in_use t i) then refuse SLOT else (if not (settled (at t i)) then refuse DAMAGED else resets i))) ≡ resets i
    go true q b r c u = let z : refused TABLE ≡ answers done = rw q at e in cc
    go false q false r c u = let z : refused SLOT ≡ answers done = rw (q, r) at e in cc
    go false q true r false u = let z : refused DAMAGED ≡ answers done = rw (q, r, u) at e in cc
    go false q true r true u = rw (q, r, u)

reset-fresh : (s : Stream) → s.rule ≡ vector_rule → yes s.used ≡ true → settled s ≡ true → FreshVector (reset s)
unfolding reset yes
reset-fresh s v u e = record { vector = v; lawful = reset-lawful s u e; any = refl }

-- A tick that is seen to reset a stream has reset it.
tick-fresh : (s : Stream) → s.rule ≡ vector_rule → was_reset s (ticked s) ≡ true → FreshVector (ticked s)
unfolding ticked expires
tick-fresh s v w =
    let e : expires s ≡ true = reset-seen s ∙ w in
    let l = law (simp tests at e).0 in
    rw e (reset-fresh s v l.used l.settled)

unmoved : (b : Bool) → not b && b ≡ false
unmoved true = refl
unmoved false = refl

after-tick : (t : Table) (i : ℕ) → (at t i).rule ≡ vector_rule → was_reset (at t i) (at (after t (act t ticking)) i) ≡ true
    → FreshVector (at (after t (act t ticking)) i)
unfolding act checked after
after-tick t i v w = go (ltb slots_most (length t)) refl
  where
    go : (b : Bool) → ltb slots_most (length t) ≡ b → FreshVector (at (after t (if ltb slots_most (length t) then refuse TABLE else ticks)) i)
    go true q =
        let z : was_reset (at t i) (at t i) ≡ true = rw q at w in
        absurd (false≢true (sym (unmoved (yes (at t i).state.any)) ∙ z))
    go false q =
        let z : was_reset (at t i) (at (map ticked t) i) ≡ true = rw q at w in
        rw (q, at-ticked t i) (tick-fresh (at t i) v (rw (at-ticked t i) at z))

after-reset : (t : Table) (i : ℕ) → (at t i).rule ≡ vector_rule → answer t (act t (resetting i)) ≡ answers done
    → FreshVector (at (after t (act t (resetting i))) i)
unfolding after
after-reset t i v e =
    let o = is-reset t i e in
    let k : Known t (resets i) = rw o at (act-known t (resetting i)) in
    rw (o, at_set t i (reset (at t i)) k.fact.0) (reset-fresh (at t i) v k.fact.1 k.fact.2)

begins : BeginsFresh the_receiver
unfolding the_receiver
begins t i = record {
  opened = λ dest vlan window time e. (let b = begun t dest vlan window time i e in record { vector = b.rule; lawful = b.lawful; any = b.any });
  reset = after-reset t i;
  ticked = after-tick t i;
}

pub begins-fresh : {receive : Receiver} → MeetsContract receive → BeginsFresh receive
begins-fresh m = carried BeginsFresh begins m
