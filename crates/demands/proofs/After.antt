-- What follows from demand 3. Assumes nothing.
use Prim.Native.Nat.{ℕ, suc}
use mathlib.Core.Path.{◌≡◌, refl, sym, ◌∙◌}
use mathlib.Core.Bool.{Bool, true, false}
use mathlib.Core.List.{List, []}
use native.Mathlib.Omega.{arith}
use lib.Dec.{ltb}
use lib.ListN.{length}
use Rattle.refusal.specs.Checks.Said.{refused, answers}
use Rattle.refusal.specs.Numbers.{TABLE, SETTING, TAKEN, FULL}
use Rattle.record.specs.declared.Stream.{Stream}
use Rattle.std.specs.Prelude.{if◌then◌else◌}
use Rattle.record.specs.Words.{yes}
use Rattle.record.specs.Sizes.{slots_most, vector_rule}
use Rattle.frame.specs.Frame.{dest_of}
use Rattle.stream.specs.Record.{settled, lawful, opened}
use Rattle.stream.specs.Decisions.{up, case_of, verdict}
use Rattle.stream.proofs.Law.{law}
use Rattle.calls.specs.Table.{Table, at, search, some_slot, has_key, is_free}
use Rattle.calls.specs.Calls.{opening, ticking, refuse, opens, ticks, open-call, checked, act, after, answer, placed, swept}
use Rattle.calls.proofs.Sound.{at-ticked, open-lawful, open-takes-free}
use Rattle.demands.specs.Receiver.{Receiver, MeetsContract, the_receiver, run}
use Rattle.demands.specs.Seen.{ResetsSeen}
use Rattle.demands.specs.Unlimited.{highest}
use Rattle.demands.specs.Corollaries.{handed, NeverTwice, UnlimitedNeverTwice, OpenedDecides, RestartGetsThrough, CountsOnce}
use Rattle.demands.proofs.Alike.{carried, the-receiver-meets}
use Rattle.demands.proofs.Once.{once}
use Rattle.demands.proofs.Sums.{sums}
use Rattle.demands.proofs.Slot.{at_set}
use Rattle.demands.proofs.Told.{answered-arrival}
use Rattle.demands.proofs.Follow.{reset-seen}
use Rattle.demands.proofs.Three.{inside, over, from-fresh, demand-3}

twice : NeverTwice the_receiver
twice t i gap later indices p = rw (demand-3 the-receiver-meets t i gap later indices p) (once (at t i).window indices []).apart

pub unlimited-never-twice : UnlimitedNeverTwice
unlimited-never-twice l indices = (once l indices []).apart

pub never-twice : {receive : Receiver} → MeetsContract receive → NeverTwice receive
never-twice m = carried NeverTwice twice m

-- An open that is answered with a slot opens that slot, with the record that it asks for.
pub is_open : (t : Table) (s : Stream) (i : ℕ) → answer t (if ltb slots_most (length t) then refuse TABLE else open-call t s) ≡ answers (placed i)
    → (if ltb slots_most (length t) then refuse TABLE else open-call t s) ≡ opens i s
unfolding open-call answer
is_open t s i e = go (ltb slots_most (length t)) refl (settled s) refl (some_slot (has_key s.dest s.vlan) t) refl (some_slot is_free t) refl
  where
    go : (a : Bool) → ltb slots_most (length t) ≡ a → (b : Bool) → settled s ≡ b → (c : Bool) → some_slot (has_key s.dest s.vlan) t ≡ c
        → (d : Bool) → some_slot is_free t ≡ d → (if ltb slots_most (length t) then refuse TABLE else open-call t s) ≡ opens i s
    go true q b r c u d w = let z : refused TABLE ≡ answers (placed i) = rw q at e in cc
    go false q false r c u d w = let z : refused SETTING ≡ answers (placed i) = rw (q, r) at e in cc
    go false q true r true u d w = let z : refused TAKEN ≡ answers (placed i) = rw (q, r, u) at e in cc
    go false q true r false u false w = let z : refused FULL ≡ answers (placed i) = rw (q, r, u, w) at e in cc
    go false q true r false u true w = rw (q, r, u, w) (let z : answers (placed (search is_free t)) ≡ answers (placed i) = rw (q, r, u, w) at e in cc)

-- What an open that is answered with slot i left there: a lawful record, with what was asked for and nothing counted.
pub record Begun (u : Table) (i l : ℕ) : Type 0 where
  pub lawful : lawful (at u i) ≡ true
  pub window : (at u i).window ≡ l
  pub any : yes (at u i).state.any ≡ true
  pub rule : (at u i).rule ≡ vector_rule
  pub lost : (at u i).counts.lost ≡ 0

pub begun : (t : Table) (dest : List ℕ) (vlan window time i : ℕ)
    → (the_receiver t (opening dest vlan vector_rule window time)).said ≡ answers (placed i)
    → Begun (the_receiver t (opening dest vlan vector_rule window time)).table i window
unfolding the_receiver act checked after yes
begun t dest vlan window time i e =
    let c = opening dest vlan vector_rule window time in
    let s = opened (dest_of dest) vlan vector_rule window time in
    let o = is_open t s i e in
    let z : at (after t (act t c)) i ≡ s = rw o (at_set t i s (open-takes-free t c i s o).0) in
    record { lawful = open-lawful t c i s o; window = rw z refl; any = rw z refl; rule = rw z refl; lost = rw z refl }

opened-so : OpenedDecides the_receiver
opened-so t dest vlan window time i later indices e p =
    let u : Table = (the_receiver t (opening dest vlan vector_rule window time)).table in
    let b = begun t dest vlan window time i e in
    from-fresh window u i later indices (inside u i b.lawful) (law b.lawful) b.window b.any b.rule p

pub opened-decides : {receive : Receiver} → MeetsContract receive → OpenedDecides receive
opened-decides m = carried OpenedDecides opened-so m

-- A record that takes any number hands it up.
first-up : (s : Stream) (n : ℕ) → yes s.state.any ≡ true → verdict s n ≡ up
unfolding verdict case_of
first-up s n a = rw a

restart : RestartGetsThrough the_receiver
unfolding the_receiver
restart t i gap c n x v q e =
    (answered-arrival (run the_receiver t gap) (act (run the_receiver t gap) c) i n x v e).verdict
    ∙ first-up (at (run the_receiver t gap) i) n (over q).any

pub restart-gets-through : {receive : Receiver} → MeetsContract receive → RestartGetsThrough receive
restart-gets-through m = carried RestartGetsThrough restart m

counts : CountsOnce the_receiver
counts t i gap later indices f p =
    sums f (suc (highest (handed the_receiver t i gap later indices))) (handed the_receiver t i gap later indices) (omega arith)
    (twice t i gap later indices p)

pub counts-once : {receive : Receiver} → MeetsContract receive → CountsOnce receive
counts-once m = carried CountsOnce counts m

-- A tick that is not refused is a tick.
is-tick : (t : Table) (streams records : ℕ) → answer t (act t ticking) ≡ answers (swept streams records) → act t ticking ≡ ticks
unfolding act checked answer
is-tick t streams records e = go (ltb slots_most (length t)) refl
  where
    go : (b : Bool) → ltb slots_most (length t) ≡ b → (if ltb slots_most (length t) then refuse TABLE else ticks) ≡ ticks
    go true q = let z : refused TABLE ≡ answers (swept streams records) = rw q at e in cc
    go false q = rw q

seen-resets : ResetsSeen the_receiver
unfolding the_receiver after
seen-resets t i streams records e = rw (is-tick t streams records e, at-ticked t i) (sym (reset-seen (at t i)))

pub resets-seen : {receive : Receiver} → MeetsContract receive → ResetsSeen receive
resets-seen m = carried ResetsSeen seen-resets m
