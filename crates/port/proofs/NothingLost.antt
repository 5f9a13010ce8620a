-- Nothing is lost in what the calls on a table tell: no refusal has the number 0, and what a call said can be read back.
-- Assumes nothing.
use mathlib.Core.Path.{◌≡◌, refl, sym, ap, ◌∙◌}
use Prim.Native.Nat.{ℕ, zero, suc, ◌-◌}
use native.Mathlib.Omega.{arith}
use mathlib.Core.Bool.{Bool, true, false, cond, not}
use mathlib.Core.List.{List, [], ◌∷◌}
use lib.Dec.{eqb, ltb, leb}
use lib.ListN.{length}
use Rattle.refusal.specs.Checks.{Said, Check, first_of}
use Rattle.refusal.specs.Checks.Said.{refused, answers}
use Rattle.refusal.specs.Numbers.{TABLE, NETWORK, UNKNOWN, DAMAGED, ROOM, SETTING, TAKEN, FULL, SLOT, INDEX}
use Rattle.refusal.proofs.Checks.{Positive, first-positive}
use Rattle.record.specs.Sizes.{slots_most}
use Rattle.frame.specs.Frame.{Tag, dest_of, untagged, unranked}
use Rattle.frame.specs.Link.{Link, but_last}
use Rattle.stream.specs.Record.{settled, lawful}
use Rattle.stream.specs.Record as record'
use Rattle.frame.specs.declared.Rank.{Rank}
use Rattle.calls.specs.Table.{Table, at, search, some_slot, has_key, is_free}
use Rattle.calls.specs.Calls.{Call, arriving, linking, opening, closing, resetting, ticking, Act, refuse, arrive, opens, closes, resets, ticks, Answer, Verdict, arrived, placed, done, handed_up, duplicate, rogue, arrival_at, arrival, link_arrival, in_use, open-call, checked, act, answer}
use Rattle.calls.specs.Refusals.{checks_of}
use Rattle.calls.proofs.Exactly.{refused-exactly}
use Rattle.index.specs.Index.{Index, indexed}
use Rattle.index.specs.Indexed.{guarded, behind_first, checks_with, rebuild_checks}
use Rattle.index.proofs.Guard.{exactly}
use Rattle.calls.specs.declared.ArrivalAnswer.{ArrivalAnswer}
use Rattle.port.specs.declared.SlotAnswer.{SlotAnswer}
use Rattle.calls.specs.Told.{tell_arrival}
use Rattle.port.specs.Answers.{tell_opened, tell_done, ArrivalTold, LinkTold, ResetTold, OpenTold, CloseTold, RebuildTold}

-- ---- no refusal has the number 0

positive : (t : Table) (c : Call) → Positive (checks_of t c)
unfolding checks_of
positive t (arriving network f out) = (omega arith, (omega arith, (omega arith, (omega arith, (omega arith, (omega arith, (omega arith, (omega arith, (omega arith, tt)))))))))
positive t (linking network f out) = (omega arith, (omega arith, (omega arith, (omega arith, (omega arith, (omega arith, (omega arith, (omega arith, tt))))))))
positive t (opening dest vlan rule window time) = (omega arith, (omega arith, (omega arith, (omega arith, tt))))
positive t (closing i) = (omega arith, (omega arith, tt))
positive t (resetting i) = (omega arith, (omega arith, (omega arith, tt)))
positive t ticking = (omega arith, tt)

positive-with : (ix : Index) (t : Table) (c : Call) → Positive (checks_with ix t c)
unfolding checks_with behind_first
positive-with ix t c = go (checks_of t c) (positive t c)
  where
    k : Check
    k = record { number = INDEX; holds = not (indexed ix t) }

    go : (cs : List Check) → Positive cs → Positive (behind_first k cs)
    go [] p = (omega arith, tt)
    go (d ∷ cs) p = (p.0, (omega arith, p.1))

positive-rebuild : (ix : Index) (t : Table) → Positive (rebuild_checks ix t)
unfolding rebuild_checks
positive-rebuild ix t = (omega arith, (omega arith, tt))

pub never : (t : Table) (c : Call) → answer t (act t c) ≡ refused 0 → ⊥
never t c e = let z = first-positive 0 (checks_of t c) (positive t c) ((refused-exactly t c 0).0 e) in omega arith

never-with : (ix : Index) (t : Table) (c : Call) → answer t (guarded ix t c) ≡ refused 0 → ⊥
never-with ix t c e = let z = first-positive 0 (checks_with ix t c) (positive-with ix t c) ((exactly ix t c 0).0 e) in omega arith

-- ---- what is told is read back

-- the answer where nothing was refused
abbrev pub unless : ℕ → Answer → Said Answer
unless zero a = answers a
unless (suc n) a = refused (suc n)

abbrev read_verdict : (verdict length : ℕ) → Verdict
read_verdict v l = cond (eqb v 1) (handed_up l) (cond (eqb v 2) duplicate rogue)

abbrev read_arrival : ArrivalAnswer → Said Answer
read_arrival a = unless a.refusal (arrived a.slot a.number a.rank (read_verdict a.verdict a.length))

abbrev read_opened : SlotAnswer → Said Answer
read_opened a = unless a.refusal (placed a.slot)

abbrev read_done : ℕ → Said Answer
read_done n = unless n done

-- what each call may come to, beside a refusal
abbrev Arrives : Act → Type 0
Arrives (refuse n) = Unit
Arrives (arrive i number network x bare) = Unit
Arrives (opens i s) = ⊥
Arrives (closes i) = ⊥
Arrives (resets i) = ⊥
Arrives ticks = ⊥

abbrev Opens : Act → Type 0
Opens (refuse n) = Unit
Opens (arrive i number network x bare) = ⊥
Opens (opens i s) = Unit
Opens (closes i) = ⊥
Opens (resets i) = ⊥
Opens ticks = ⊥

abbrev Slots : Act → Type 0
Slots (refuse n) = Unit
Slots (arrive i number network x bare) = ⊥
Slots (opens i s) = ⊥
Slots (closes i) = Unit
Slots (resets i) = Unit
Slots ticks = ⊥

-- a check before it changes nothing of that
pub either : (P : Act → Type 0) (b : Bool) (n : ℕ) (a : Act) → P (refuse n) → P a → P (cond b (refuse n) a)
either P true n a p q = p
either P false n a p q = q

-- nor do 1 and 18 before it
behind : (P : Act → Type 0) → ((n : ℕ) → P (refuse n)) → (ix : Index) (t : Table) (c : Call) → P (checked t c) → P (guarded ix t c)
unfolding guarded
behind P r ix t c p = either P (ltb slots_most (length t)) TABLE _ (r TABLE) (either P (not (indexed ix t)) INDEX _ (r INDEX) p)

-- an arrival whose slot was searched for
at_slot : (t : Table) (i number network : ℕ) (rank : Rank) (need : ℕ) (bare out : List ℕ) → Arrives (arrival_at t i number network rank need bare out)
unfolding arrival_at
at_slot t i number network rank need bare out =
    either Arrives (leb (length t) i) UNKNOWN _ tt (either Arrives (not (lawful (at t i))) DAMAGED _ tt (either Arrives (ltb (length out) need) ROOM _ tt tt))

-- one after 1 to 5 and 14
read : (t : Table) (network : ℕ) (f out : List ℕ) (x : Said Tag) → Arrives (arrival t network f out x)
unfolding arrival
read t network f out (refused n) = tt
read t network f out (answers g) = at_slot t _ g.number network g.header.rank (length f - 6) (untagged f) out

read-link : (t : Table) (network : ℕ) (f out : List ℕ) (x : Said Link) → Arrives (link_arrival t network f out x)
unfolding link_arrival
read-link t network f out (refused n) = tt
read-link t network f out (answers g) = at_slot t _ g.number network unranked (length f - 1) (but_last f) out

arrives : (t : Table) (network : ℕ) (f out : List ℕ) → Arrives (act t (arriving network f out))
unfolding act checked
arrives t network f out =
    either Arrives (ltb slots_most (length t)) TABLE _ tt (either Arrives (ltb 1 network) NETWORK _ tt (read t network f out _))

links : (t : Table) (network : ℕ) (f out : List ℕ) → Arrives (act t (linking network f out))
unfolding act checked
links t network f out =
    either Arrives (ltb slots_most (length t)) TABLE _ tt (either Arrives (ltb 1 network) NETWORK _ tt (read-link t network f out _))

opened : (ix : Index) (t : Table) (dest : List ℕ) (vlan rule window time : ℕ) → Opens (guarded ix t (opening dest vlan rule window time))
unfolding checked open-call
opened ix t dest vlan rule window time =
    let s = record'.opened (dest_of dest) vlan rule window time in
    behind Opens (λ n. tt) ix t (opening dest vlan rule window time) (go (not (settled s)) (some_slot (has_key s.dest s.vlan) t) (not (some_slot is_free t)) (opens (search is_free t) s) tt)
  where
    go : (b c d : Bool) (a : Act) → Opens a → Opens (cond b (refuse SETTING) (cond c (refuse TAKEN) (cond d (refuse FULL) a)))
    go b c d a k = either Opens b SETTING _ tt (either Opens c TAKEN _ tt (either Opens d FULL a tt k))

closed : (ix : Index) (t : Table) (i : ℕ) → Slots (guarded ix t (closing i))
unfolding checked
closed ix t i = behind Slots (λ n. tt) ix t (closing i) (go (in_use t i))
  where
    go : (b : Bool) → Slots (cond b (closes i) (refuse SLOT))
    go true = tt
    go false = tt

reset : (t : Table) (i : ℕ) → Slots (act t (resetting i))
unfolding act checked
reset t i = go (ltb slots_most (length t)) (not (in_use t i)) (not (settled (at t i)))
  where
    go : (a b c : Bool) → Slots (cond a (refuse TABLE) (cond b (refuse SLOT) (cond c (refuse DAMAGED) (resets i))))
    go true b c = tt
    go false true c = tt
    go false false true = tt
    go false false false = tt

pub read-refused : (n : ℕ) (a : Answer) → (◌≡◌ {A = Said Answer} (refused n) (refused 0) → ⊥) → unless n a ≡ refused n
read-refused zero a p = absurd (p refl)
read-refused (suc n) a p = refl

read-verdict : (slot number : ℕ) (x : Rank) (v : Verdict) → read_arrival (tell_arrival (answers (arrived slot number x v))) ≡ answers (arrived slot number x v)
read-verdict slot number x (handed_up l) = refl
read-verdict slot number x duplicate = refl
read-verdict slot number x rogue = refl

read-arrival : (t : Table) (a : Act) → Arrives a → (answer t a ≡ refused 0 → ⊥) → read_arrival (tell_arrival (answer t a)) ≡ answer t a
unfolding answer
read-arrival t (refuse n) k p = read-refused n _ p
read-arrival t (arrive i number network x bare) k p = read-verdict i number x _
read-arrival t (opens i s) k p = absurd k
read-arrival t (closes i) k p = absurd k
read-arrival t (resets i) k p = absurd k
read-arrival t ticks k p = absurd k

reads-opened : (t : Table) (a : Act) → Opens a → (answer t a ≡ refused 0 → ⊥) → read_opened (tell_opened (answer t a)) ≡ answer t a
unfolding answer
reads-opened t (refuse n) k p = read-refused n _ p
reads-opened t (arrive i number network x bare) k p = absurd k
reads-opened t (opens i s) k p = refl
reads-opened t (closes i) k p = absurd k
reads-opened t (resets i) k p = absurd k
reads-opened t ticks k p = absurd k

reads-done : (t : Table) (a : Act) → Slots a → (answer t a ≡ refused 0 → ⊥) → read_done (tell_done (answer t a)) ≡ answer t a
unfolding answer
reads-done t (refuse n) k p = read-refused n _ p
reads-done t (arrive i number network x bare) k p = absurd k
reads-done t (opens i s) k p = absurd k
reads-done t (closes i) k p = refl
reads-done t (resets i) k p = refl
reads-done t ticks k p = absurd k

-- ---- so calls that are told alike said the same

pub alike : {A : Type 0} (tell : Said Answer → A) (back : A → Said Answer) (x y : Said Answer) → back (tell x) ≡ x → back (tell y) ≡ y → tell x ≡ tell y → x ≡ y
alike tell back x y p q e = sym p ∙ ap back e ∙ q

pub arrival-told : ArrivalTold
arrival-told t network f out u other g back =
    alike tell_arrival read_arrival _ _ (read-arrival t _ (arrives t network f out) (never t _)) (read-arrival u _ (arrives u other g back) (never u _))

pub link-told : LinkTold
link-told t network f out u other g back =
    alike tell_arrival read_arrival _ _ (read-arrival t _ (links t network f out) (never t _)) (read-arrival u _ (links u other g back) (never u _))

pub reset-told : ResetTold
reset-told t i u j = alike tell_done read_done _ _ (reads-done t _ (reset t i) (never t _)) (reads-done u _ (reset u j) (never u _))

pub open_told : OpenTold
open_told ix t dest vlan rule window time jx u dest' vlan' rule' window' time' =
    alike tell_opened read_opened _ _ (reads-opened t _ (opened ix t dest vlan rule window time) (never-with ix t _))
    (reads-opened u _ (opened jx u dest' vlan' rule' window' time') (never-with jx u _))

pub close-told : CloseTold
close-told ix t i jx u j =
    alike tell_done read_done _ _ (reads-done t _ (closed ix t i) (never-with ix t _)) (reads-done u _ (closed jx u j) (never-with jx u _))

-- the rebuild's answer is that of its list of checks
read_first : (cs : List Check) → Positive cs → read_done (tell_done (first_of cs done)) ≡ first_of cs done
unfolding first_of
read_first [] p = refl
read_first (c ∷ cs) p = go c.holds (read_first cs p.1)
  where
    go : (b : Bool) → read_done (tell_done (first_of cs done)) ≡ first_of cs done
        → read_done (tell_done (cond b (refused c.number) (first_of cs done))) ≡ cond b (refused c.number) (first_of cs done)
    go true rest = read-refused c.number _ (λ e. let z : c.number ≡ 0 = cc in omega (arith, p.0, z))
    go false rest = rest

pub rebuild-told : RebuildTold
rebuild-told ix t jx u = alike tell_done read_done _ _ (read_first _ (positive-rebuild ix t)) (read_first _ (positive-rebuild jx u))
