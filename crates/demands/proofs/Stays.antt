-- Order 9: a program that begins with an index in agreement is never refused with 18. Assumes nothing.
use Prim.Native.Nat.{ℕ, ◌-◌, ◌≤◌, ◌<◌}
use mathlib.Core.Path.{◌≡◌, refl, ap, sym, ◌∙◌, subst}
use mathlib.Core.Bool.{Bool, true, false, ◌&&◌, not}
use mathlib.Core.List.{List, [], ◌∷◌}
use lib.Dec.{ltb, leb}
use lib.ListN.{length}
use Rattle.refusal.specs.Checks.{Said}
use Rattle.refusal.specs.Checks.Said.{refused, answers}
use Rattle.std.specs.Prelude.{if◌then◌else◌}
use Rattle.record.specs.Sizes.{slots_most}
use Rattle.frame.specs.Link.{Link, link_of, but_last}
use Rattle.frame.specs.declared.Rank.{Rank}
use Rattle.stream.specs.Record.{settled, lawful}
use Rattle.calls.specs.Table.{Table, at, search, hears}
use Rattle.calls.specs.Calls.{Call, Act, refuse, arrive, resets, ticks, arriving, linking, opening, closing, resetting, ticking, act, checked, arrival_at, link_arrival, in_use, after}
use native.Mathlib.Decide.{dec_lt}
use native.Mathlib.Omega.{arith}
use borrow.Author.Tests.{lt-ltb, le-ltb, eq-eqb}
use Rattle.calls.proofs.Kept.{length-kept}
use Rattle.index.specs.Index.{Index, places, indexed}
use Rattle.index.specs.Indexed.{index_after, rebuilt_by}
use Rattle.index.proofs.Kept.{both, rebuilt-good, indexed-is}
use Rattle.batch.specs.Batch.{Batch, comes_to, bundle, batch_of}
use Rattle.batch.proofs.Within.{Agreed, arrived-good, batched-good}
use Rattle.demands.specs.Receiver.{the_receiver}
use Rattle.demands.specs.Steps.{Step, single, batch, the_machine, table_of}
use Rattle.demands.specs.Indexed.{Doing, step, rebuilds, unfits, drops, index_by, steps_of, steps_in, NothingLeftOut}

and_no : (b : Bool) → (b && false) ≡ false
and_no true = refl
and_no false = refl

-- table and index that agree; or a table of more than 64 slots, of which 1 is given and not 18
data Fine (ix : Index) (t : Table) : Type 0 where
  fit : Agreed ix t → Fine ix t
  long : slots_most < length t → Fine ix t

as_long : (t : Table) (c : Call) {n : ℕ} → length t ≤ n → length (after t (act t c)) ≤ n
as_long t c {n} l = subst (λ (m : ℕ). m ≤ n) (sym (length-kept t c)) l

data Plain : Act → Type 0 where
  refuses : (n : ℕ) → Plain (refuse n)
  comes : (i number network : ℕ) (rank : Rank) (bare : List ℕ) → Plain (arrive i number network rank bare)
  renews : (i : ℕ) → Plain (resets i)
  ages : Plain ticks

same : (ix : Index) (t : Table) {a : Act} → Plain a → index_after ix t a ≡ ix
unfolding index_after
same ix t (refuses n) = refl
same ix t (comes i number network rank bare) = refl
same ix t (renews i) = refl
same ix t ages = refl

module _ (t : Table) (network : ℕ) (f out : List ℕ) where
  branch : (b : Bool) {x y : Act} → Plain x → Plain y → Plain (if b then x else y)
  branch true p q = p
  branch false p q = q

  said_plain : (r : Said Link) → Plain (link_arrival t network f out r)
  unfolding link_arrival arrival_at
  said_plain (refused n) = refuses n
  said_plain (answers g) =
      let i : ℕ = search (hears true g.dest 0) t in
      branch (leb (length t) i) (refuses _) (branch (not (lawful (at t i))) (refuses _) (branch (ltb (length out) (length f - 1)) (refuses _) (comes i g.number network _ (but_last f))))

  plain-link : Plain (act t (linking network f out))
  unfolding act checked
  plain-link = branch (ltb slots_most (length t)) (refuses _) (branch (ltb 1 network) (refuses _) (said_plain (link_of f)))

plain-reset : (t : Table) (i : ℕ) → Plain (act t (resetting i))
unfolding act checked
plain-reset t i = go (ltb slots_most (length t)) refl (in_use t i) refl (settled (at t i)) refl
  where
    go : (a : Bool) → ltb slots_most (length t) ≡ a → (b : Bool) → in_use t i ≡ b → (c : Bool) → settled (at t i) ≡ c → Plain (act t (resetting i))
    go true p b q c r = rw p (refuses _)
    go false p false q c r = rw (p, q) (refuses _)
    go false p true q false r = rw (p, q, r) (refuses _)
    go false p true q true r = rw (p, q, r) (renews _)

plain-tick : (t : Table) → Plain (act t ticking)
unfolding act checked
plain-tick t = go (ltb slots_most (length t)) refl
  where
    go : (a : Bool) → ltb slots_most (length t) ≡ a → Plain (act t ticking)
    go true p = rw p (refuses _)
    go false p = rw p ages

plainly-fit : (ix : Index) (t : Table) (c : Call) → Plain (act t c) → Agreed ix t → Agreed ix (after t (act t c))
plainly-fit ix t c p (l, h) = (as_long t c l, ap (λ (x : Index). indexed x (after t (act t c))) (sym (same ix t p)) ∙ both ix t (act t c) l h)

stays_fit : (ix : Index) (t : Table) (s : Step) → Agreed ix t → Agreed (index_by ix t s) (table_of the_machine t s)
unfolding index_by table_of the_machine the_receiver
stays_fit ix t (single (arriving network f out)) g = arrived-good ix t network f out g
stays_fit ix t (single (linking network f out)) g = plainly-fit ix t (linking network f out) (plain-link t network f out) g
stays_fit ix t (single (opening dest vlan rule window time)) (l, h) = (as_long t _ l, both ix t (act t (opening dest vlan rule window time)) l h)
stays_fit ix t (single (closing i)) (l, h) = (as_long t _ l, both ix t (act t (closing i)) l h)
stays_fit ix t (single (resetting i)) g = plainly-fit ix t (resetting i) (plain-reset t i) g
stays_fit ix t (single ticking) g = plainly-fit ix t ticking (plain-tick t) g
stays_fit ix t (batch b) g = batched-good ix t b g

long-batch : (t : Table) (b : Batch) → slots_most < length t → (batch_of t b).table ≡ t
unfolding batch_of comes_to bundle
long-batch t b l = rw (lt-ltb slots_most (length t) l) refl

stays-long : (t : Table) (s : Step) → slots_most < length t → slots_most < length (table_of the_machine t s)
unfolding table_of the_machine the_receiver
stays-long t (single c) l = subst (λ (m : ℕ). slots_most < m) (sym (length-kept t c)) l
stays-long t (batch b) l = subst (λ (u : Table). slots_most < length u) (sym (long-batch t b l)) l

stays : (ix : Index) (t : Table) (s : Step) → Fine ix t → Fine (index_by ix t s) (table_of the_machine t s)
stays ix t s (fit g) = fit (stays_fit ix t s g)
stays ix t s (long l) = long (stays-long t s l)

fine : (ix : Index) (t : Table) → Fine ix t → unfits ix t ≡ false
fine ix t (fit g) = rw g.1 (and_no (not (ltb slots_most (length t))))
fine ix t (long l) = rw (lt-ltb slots_most (length t) l) refl

none_dropped : (ix : Index) (t : Table) (s : Step) → Fine ix t → drops ix t s ≡ false
unfolding drops
none_dropped ix t (single (arriving network f out)) g = refl
none_dropped ix t (single (linking network f out)) g = refl
none_dropped ix t (single (opening dest vlan rule window time)) g = fine ix t g
none_dropped ix t (single (closing i)) g = fine ix t g
none_dropped ix t (single (resetting i)) g = refl
none_dropped ix t (single ticking) g = refl
none_dropped ix t (batch b) g = fine ix t g

rebuilt-stays : (ix : Index) (t : Table) → Fine ix t → Fine (rebuilt_by ix t) t
unfolding rebuilt_by
rebuilt-stays ix t (fit (l, h)) = fit (l, rw (le-ltb slots_most (length t) l, eq-eqb (length ix) places ((indexed-is ix t).0 h).0) (rebuilt-good t l))
rebuilt-stays ix t (long l) = long l

none-left-out : (ix : Index) (t : Table) (ds : List Doing) → Fine ix t → steps_of ix t ds ≡ steps_in ds
unfolding steps_of steps_in
none-left-out ix t [] g = refl
none-left-out ix t (rebuilds ∷ ds) g = none-left-out (rebuilt_by ix t) t ds (rebuilt-stays ix t g)
none-left-out ix t (step s ∷ ds) g = rw (none_dropped ix t s g) (ap (λ (ss : List Step). s ∷ ss) (none-left-out (index_by ix t s) (table_of the_machine t s) ds (stays ix t s g)))

pub nothing-left-out : NothingLeftOut
nothing-left-out ix t ds h = none-left-out ix t ds (elim (dec_lt slots_most (length t)) [
  | yes l ↦ long l
  | no l ↦ fit ((let f : length t ≤ slots_most = omega (arith, l) in f), h)
])
