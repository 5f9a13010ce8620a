-- 1 and 18 in front of a call. Assumes nothing.
use Prim.Native.Nat.{ℕ}
use mathlib.Core.Path.{◌≡◌, refl, ap, sym, ◌∙◌}
use mathlib.Core.Logic.{◌↔◌, inl, inr}
use mathlib.Core.Bool.{Bool, true, false, not, cond, false≢true}
use mathlib.Core.List.{List, ◌∷◌}
use lib.Dec.{ltb}
use lib.ListN.{length}
use Rattle.refusal.specs.Checks.{Said, Check, First}
use Rattle.refusal.specs.Checks.Said.{refused}
use Rattle.refusal.specs.Numbers.{TABLE, INDEX}
use Rattle.record.specs.Sizes.{slots_most}
use Rattle.calls.specs.Table.{Table}
use Rattle.calls.specs.Calls.{Call, arriving, linking, opening, closing, resetting, ticking, act, answer}
use Rattle.calls.specs.Refusals.{checks_of, many_slots}
use Rattle.calls.proofs.Exactly.{refused-exactly}
use Rattle.index.specs.Index.{Index, indexed}
use Rattle.index.specs.Indexed.{guarded, behind_first, checks_with}
use Rattle.index.specs.Laws.{IndexedExactly}

pub same-act : (ix : Index) (t : Table) (c : Call) → indexed ix t ≡ true → guarded ix t c ≡ act t c
unfolding guarded act
same-act ix t c e = rw e

-- ---- 18 stands directly behind 1, whatever the call is

number : {A : Type 0} (m n : ℕ) → ◌≡◌ {A = Said A} (refused m) (refused n) → n ≡ m
number m n e = cc

abbrev one : Bool → Check
one many = record { number = TABLE; holds = many }

abbrev eighteen : Bool → Check
eighteen fit = record { number = INDEX; holds = not fit }

pub guard-exactly : {A : Type 0} (many fit : Bool) (s : Said A) (cs : List Check) (n : ℕ) → (s ≡ refused n) ↔ First n (one many ∷ cs)
    → (cond many (refused TABLE) (cond (not fit) (refused INDEX) s) ≡ refused n) ↔ First n (one many ∷ eighteen fit ∷ cs)
unfolding First
guard-exactly {A} true fit s cs n r = (λ e. inl (refl, number TABLE n e), back)
  where
    back : First n (one true ∷ eighteen fit ∷ cs) → ◌≡◌ {A = Said A} (refused TABLE) (refused n)
    back (inl p) = ap refused (sym p.1)
    back (inr p) = absurd (false≢true (sym p.0))
guard-exactly {A} false false s cs n r = (λ e. inr (refl, inl (refl, number INDEX n e)), back)
  where
    back : First n (one false ∷ eighteen false ∷ cs) → ◌≡◌ {A = Said A} (refused INDEX) (refused n)
    back (inl p) = absurd (false≢true p.0)
    back (inr (a, inl p)) = ap refused (sym p.1)
    back (inr (a, inr p)) = absurd (false≢true (sym p.0))
guard-exactly false true s cs n r = (λ e. to (r.0 e), λ f. r.1 (from f))
  where
    to : First n (one false ∷ cs) → First n (one false ∷ eighteen true ∷ cs)
    to (inl p) = inl p
    to (inr p) = inr (refl, inr (refl, p.1))

    from : First n (one false ∷ eighteen true ∷ cs) → First n (one false ∷ cs)
    from (inl p) = inl p
    from (inr (a, inl p)) = absurd (false≢true p.0)
    from (inr (a, inr p)) = inr (refl, p.1)

-- every list begins with 1
heads : (t : Table) (c : Call) → (cs : List Check) × (checks_of t c ≡ one (many_slots t) ∷ cs)
unfolding checks_of
heads t (arriving network f out) = (_, refl)
heads t (linking network f out) = (_, refl)
heads t (opening dest vlan rule window time) = (_, refl)
heads t (closing i) = (_, refl)
heads t (resetting i) = (_, refl)
heads t ticking = (_, refl)

said : (ix : Index) (t : Table) (c : Call) → answer t (guarded ix t c) ≡ cond (many_slots t) (refused TABLE) (cond (not (indexed ix t)) (refused INDEX) (answer t (act t c)))
unfolding guarded act answer
said ix t c = go (ltb slots_most (length t)) refl (indexed ix t) refl
  where
    go : (m : Bool) → ltb slots_most (length t) ≡ m → (b : Bool) → indexed ix t ≡ b
        → answer t (guarded ix t c) ≡ cond (many_slots t) (refused TABLE) (cond (not (indexed ix t)) (refused INDEX) (answer t (act t c)))
    go true p b q = rw p refl
    go false p true q = rw (p, q) refl
    go false p false q = rw (p, q) refl

pub exactly : IndexedExactly
unfolding checks_with behind_first
exactly ix t c n =
    let h = heads t c in
    let r : (answer t (act t c) ≡ refused n) ↔ First n (one (many_slots t) ∷ h.0) = rw (sym h.1) (refused-exactly t c n) in
    let g = guard-exactly (many_slots t) (indexed ix t) (answer t (act t c)) h.0 n r in
    (λ e. rw h.1 (g.0 (sym (said ix t c) ∙ e)), λ f. said ix t c ∙ g.1 (rw h.1 at f))
