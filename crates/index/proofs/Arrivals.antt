-- Order 9: an arrival leaves the agreement as it was. Assumes nothing.
use Prim.Native.Nat.{ℕ, ◌≤◌}
use mathlib.Core.Path.{◌≡◌, refl, ap, sym, ◌∙◌}
use mathlib.Core.Bool.{Bool, true, false}
use mathlib.Core.List.{List}
use lib.Dec.{ltb, leb}
use lib.ListN.{length}
use Rattle.refusal.specs.Checks.{Said}
use Rattle.refusal.specs.Checks.Said.{refused, answers}
use Rattle.record.specs.Sizes.{slots_most}
use Rattle.frame.specs.Frame.{Tag, read_of}
use Rattle.frame.specs.declared.Rank.{Rank}
use Rattle.stream.specs.Record.{lawful}
use Rattle.calls.specs.Table.{Table, at}
use Rattle.calls.specs.Calls.{Act, refuse, arrive, arriving, act, checked, arrival, arrival_at, admitted, after, Answer, Meets}
use Rattle.index.specs.Index.{Index, indexed}
use Rattle.index.specs.Indexed.{index_after}
use Rattle.index.proofs.Kept.{both}

data Arrives : Act → Type 0 where
  stops : (n : ℕ) → Arrives (refuse n)
  comes : (i number network : ℕ) (rank : Rank) (bare : List ℕ) → Arrives (arrive i number network rank bare)

kept : (ix : Index) (t : Table) {a : Act} → Arrives a → index_after ix t a ≡ ix
unfolding index_after
kept ix t (stops n) = refl
kept ix t (comes i number network rank bare) = refl

module _ (t : Table) (network : ℕ) (f out : List ℕ) where
  at_slot : (i number : ℕ) (rank : Rank) (need : ℕ) (bare : List ℕ) → Arrives (arrival_at t i number network rank need bare out)
  unfolding arrival_at
  at_slot i number rank need bare = go (leb (length t) i) refl (lawful (at t i)) refl (ltb (length out) need) refl
    where
      go : (a : Bool) → leb (length t) i ≡ a → (b : Bool) → lawful (at t i) ≡ b → (c : Bool) → ltb (length out) need ≡ c → Arrives (arrival_at t i number network rank need bare out)
      go true p b q c r = rw p (stops _)
      go false p false q c r = rw (p, q) (stops _)
      go false p true q true r = rw (p, q, r) (stops _)
      go false p true q false r = rw (p, q, r) (comes _ _ _ _ _)

  read-on : (s : Said Tag) → Arrives (arrival t network f out s)
  unfolding arrival
  read-on (refused n) = stops n
  read-on (answers g) = at_slot _ _ _ _ _

  arrives : Arrives (act t (arriving network f out))
  unfolding act checked
  arrives = go (ltb slots_most (length t)) refl (ltb 1 network) refl
    where
      go : (a : Bool) → ltb slots_most (length t) ≡ a → (b : Bool) → ltb 1 network ≡ b → Arrives (act t (arriving network f out))
      go true p b q = rw p (stops _)
      go false p true q = rw (p, q) (stops _)
      go false p false q = rw (p, q) (read-on (admitted f (read_of f)))

pub arrive-keeps : (ix : Index) (t : Table) (network : ℕ) (f out : List ℕ) → length t ≤ slots_most → indexed ix t ≡ true → {w : Said Answer} {zs : Table} {o : List ℕ}
    → Meets t (arriving network f out) (record { said = w; table = zs; output = o }) → indexed ix zs ≡ true
arrive-keeps ix t network f out l good met =
    ap (indexed ix) met.table ∙ ap (λ (jx : Index). indexed jx (after t (act t (arriving network f out)))) (sym (kept ix t (arrives t network f out))) ∙ both ix t (act t (arriving network f out)) l good
