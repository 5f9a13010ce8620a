-- A search in a table, record by record: each law is a goal of its loop. Assumes nothing.
use mathlib.Core.Path.{◌≡◌, sym, ◌∙◌, ap}
use Prim.Native.Nat.{ℕ, ◌+◌, ◌<◌, ◌≤◌}
use native.Mathlib.Omega.{arith}
use mathlib.Core.Bool.{Bool, true, false}
use mathlib.Core.List.{◌++◌}
use lib.ListN.{length, get_or, take, drop, take-append-drop}
use lib.Seq.{length-take-le, take_all}
use Rattle.std.proofs.lemmas.List.{take_more, get_or_default}
use Rattle.record.specs.declared.Stream.{Stream}
use Rattle.calls.specs.Table.{Table, blank, at, found, or_else, found_here}
use Rattle.std.specs.Prelude.{Option, Some, None}
use Rattle.calls.proofs.Search.{found-snoc, found_front}

module _ (p : Stream → Bool) (t : Table) (i : ℕ) (before : found p (take i t) ≡ None) (l : i < length t) where
  -- the first i records, and the next one with them
  with_next : found p (take (i + 1) t) ≡ found_here p (at t i) i
  with_next =
      ap (found p) (take_more t i blank l) ∙ found-snoc p (take i t) (at t i)
      ∙ ap (λ (f : Option ℕ). or_else f (found_here p (at t i) (length (take i t)))) before ∙ ap (found_here p (at t i)) (length-take-le i t (omega arith))

  pub found-passed : (d : Stream) (b : Bool) → b ≡ p (get_or t i d) → b ≡ false → found p (take (i + 1) t) ≡ None
  found-passed d b e f = with_next ∙ rw (get_or_default t i blank d l, ← e, f)

  pub found-hit : (d : Stream) (b : Bool) → b ≡ p (get_or t i d) → b ≡ true → Some i ≡ found p t
  found-hit d b e f =
      ap (λ (f : Option ℕ). or_else f (found p (take (i + 1) t ++ drop (i + 1) t))) (sym (let e : found_here p (at t i) i ≡ Some i = rw (get_or_default t i blank d l, ← e, f) in with_next ∙ e))
      ∙ found_front p (take (i + 1) t) (drop (i + 1) t) ∙ ap (found p) (take-append-drop (i + 1) t)

-- none of all of them
pub found-none : (p : Stream → Bool) (t : Table) (i : ℕ) → found p (take i t) ≡ None → length t ≤ i → None ≡ found p t
found-none p t i before h = sym before ∙ ap (found p) (take_all i t h)
