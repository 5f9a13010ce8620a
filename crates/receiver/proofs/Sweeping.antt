-- A tick of a table, record by record: the laws are goals of its loop. Assumes nothing.
use mathlib.Core.Path.{◌≡◌, sym, ◌∙◌, ap}
use Prim.Native.Nat.{ℕ, ◌+◌, ◌^◌, ◌<◌}
use native.Mathlib.Omega.{arith}
use mathlib.Core.List.{[], ◌∷◌, ◌++◌, append_assoc}
use lib.ListN.{length, get_or, set, take, drop}
use lib.Seq.{length-take-le, drop-cons, get_or_at, set_at}
use Rattle.std.proofs.lemmas.List.{take_more, get_or_default}
use Rattle.std.proofs.Common.{add-one}
use Rattle.record.specs.declared.Stream.{Stream}
use Rattle.calls.specs.Table.{Table, blank, at}
use Rattle.calls.specs.Ticks.{sums, ticked_all, visited}
use Rattle.calls.specs.declared.Sums.{Sums}
use Rattle.calls.specs.declared.Visited.{Visited}
use Rattle.calls.proofs.Visits.{sums-snoc, ticked-nil, ticked-snoc, ticked-length}

pub sweep-starts : (t : Table) → t ≡ ticked_all (take 0 t) ++ drop 0 t
sweep-starts t = ap (λ (l : Table). l ++ t) (sym ticked-nil)

-- the first i records had their tick, c are their sums, and zs is the table
module _ (t zs : Table) (i : ℕ) (c : Sums) (counted : c ≡ sums (take i t)) (ticked : zs ≡ ticked_all (take i t) ++ drop i t) where
  module _ (l : i < length t) where
    abbrev front : Table
    front = ticked_all (take i t)

    abbrev e : Stream
    e = at t i

    taken : length (take i t) ≡ i
    taken = length-take-le i t (omega arith)

    front-length : length front ≡ i
    front-length = ticked-length (take i t) ∙ taken

    parts : zs ≡ front ++ e ∷ drop (i + 1) t
    parts = ticked ∙ ap (λ (r : Table). front ++ r) (rw add-one (drop-cons t i blank l))

    -- the record that is read
    same-record : (d : Stream) → i < length zs → get_or zs i d ≡ e
    same-record d h = get_or_default zs i d blank h ∙ ap (λ (r : Table). at r i) parts ∙ get_or_at front e (drop (i + 1) t) blank i front-length

    pub sweep-next : length t < 2 ^ 64 → (d : Stream) → i < length zs → (v : Visited) → v ≡ visited c (get_or zs i d)
        → (v.sums ≡ sums (take (i + 1) t)) × (set zs i v.stream ≡ ticked_all (take (i + 1) t) ++ drop (i + 1) t)
    sweep-next few d h v said =
        let v-is : v ≡ visited (sums (take i t)) e = said ∙ (λ j. visited (counted j) (same-record d h j)) in
        let more : length (take i t) + 1 < 2 ^ 64 = omega (arith, taken) in (
          ap (λ (w : Visited). w.sums) v-is ∙ sym (sums-snoc (take i t) e more) ∙ ap sums (sym (take_more t i blank l)),
          ap (λ (r : Table). set r i v.stream) parts ∙ set_at front e (drop (i + 1) t) v.stream i front-length
              ∙ sym (append_assoc front (v.stream ∷ []) (drop (i + 1) t))
              ∙ ap (λ (r : Table). r ++ drop (i + 1) t) (ap (λ (w : Visited). front ++ w.stream ∷ []) v-is ∙ sym (ticked-snoc (take i t) e (sums (take i t))) ∙ ap ticked_all (sym (take_more t i blank l))),
        )
