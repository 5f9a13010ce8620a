-- One record decided: what is stored is the record after it; and a slot beyond the table: its arrival is refused with 7, and
-- nothing is stored. Assumes nothing.
use Prim.Native.Nat.{ℕ, ◌≤◌, ◌<◌}
use mathlib.Core.Path.{◌≡◌, refl, sym, ap, ◌∙◌}
use mathlib.Core.Bool.{Bool}
use lib.Dec.{leb}
use lib.ListN.{length, get_or, set}
use lib.Seq.{set_out, set-get_or}
use Rattle.std.specs.Prelude.{if◌then◌else◌}
use Rattle.std.proofs.lemmas.List.{get_or_default}
use Rattle.std.specs.Prelude.{Some, Result, Ok, Err}
use Rattle.refusal.specs.declared.Refusal.{Refusal}
use Rattle.refusal.specs.declared.Refusal.TheVariants.{Damaged}
use Rattle.record.specs.declared.Stream.{Stream}
use Rattle.record.specs.Words.{yes}
use Rattle.stream.specs.Record.{settled, lawful}
use Rattle.calls.specs.Table.{Table, at, blank}
use Rattle.stream.specs.Steps.{record_after, record_short}
use Rattle.stream.specs.declared.Marks.{Marks}
use Rattle.stream.specs.declared.Weighed.{Weighed}
use Rattle.stream.specs.declared.Weighed.TheVariants.{HandedUp}
use Rattle.calls.specs.Steps.{judged, record_of}
use Rattle.calls.proofs.Arrivals.{no-verdict, marks-right}
use Rattle.receiver.proofs.Lists.{get_d_past}

blank-refused : (number : ℕ) (room : Bool) → Err Damaged ≡ judged blank number room
unfolding judged lawful settled yes
blank-refused number room = refl

module _ (t : Table) (i : ℕ) (past : length t ≤ i) where
  pub none-judged : (number : ℕ) (room : Bool) → Err Damaged ≡ judged (at t i) number room
  none-judged number room = rw (get_d_past t i blank past) (blank-refused number room)

  pub none-stored : (s : Stream) → t ≡ set t i s
  none-stored s = sym (set_out t i s past)

-- the record that is read is the slot's, whatever stands for one beyond the table
module _ (t : Table) (i : ℕ) (d : Stream) (within : i < length t) (number network : ℕ) (room : Bool) where
  at-slot : {j : Result Weighed Refusal} → j ≡ judged (get_or t i d) number room → j ≡ judged (at t i) number room
  at-slot e = e ∙ ap (λ (s : Stream). judged s number room) (get_or_default t i d blank within)

  -- a refused arrival leaves the record, and so the table
  pub refused-stays : {j : Result Weighed Refusal} {n : Refusal} → j ≡ judged (get_or t i d) number room → j ≡ Err n
      → (j ≡ judged (at t i) number room) × (t ≡ set t i (record_of (at t i) network j))
  refused-stays e k = (at-slot e, rw (k, no-verdict (at t i) network) (sym (set-get_or t i blank)))

  -- what is handed up was weighed as that
  pub marked-right : {j : Result Weighed Refusal} {m : Marks} {u : Table} → j ≡ judged (get_or t i d) number room → j ≡ Ok (HandedUp m)
      → u ≡ set t i (if leb (at t i).window 64 then record_short (at t i) network m else record_after (at t i) network (Some (HandedUp m)))
      → (Ok (HandedUp m) ≡ judged (at t i) number room) × (u ≡ set t i (record_of (at t i) network (Ok (HandedUp m))))
  marked-right {m = m} e k w =
      let f : Ok (HandedUp m) ≡ judged (at t i) number room = sym k ∙ at-slot e in
      (f, w ∙ ap (set t i) (marks-right (at t i) number network room m f))
