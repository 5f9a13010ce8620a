-- Nothing told depends on what the output buffer holds: an arrival looks at its length alone, which no record changes.
-- Assumes nothing.
use mathlib.Core.Path.{◌≡◌, refl, sym, ap, ◌∙◌}
use Prim.Native.Nat.{ℕ, ◌-◌, ◌≤◌}
use Prim.Native.Char.{code}
use native.Mathlib.Omega.{arith}
use mathlib.Core.Bool.{Bool, true, false, not}
use mathlib.Core.List.{List}
use lib.ListN.{length, drop, length-replicate, length-append, length-drop}
use lib.Dec.{ltb, leb}
use borrow.Author.Tests.{ltb-false}
use Rattle.refusal.specs.Checks.{Said}
use Rattle.refusal.specs.Checks.Said.{refused, answers}
use Rattle.refusal.specs.Numbers.{TABLE, NETWORK}
use Rattle.std.specs.Prelude.{if◌then◌else◌}
use Rattle.record.specs.Sizes.{slots_most, frame_most}
use Rattle.frame.specs.Bytes.{overlay}
use Rattle.frame.specs.Frame.{Tag, read_of, untagged, type_at}
use Rattle.frame.proofs.Heads.{tag_of}
use Rattle.stream.specs.Record.{settled, lawful}
use Rattle.stream.specs.Decisions.{Verdict, up, duplicate, rogue, verdict}
use Rattle.calls.specs.Table.{Table, at, some_slot, is_free}
use Rattle.calls.specs.Calls.{Call, arriving, linking, opening, closing, resetting, ticking, Act, refuse, admitted, arrival_at, arrival, in_use, open-call, checked, act, after, answer, written_for, output as output_after}
use Rattle.calls.proofs.Admits.{admits}
use Rattle.calls.proofs.Arrivals.{bare-length}
use Rattle.event_file.specs.Records.{event_of, asked_by, asked}
use Rattle.event_file.specs.Lines.{told}
use Rattle.event_file.specs.Files.{output, entry_for, table_after, out_after}
use Rattle.event_file.specs.Laws.{AnyOutput, OutputLength}
use Rattle.std.specs.Prelude.{Option, Some, None}
use Rattle.event_file.specs.declared.reader.Event.{Event}
use Rattle.event_file.specs.declared.reader.Event.TheVariants.{Open, Close, Reset, Arrival, Tick}

module _ (t : Table) (network : ℕ) (f out other : List ℕ) (e : length out ≡ length other) where
  alike : (s : Said Tag) → arrival t network f out s ≡ arrival t network f other s
  unfolding arrival arrival_at
  alike (refused n) = refl
  alike (answers g) = rw e

  -- an arrival comes to the same with every output of one length
  pub act-alike : act t (arriving network f out) ≡ act t (arriving network f other)
  unfolding act checked
  act-alike =
      ap (λ (a : Act). if ltb slots_most (length t) then refuse TABLE else if ltb 1 network then refuse NETWORK else a) (alike _)

module _ (t : Table) (b out : List ℕ) (h : length out ≡ frame_most) where
  by-event : (e : Option Event) → (entry_for t (asked_by out b e) ≡ entry_for t (asked_by output b e)) × (table_after t (asked_by out b e) ≡ table_after t (asked_by output b e))
  unfolding asked_by entry_for table_after
  by-event None = (refl, refl)
  by-event (Some (Open s)) = (refl, refl)
  by-event (Some (Close slot)) = (refl, refl)
  by-event (Some (Reset slot)) = (refl, refl)
  by-event (Some (Arrival network)) =
      let same : act t (arriving network (drop 2 b) out) ≡ act t (arriving network (drop 2 b) output) = act-alike t network (drop 2 b) out output (h ∙ sym (length-replicate {A = ℕ} frame_most 0)) in
      (ap (λ (a : Act). told (code "A") (answer t a)) same, ap (after t) same)
  by-event (Some Tick) = (refl, refl)

pub any-output : AnyOutput
unfolding asked
any-output t b out h = by-event t b out h (event_of b)

-- ---- what it holds after a record

-- a call that is lent no output
abbrev pub Alone : Call → Type 0
Alone (arriving network f out) = ⊥
Alone (linking network f out) = ⊥
Alone (opening dest vlan rule window time) = Unit {0}
Alone (closing slot) = Unit {0}
Alone (resetting slot) = Unit {0}
Alone ticking = Unit {0}

module _ (t : Table) (out : List ℕ) (P : List ℕ → Type 0) (kept : P out) where
  -- what an act leaves has the property that what was there has
  record Leaves (a : Act) : Type 0 where
    fact : P (output_after t out a)

  either : (b : Bool) {x y : Act} → (b ≡ true → Leaves x) → (b ≡ false → Leaves y) → Leaves (if b then x else y)
  either true p q = p refl
  either false p q = q refl

  no : {n : ℕ} → Leaves (refuse n)
  unfolding output_after
  no = record { fact = kept }

  checked-leaves : (c : Call) → Alone c → Leaves (checked t c)
  unfolding checked open-call output_after
  checked-leaves (arriving network f o) z = absurd z
  checked-leaves (linking network f o) z = absurd z
  checked-leaves (opening dest vlan rule window time) z =
      either (not (settled _)) (λ _. no) (λ _. either (some_slot _ t) (λ _. no) (λ _. either (not (some_slot is_free t)) (λ _. no) (λ _. record { fact = kept })))
  checked-leaves (closing i) z = either (in_use t i) (λ _. record { fact = kept }) (λ _. no)
  checked-leaves (resetting i) z = either (not (in_use t i)) (λ _. no) (λ _. either (not (settled (at t i))) (λ _. no) (λ _. record { fact = kept }))
  checked-leaves ticking z = record { fact = kept }

  act-leaves : (c : Call) → Leaves (checked t c) → Leaves (act t c)
  unfolding act
  act-leaves c l = either (ltb slots_most (length t)) (λ _. no) (λ _. l)

-- a call that is lent none leaves it
pub left_alone : (t : Table) (out : List ℕ) (c : Call) → Alone c → output_after t out (act t c) ≡ out
left_alone t out c z = (act-leaves t out (λ (l : List ℕ). l ≡ out) refl c (checked-leaves t out (λ (l : List ℕ). l ≡ out) refl c z)).fact

-- an arrival writes no more bytes than it has
module _ (t : Table) (network : ℕ) (f out : List ℕ) where
  abbrev P : List ℕ → Type 0
  P l = length l ≡ length out

  none : {n : ℕ} → Leaves t out P refl (refuse n)
  none = no t out P refl

  written : (bare : List ℕ) → length bare ≤ length out → (v : Verdict) → length (written_for v bare out) ≡ length out
  unfolding overlay
  written bare h up = simp (length-append, length-drop) (omega arith)
  written bare h duplicate = refl
  written bare h rogue = refl

  read : (x : Said Tag) → admitted f (read_of f) ≡ x → Leaves t out P refl (arrival t network f out x)
  unfolding arrival arrival_at output_after
  read (refused n) e = none
  read (answers g) e =
      either t out P refl (leb (length t) _) (λ _. none) (λ _. either t out P refl (not (lawful _)) (λ _. none) (λ _. either t out P refl (ltb (length out) (length f - 6)) (λ _. none) (λ r.
      let bare : length (untagged f) ≡ length f - 6 = bare-length f (type_at f) (omega (arith, (tag_of f g (admits f (read_of f) e).1).room)) in
      record { fact = written (untagged f) (omega (arith, ltb-false (length out) (length f - 6) r)) (verdict (at t _) g.number) })))

  arrival-length : length (output_after t out (act t (arriving network f out))) ≡ length out
  unfolding checked
  arrival-length = (act-leaves t out P refl (arriving network f out) (either t out P refl (ltb 1 network) (λ _. none) (λ _. read _ refl))).fact

pub output-length : OutputLength
unfolding asked asked_by out_after
output-length t b out = by (event_of b)
  where
    alone : (c : Call) → Alone c → length (output_after t out (act t c)) ≡ length out
    alone c z = ap length (left_alone t out c z)

    by : (e : Option Event) → length (out_after t out (asked_by out b e)) ≡ length out
    by None = refl
    by (Some (Open s)) = alone (opening _ s.vlan s.rule s.window s.time) tt
    by (Some (Close slot)) = alone (closing slot) tt
    by (Some (Reset slot)) = alone (resetting slot) tt
    by (Some (Arrival network)) = arrival-length t network (drop 2 b) out
    by (Some Tick) = alone ticking tt
