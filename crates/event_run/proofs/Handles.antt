-- What ends the proof of `handle`: a call that meets document 01 is the answer of its record. Assumes nothing.
use Rattle.std.proofs.Common.{◌≡◌, ℕ, ◌≤◌, Bool, true, false, ◌&&◌, eqb, leb, List, length, get_or, drop, Option, Some, None, Result, sym, refl, ap, ◌∙◌, leb-true}
use Rattle.refusal.specs.Checks.{Said}
use Rattle.std.specs.Prelude.{if◌then◌else◌}
use Rattle.calls.specs.Table.{Table}
use Rattle.calls.specs.Calls.{Call, arriving, opening, closing, resetting, ticking, Answer, act, output, Meets}
use Rattle.calls.specs.Said.{said_arrival, said_opened, said_done, said_swept}
use Rattle.refusal.specs.declared.Refusal.{Refusal}
use Rattle.calls.specs.declared.Arrived.{Arrived}
use Rattle.calls.specs.declared.Sums.{Sums}
use Rattle.event_file.specs.Records.{Asked, asks, asked_by, asked, event_of, WIDE, destination_of, is_body, is_arrival, OPEN, CLOSE, RESET, ARRIVAL, TICK}
use Rattle.event_file.specs.Lines.{told, said_told}
use Rattle.event_file.specs.Files.{letter_for, entry_for, table_after}
use Rattle.event_file.specs.declared.reader.Settings.{Settings}
use Rattle.event_file.specs.declared.reader.Event.{Event}
use Rattle.event_file.specs.declared.line.Reply.{Reply}
use Rattle.event_file.specs.Files.{out_after}
use Rattle.event_file.proofs.Outputs.{Alone, left_alone}
use Rattle.event_run.specs.Run.{Handled}

-- ---- the frame of an arrival

both : (a b : Bool) → (a && b) ≡ true → b ≡ true
both true b e = e
both false b e = cc

only-arrival : (v u : Settings) (i j k : ℕ) {n : ℕ} (o w c r a t : Bool)
    → Some (Event.Arrival n) ≡ (if o then Some (Event.Open v) else if w then Some (Event.Open u) else if c then Some (Event.Close i) else if r then Some (Event.Reset j) else if a then Some (Event.Arrival k) else if t then Some Event.Tick else None) → a ≡ true
only-arrival v u i j k true w c r a t e = cc
only-arrival v u i j k false true c r a t e = cc
only-arrival v u i j k false false true r a t e = cc
only-arrival v u i j k false false false true a t e = cc
only-arrival v u i j k false false false false true t e = refl
only-arrival v u i j k false false false false false true e = cc
only-arrival v u i j k false false false false false false e = cc

-- a body that says an arrival has its kind and its network: so its frame starts within it
pub arrival-long : (b : List ℕ) {network : ℕ} → Some (Event.Arrival network) ≡ event_of b → 2 ≤ length b
unfolding event_of
arrival-long b e =
    leb-true 2 (length b) (both (eqb (get_or b 0 0) ARRIVAL) (leb 2 (length b)) (only-arrival _ _ _ _ _ (is_body OPEN 13 b) (is_body WIDE 14 b) (is_body CLOSE 2 b) (is_body RESET 2 b) (is_arrival b) (is_body TICK 1 b) e))

-- ---- the answers

module _ (t : Table) (b out : List ℕ) where
  -- a bad record is told, and leaves the table and the output
  pub handled-bad : {v : Option Event} → v ≡ None → v ≡ event_of b → Handled t b out t None out
  unfolding asked asked_by entry_for table_after out_after
  handled-bad e f =
      let a : asked out b ≡ Asked.nothing = ap (asked_by out b) (sym f ∙ e) in
      record { table = ap (table_after t) (sym a); entry = ap (entry_for t) (sym a); output = ap (out_after t out) (sym a) }

  -- any other asks for a call, whose answer is told with its letter
  handled : {v : Option Event} (c : Call) (r : Option Reply) {s : Said Answer} {u : Table} {o left : List ℕ}
      → v ≡ event_of b → asked_by out b v ≡ asks c → Meets t c (record { said = s; table = u; output = o }) → left ≡ output t out (act t c)
      → said_told r ≡ told (letter_for c) s → Handled t b out u r left
  unfolding asked entry_for table_after out_after
  handled c r f e m l k =
      let a : asked out b ≡ asks c = ap (asked_by out b) (sym f) ∙ e in
      record { table = m.table ∙ ap (table_after t) (sym a); entry = k ∙ (ap (told (letter_for c)) m.said ∙ ap (entry_for t) (sym a)); output = l ∙ ap (out_after t out) (sym a) }

  -- one that is lent no output leaves it
  alone : {v : Option Event} (c : Call) (r : Option Reply) {s : Said Answer} {u : Table} {o : List ℕ} → Alone c
      → v ≡ event_of b → asked_by out b v ≡ asks c → Meets t c (record { said = s; table = u; output = o }) → said_told r ≡ told (letter_for c) s → Handled t b out u r out
  alone c r z f e m k = handled c r f e m (sym (left_alone t out c z)) k

  module _ {u : Table} {o : List ℕ} {r : Option Reply} where
    pub handled-open : (v : Settings) {dest : List ℕ} {a : Result ℕ Refusal} → Some (Event.Open v) ≡ event_of b → dest ≡ destination_of b
        → Meets t (opening dest v.vlan v.rule v.window v.time) (record { said = said_opened a; table = u; output = o }) → r ≡ Some (Reply.Open a) → Handled t b out u r out
    unfolding asked_by
    handled-open v {dest} e f m h = alone (opening dest v.vlan v.rule v.window v.time) r tt e (rw f refl) m (ap said_told h)

    pub handled-close : (slot : ℕ) {a : Result Unit Refusal} → Some (Event.Close slot) ≡ event_of b → Meets t (closing slot) (record { said = said_done a; table = u; output = o }) → r ≡ Some (Reply.Close a) → Handled t b out u r out
    unfolding asked_by
    handled-close slot e m h = alone (closing slot) r tt e refl m (ap said_told h)

    pub handled-reset : (slot : ℕ) {a : Result Unit Refusal} → Some (Event.Reset slot) ≡ event_of b → Meets t (resetting slot) (record { said = said_done a; table = u; output = o }) → r ≡ Some (Reply.Reset a) → Handled t b out u r out
    unfolding asked_by
    handled-reset slot e m h = alone (resetting slot) r tt e refl m (ap said_told h)

    pub handled-arrival : (network : ℕ) {frame : List ℕ} {a : Result Arrived Refusal} → Some (Event.Arrival network) ≡ event_of b → frame ≡ drop 2 b
        → Meets t (arriving network frame out) (record { said = said_arrival a; table = u; output = o }) → r ≡ Some (Reply.Arrival a) → Handled t b out u r o
    unfolding asked_by
    handled-arrival network {frame} e f m h = handled (arriving network frame out) r e (rw f refl) m m.output (ap said_told h)

    pub handled-tick : {a : Result Sums Refusal} → Some Event.Tick ≡ event_of b → Meets t ticking (record { said = said_swept a; table = u; output = o }) → r ≡ Some (Reply.Tick a) → Handled t b out u r out
    unfolding asked_by
    handled-tick e m h = alone ticking r tt e refl m (ap said_told h)
