-- A turn keeps what is due, whatever it read. Assumes nothing.
use mathlib.Core.Path.{◌≡◌, refl, sym, ap, ◌∙◌}
use Prim.Native.Nat.{ℕ, ◌+◌, ◌-◌, ◌≤◌, ◌<◌}
use native.Mathlib.Decide.{dec_lt}
use native.Mathlib.Omega.{arith}
use mathlib.Core.Bool.{Bool, true, false}
use mathlib.Core.List.{List, [], ◌++◌, append_assoc}
use lib.ListN.{length, take, drop, length-take, drop_of_length-le, take-append-drop}
use lib.Seq.{length-take-le, take-take}
use Rattle.std.proofs.lemmas.List.{append-nil, drop-take}
use lib.IntN.{ℤ}
use Rattle.std.specs.Prelude.{Result, Ok, None}
use Rattle.std.specs.declared.io.Error.{Error}
use borrow.Author.Tests.{lt-leb, eq-eqb, ne_eqb}
use Rattle.record.specs.Sizes.{frame_most}
use Rattle.calls.specs.Table.{Table}
use Rattle.event_file.specs.Records.{records_of, read_at}
use Rattle.event_file.specs.Lines.{last_line}
use Rattle.event_file.specs.Buffers.{Writes, line_most, last_most}
use Rattle.event_file.specs.Files.{lines_from}
use Rattle.event_file.proofs.Framing.{last-record}
use Rattle.event_file.proofs.Writing.{front_of, writes-put}
use Rattle.event_run.specs.declared.Place.{Place}
use Rattle.event_turns.specs.declared.Held.{Held}
use Rattle.event_turns.specs.declared.Sent.{Sent}
use Rattle.event_turns.specs.declared.Stand.{Stand}
use Rattle.event_turns.specs.declared.Stand.TheVariants.{Ended}
use Rattle.event_run.specs.Run.{due, next_of, Kept, Drained}
use Rattle.event_turns.specs.Turns.{bytes_in, place_of, due_from, stays, is_whole, after_read, stand_of, Turned}
use Rattle.event_turns.proofs.Answers.{none-whole, none_read}

-- ---- a buffer that is read up to a place

pub drained-to : {t u : Table} {p r : Place} (to : ℕ) (input : List ℕ) {old new out : List ℕ}
    → (p.at ≤ to) × (to ≤ length input) × (p.used ≤ length old) × (length out ≡ frame_most) → Drained t p (take to input) old out u r new
    → (r.at ≤ to) × (r.used ≤ length new)
drained-to {t} {u} {p} {r} to input {old} {new} {out} pre d =
    let k = d.kept pre.3 in
    let l : length (take to input) ≡ to = length-take-le to input pre.1 in
    (omega (arith, k.within (omega arith)), k.room pre.2)

-- ---- the last line

-- where no whole record is left, the last line is all that is due
pub last-due : (t : Table) (number : ℕ) (input : List ℕ) (at : ℕ) → at ≤ length input → None ≡ read_at input at
    → lines_from t number (records_of (drop at input)) ≡ last_line (length input - at)
unfolding lines_from last_line
last-due t number input at h m = elim (dec_lt at (length input)) [ yes q ↦ some q | no q ↦ none (omega arith) ]
  where
    none : length input ≡ at → lines_from t number (records_of (drop at input)) ≡ last_line (length input - at)
    none e = let z : length input - at ≡ 0 = omega arith in rw (last-record input at h m, eq-eqb _ _ e, eq-eqb _ _ z)

    some : at < length input → lines_from t number (records_of (drop at input)) ≡ last_line (length input - at)
    some q =
        let e : (length input ≡ at → ⊥) = λ a. omega arith in
        let z : (length input - at ≡ 0 → ⊥) = λ a. omega arith in
        rw (last-record input at h m, ne_eqb _ _ e, ne_eqb _ _ z)

-- the last line stays within the buffer
pub last-room : {most at r : ℕ} {new old now : List ℕ} → Writes most new at old now r → length now ≡ length old → at ≤ length old → r ≤ length now
last-room {most} {at} {r} {new} {old} {now} w l h = elim (dec_lt (length old) (at + most)) [ yes p ↦ (let e : r ≡ at = rw (lt-leb _ _ p) at w.place in omega arith) | no p ↦ fits (omega arith) ]
  where
    fits : at + most ≤ length old → r ≤ length now
    fits k = let q = writes-put most at k w in omega (arith, q.room, q.place)

-- and where there is room for it, it stands there
pub last_written : (left : ℕ) {old now : List ℕ} {r : ℕ} → Writes last_most (last_line left) 0 old now r → last_most ≤ length old → take r now ≡ last_line left
last_written left {old} {now} {r} w h = front_of (writes-put last_most 0 h w)

-- ---- parts of a list

drop-to : (at to : ℕ) (l : List ℕ) → at ≤ to → drop at (take to l) ≡ take (to - at) (drop at l)
drop-to at to l h = let e : at + (to - at) ≡ to = omega arith in rw e at (drop-take at (to - at) l)

none-behind : (to : ℕ) (l : List ℕ) → drop (to - 0) (take to l) ≡ []
none-behind to l = let n : length (take to l) ≤ to - 0 = omega (arith, length-take to l) in drop_of_length-le (take to l) n

-- ---- a turn

module _ (from onto : ℤ) (h : Held) (u : Table) (r : Place) (input old new : List ℕ) (k : Kept h.table (place_of h) (take h.to input) old u r new) (s : Sent) (so : (s.onto ≡ onto) × (s.wrote ≡ r.used)) (a : r.at ≤ h.to) (x : next_of r (take h.to input) (length new) ≡ None) (fits : line_most ≤ length new) where
  -- what is due after the records were answered
  due-held : (rest : List ℕ) → take s.wrote new ++ lines_from u r.number (records_of (drop r.at (take h.to input) ++ rest)) ≡ due_from h input rest
  unfolding due due_from
  due-held rest = rw so.1 (k.same rest)

  pub stay-turned : (f : ℤ) → f ≡ from → (stand : Stand) → stand ≡ stand_of s.out (is_whole (read_at (take h.to input) r.at)) r.number (Ok 0) → (stand ≡ Ended → ⊥)
      → Turned from onto h input input new (stays (record { table = u; number = r.number; at = r.at; to = h.to }) s f stand)
  unfolding due_from lines_from
  stay-turned f w stand e n =
      record {
        same = λ later. rw (none-behind h.to input) (due-held later);
        last = λ z. absurd (n z);
        room = fits;
        none = rw (at_left, so.1) x;
        stand = rw at_left e;
        unread = λ _. refl;
        there = so.0;
        whence = w;
      }
    where
      at_left : h.to - (h.to - r.at - 0) ≡ r.at
      at_left = omega arith

  module _ (now : List ℕ) (left : ℕ) (l : left ≡ h.to - r.at) (b : h.to ≤ length input) (e : take left now ≡ take left (drop r.at input)) where
    -- what is left stands at the front
    front : take left now ≡ drop r.at (take h.to input)
    front = e ∙ (ap (λ (n : ℕ). take n (drop r.at input)) l ∙ sym (drop-to r.at h.to input a))

    -- and the piece that was read stands behind it
    behind : (to : ℕ) → left ≤ to → take to now ≡ drop r.at (take h.to input) ++ drop left (take to now)
    behind to m = sym (ap (λ (s : List ℕ). s ++ drop left (take to now)) (sym front ∙ sym (take-take left to now m)) ∙ take-append-drop left (take to now))

    read_same : (to : ℕ) → left ≤ to → (later : List ℕ)
        → take s.wrote new ++ lines_from u r.number (records_of (take to now ++ later)) ≡ due_from h input (drop left (take to now) ++ later)
    read_same to m later =
        ap (λ (l : List ℕ). take s.wrote new ++ lines_from u r.number (records_of l)) (ap (λ (l : List ℕ). l ++ later) (behind to m) ∙ append_assoc (drop r.at (take h.to input)) (drop left (take to now)) later)
        ∙ due-held (drop left (take to now) ++ later)

    pub read-turned : (to : ℕ) (f : ℤ) (got : Result ℕ Error) → f ≡ from → to ≡ left + bytes_in got → s.out ≡ true → false ≡ is_whole (read_at (take h.to input) r.at) → (stand : Stand) → stand ≡ after_read got
        → Turned from onto h input now new (record { held = record { table = u; number = r.number; at = 0; to = to }; sent = s; from = f; got = got; stand = stand })
    unfolding due_from lines_from
    read-turned to f got ff t o w stand st =
        record {
          same = λ later. same later;
          last = λ z. last (none_read got (sym st ∙ z));
          room = fits;
          none = rw (at_left, so.1) x;
          stand = rw (at_left, o, ← w) st;
          unread = λ z. absurd (let y : ◌≡◌ {A = Bool} true false = rw (at_left, o, ← w) at z in cc);
          there = so.0;
          whence = ff;
        }
      where
        at_left : h.to - (to - 0 - bytes_in got) ≡ r.at
        at_left = omega arith

        same : (later : List ℕ) → take s.wrote new ++ lines_from u r.number (records_of (take to now ++ later)) ≡ due_from h input (drop (to - bytes_in got) (take to now) ++ later)
        same later = let n : to - bytes_in got ≡ left = omega arith in rw n (read_same to (omega arith) later)

        last : bytes_in got ≡ 0 → lines_from u r.number (records_of (take to now ++ [])) ≡ last_line (to - 0)
        last z =
            let n : length (take h.to input) ≡ h.to = length-take-le h.to input b in
            let q : to ≡ left = omega arith in
            let d : to - 0 ≡ length (take h.to input) - r.at = omega arith in
            ap (λ (l : List ℕ). lines_from u r.number (records_of l)) (append-nil (take to now) ∙ (ap (λ (n : ℕ). take n now) q ∙ front))
            ∙ (last-due u r.number (take h.to input) r.at (omega arith) (none-whole _ w) ∙ ap last_line (sym d))
