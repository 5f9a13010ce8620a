-- The turns of a batch: where it can be, a frame more, and where it stops. Assumes nothing.
use Prim.Native.Nat.{ℕ, zero, suc, ◌+◌, ◌-◌, ◌≤◌, ◌<◌}
use mathlib.Core.Path.{◌≡◌, refl, sym, ap, ◌∙◌}
use mathlib.Core.Bool.{Bool, true, false, not, cond, ◌||◌}
use mathlib.Core.List.{List}
use native.Mathlib.Omega.{arith}
use lib.Dec.{eqb, ltb, leb}
use lib.ListN.{length, take, drop}
use borrow.Author.Tests.{eqb-true, eqb-false, leb-true, ltb-false}
use Rattle.refusal.specs.Checks.{said}
use Rattle.refusal.specs.Checks.Said.{refused, answers}
use Rattle.refusal.specs.Numbers.{number_of}
use Rattle.refusal.specs.declared.Refusal.{Refusal}
use Rattle.std.specs.Prelude.{Result as Answered, Ok, Err}
use Rattle.index.specs.Index.{Index}
use Rattle.index.specs.Indexed.{unfit_of, told_unfit}
use Rattle.receiver.proofs.Closing.{number-some}
use Rattle.refusal.specs.Numbers.{NETWORK, BATCH}
use Rattle.refusal.proofs.Checks.{passed, same-value}
use mathlib.Core.Path.{subst}
use Rattle.frame.specs.Bytes.{word}
use Rattle.calls.specs.Table.{Table}
use Rattle.calls.specs.Calls.{Call, Result, result_of, Meets}
use Rattle.calls.specs.Told.{tell_arrival}
use Rattle.calls.specs.declared.ArrivalAnswer.{ArrivalAnswer}
use Rattle.calls.proofs.Kept.{coincide}
use Rattle.batch.specs.Batch.{Batch, frames_most, runs_past}
use Rattle.batch.specs.Steps.{starts_with, begun, from_of, next_frame, added, stops, cursor_after, Work, result_at, work_after, goes_on, filled_in, filled_of, left_by, filled_from, Fills}
use Rattle.batch.specs.declared.Cursor.{Cursor}
use Rattle.std.specs.Prelude.{Option, Some, None}
use Rattle.batch.specs.declared.Next.{Next}
use Rattle.batch.specs.Steps.{frame_at}
use Rattle.batch.proofs.Lengths.{past-none, neither}
use Rattle.batch.proofs.Bodies.{no_index, no-frame}

-- ---- where a batch can be

pub record Whole (s : List ℕ) (room : ℕ) (c : Cursor) : Type 0 where
  pub at : c.at ≤ length s
  pub used : c.used ≤ room
  pub past : runs_past c.left (drop c.at s) ≡ false
  pub count : c.frames + c.left ≤ frames_most

module _ (unfit network count : ℕ) (s : List ℕ) where
  -- a batch that is not refused
  begun-so : {c : Cursor} → begun unfit network count s ≡ answers c
      → (unfit ≡ 0) × (count ≤ frames_most) × (runs_past count s ≡ false) × (starts_with count ≡ c)
  unfolding begun
  begun-so {c} e =
      let x = passed (not (eqb unfit 0)) unfit (sym e) in
      let y = passed (ltb 1 network) NETWORK x.1 in
      let z = passed (ltb frames_most count || runs_past count s) BATCH y.1 in
      let n = neither (ltb frames_most count) (runs_past count s) z.0 in
      (eqb-true unfit 0 (not-no (eqb unfit 0) x.0), ltb-false frames_most count n.0, n.1, sym (same-value z.1))
    where
      not-no : (b : Bool) → not b ≡ false → b ≡ true
      not-no true e = refl
      not-no false e = sym e

  pub whole-begun : (room : ℕ) {c : Cursor} → begun unfit network count s ≡ answers c → Whole s room c
  whole-begun room {c} e =
      let b = begun-so e in
      subst (Whole s room) b.3 (record { at = omega arith; used = omega arith; past = b.2; count = omega (arith, b.1) })

  -- a batch that has frames to come was refused with neither 1 nor 18
  pub begun-fit : {c : Cursor} → begun unfit network count s ≡ answers c → unfit ≡ 0
  begun-fit e = (begun-so e).0

-- ---- the next frame

-- what it is
record Got (s : List ℕ) (room : ℕ) (c : Cursor) (i j k : ℕ) : Type 0 where
  start : i ≡ c.at + 2
  end : j ≡ c.at + 2 + word s c.at
  from : k ≡ from_of c.used room
  some : 0 < c.left

abbrev next_of : Option Next → Next
next_of (Some n) = n
next_of None = record { start = 0; end = 0; from = 0 }

got : (s : List ℕ) (room : ℕ) (c : Cursor) (i j k : ℕ) → next_frame c s room ≡ frame_at i j k → Got s room c i j k
unfolding next_frame
got s room c i j k e = go (eqb c.left 0) refl e
  where
    go : (b : Bool) → eqb c.left 0 ≡ b → cond b None (frame_at (c.at + 2) (c.at + 2 + word s c.at) (from_of c.used room)) ≡ frame_at i j k → Got s room c i j k
    go true p e = let f : None ≡ frame_at i j k = e in cc
    go false p e =
        let n = eqb-false c.left 0 p in
        record { start = sym (ap (λ (f : Option Next). (next_of f).start) e); end = sym (ap (λ (f : Option Next). (next_of f).end) e); from = sym (ap (λ (f : Option Next). (next_of f).from) e); some = omega (arith, n) }

-- from where on the output is its
pub from_is : (s : List ℕ) (room : ℕ) (c : Cursor) (i j k : ℕ) → next_frame c s room ≡ frame_at i j k → k ≡ from_of c.used room
from_is s room c i j k e = (got s room c i j k e).from

pub record Framed (s : List ℕ) (room : ℕ) (c : Cursor) (i j k : ℕ) : Type 0 where
  pub start : i ≤ j
  pub end : j ≤ length s
  pub from : k ≤ room
  pub some : 0 < c.left
  pub few : c.frames < frames_most

from-most : (used room : ℕ) → from_of used room ≤ room
from-most used room = go (leb (used + 2) room) refl
  where
    go : (b : Bool) → leb (used + 2) room ≡ b → cond b (used + 2) room ≤ room
    go true e = leb-true (used + 2) room e
    go false e = omega arith

pub framed : (s : List ℕ) (room : ℕ) (c : Cursor) (i j k : ℕ) → Whole s room c → next_frame c s room ≡ frame_at i j k → Framed s room c i j k
framed s room c i j k w e =
    let g = got s room c i j k e in
    let p = past-none s c.at c.left w.at g.some w.past in
    let m = from-most c.used room in
    record {
      start = omega (arith, g.start, g.end);
      end = omega (arith, g.end, p.0);
      from = omega (arith, g.from);
      some = g.some;
      few = omega (arith, g.some, w.count);
    }

-- ---- behind it

left_after : (c : Cursor) (j : ℕ) (e : ArrivalAnswer) (b : Bool) → stops e ≡ b → (cursor_after c j e).left ≡ cond b 0 (c.left - 1)
unfolding cursor_after
left_after c j e b p = rw p

pub whole-after : (s : List ℕ) (room : ℕ) (c : Cursor) (i j k : ℕ) (e : ArrivalAnswer)
    → Whole s room c → next_frame c s room ≡ frame_at i j k → c.used + added e ≤ room → Whole s room (cursor_after c j e)
unfolding cursor_after runs_past
whole-after s room c i j k e w p h = go (stops e)
  where
    g : Got s room c i j k
    g = got s room c i j k p

    q : (c.at + 2 + word s c.at ≤ length s) × (runs_past (c.left - 1) (drop (c.at + 2 + word s c.at) s) ≡ false)
    q = past-none s c.at c.left w.at g.some w.past

    go : (b : Bool) → Whole s room (record { at = j; used = c.used + added e; left = cond b 0 (c.left - 1); frames = cond b c.frames (c.frames + 1) })
    go true = record { at = omega (arith, g.end, q.0); used = h; past = refl; count = omega (arith, w.count) }
    go false = record { at = omega (arith, g.end, q.0); used = h; past = rw g.end q.1; count = omega (arith, g.some, w.count) }

pub left-falls : (s : List ℕ) (room : ℕ) (c : Cursor) (i j k : ℕ) (e : ArrivalAnswer) → next_frame c s room ≡ frame_at i j k → (cursor_after c j e).left < c.left
left-falls s room c i j k e p = let g = got s room c i j k p in go (stops e) refl g.some
  where
    go : (b : Bool) → stops e ≡ b → 0 < c.left → (cursor_after c j e).left < c.left
    go true q h = omega (arith, left_after c j e true q)
    go false q h = omega (arith, left_after c j e false q)

-- ---- all frames

filled-stops : (most network : ℕ) (s : List ℕ) (w : Work) → next_frame w.cursor s (length w.out) ≡ None → filled_in most network s w ≡ w
unfolding filled_in goes_on
filled-stops zero network s w e = refl
filled-stops (suc most) network s w e = rw e

pub filled_none : (network : ℕ) (s : List ℕ) (w : Work) → next_frame w.cursor s (length w.out) ≡ None → filled_of network s w ≡ w
unfolding filled_of
filled_none network s w e = filled-stops w.cursor.left network s w e

after-left : (w : Work) (r : Result) (j k : ℕ) → (work_after w r j k).cursor.left ≡ (cursor_after w.cursor j (tell_arrival r.said)).left
unfolding work_after
after-left w r j k = refl

pub filled-one : (network : ℕ) (s : List ℕ) (w : Work) (i j k : ℕ) → next_frame w.cursor s (length w.out) ≡ frame_at i j k
    → filled_of network s (work_after w (result_at network w (take (j - i) (drop i s)) k) j k) ≡ filled_of network s w
unfolding filled_of filled_in goes_on
filled-one network s w i j k e = go w.cursor.left refl (got s (length w.out) w.cursor i j k e).some
  where
    r : Result
    r = result_at network w (take (j - i) (drop i s)) k

    v : Work
    v = work_after w r j k

    a : ArrivalAnswer
    a = tell_arrival r.said

    -- a frame that ends the batch leaves none
    rest : (n : ℕ) → w.cursor.left ≡ suc n → (b : Bool) → stops a ≡ b → filled_in v.cursor.left network s v ≡ filled_in n network s v
    rest n q true p =
        let z : v.cursor.left ≡ 0 = after-left w r j k ∙ left_after w.cursor j a true p in
        ap (λ (m : ℕ). filled_in m network s v) z ∙ sym (filled-stops n network s v (sym (no-frame v.cursor s (length v.out) z)))
    rest n q false p =
        let l = left_after w.cursor j a false p in
        let z : v.cursor.left ≡ n = omega (arith, after-left w r j k) in
        ap (λ (m : ℕ). filled_in m network s v) z

    go : (n : ℕ) → w.cursor.left ≡ n → 0 < n → filled_in v.cursor.left network s v ≡ filled_in n network s w
    go zero q h = absurd (omega arith)
    go (suc n) q h =
        let step : filled_in (suc n) network s w ≡ filled_in n network s v = rw e in
        rest n q (stops a) refl ∙ sym step

pub meets-result : (t : Table) (c : Call) (r : Result) → Meets t c r → r ≡ result_of t c
meets-result t c r m = coincide t c r (result_of t c) m (record { said = refl; table = refl; output = refl })

-- ---- from the beginning

-- a batch that is refused with 1 or 18, and one that is not
pub begun-unfit : (ix : Index) (t : Table) (r : Answered Unit Refusal) → told_unfit r ≡ unfit_of ix t → (refusal : Refusal) → r ≡ Err refusal
    → (network count : ℕ) (s : List ℕ) → begun (unfit_of ix t) network count s ≡ refused (number_of refusal)
begun-unfit ix t r said refusal e network count s =
    let n : number_of refusal ≡ unfit_of ix t = sym (ap told_unfit e) ∙ said in
    sym (no_index (unfit_of ix t) network count s (λ z. number-some refusal (n ∙ z))) ∙ ap refused (sym n)

pub begun-well : (ix : Index) (t : Table) (r : Answered Unit Refusal) → told_unfit r ≡ unfit_of ix t → {u : Unit} → r ≡ Ok u
    → (network count : ℕ) (s : List ℕ) → begun (unfit_of ix t) network count s ≡ begun 0 network count s
begun-well ix t r said e network count s =
    let n : unfit_of ix t ≡ 0 = sym said ∙ ap told_unfit e in
    ap (λ (m : ℕ). begun m network count s) n

pub refused-fills : (ix : Index) (t : Table) (b : Batch) (old : List ArrivalAnswer) (r : Answered ℕ Refusal) (refusal : Refusal)
    → begun (unfit_of ix t) b.network b.count b.frames ≡ refused (number_of refusal) → r ≡ Err refusal → Fills ix t b old t r b.out old
unfolding filled_from
refused-fills ix t b old r refusal p e = record {
  same = ap (λ (x : Answered ℕ Refusal). record { said = said x; table = t; out = b.out; answers = old }) e ∙ sym (ap (filled_from t b old) p);
}

pub done-fills : (ix : Index) (t : Table) (b : Batch) (old : List ArrivalAnswer) (c : Cursor) (w : Work) → begun (unfit_of ix t) b.network b.count b.frames ≡ answers c
    → filled_of b.network b.frames w ≡ filled_of b.network b.frames (record { table = t; cursor = c; out = b.out; answers = old }) → next_frame w.cursor b.frames (length w.out) ≡ None
    → Fills ix t b old w.table (Ok w.cursor.frames) w.out w.answers
unfolding filled_from
done-fills ix t b old c w p same none = record {
  same = ap left_by (sym (filled_none b.network b.frames w none) ∙ same) ∙ sym (ap (filled_from t b old) p);
}
