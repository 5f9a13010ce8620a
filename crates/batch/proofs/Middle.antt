-- The turns of a batch, one after the other, from any place in the middle of it: what the steps of the code leave is what the
-- definition says. Assumes nothing.
use Prim.Native.Nat.{ℕ, zero, suc, ◌+◌, ◌-◌, ◌≤◌}
use mathlib.Core.Path.{◌≡◌, refl, sym, ap, ap₂, ◌∙◌}
use mathlib.Core.Bool.{Bool, true, false, cond}
use mathlib.Core.List.{List, [], ◌∷◌, ◌++◌, map, append_assoc, append-nil}
use native.Mathlib.Nat.{sub-zero, suc-sub-suc}
use native.Mathlib.Omega.{arith}
use lib.Dec.{eqb-suc-zero}
use lib.ListN.{length, take, drop, set, replicate, length-append}
use lib.Seq.{set-append_seam, drop-drop}
use Rattle.frame.specs.Bytes.{word, overlay}
use Rattle.calls.specs.Table.{Table}
use Rattle.calls.specs.Calls.{arriving, Result, result_of}
use Rattle.calls.specs.Told.{tell_arrival}
use Rattle.calls.specs.declared.ArrivalAnswer.{ArrivalAnswer}
use Rattle.batch.specs.Batch.{frames_in, adds, ends, Turn, turn_of, single, turns_in, table_after, packed, before}
use Rattle.batch.specs.Told.{mark}
use Rattle.batch.specs.Steps.{next_frame, cursor_after, Work, result_at, work_after, goes_on, filled_in}
use Rattle.batch.proofs.Arriving.{leaves, stops-ends}
use Rattle.batch.proofs.Lengths as Lengths
use Rattle.batch.proofs.Packing.{frame-there, from_in, lent-end, packs, counts, fits_on}

-- ---- in the middle of a batch: p is packed over o, the answers noted are `told`, and marks are left

abbrev pub Answers : Type 0
Answers = List ArrivalAnswer

abbrev pub middle : Table → (at : ℕ) (p : List ℕ) (left : ℕ) (told : Answers) (frames marks : ℕ) (o : List ℕ) → Work
middle t a p left told frames marks o = record {
  table = t;
  cursor = record { at = a; used = length p; left = left; frames = frames };
  out = overlay p o;
  answers = told ++ replicate marks mark;
}

-- an answer noted
noted : (told : Answers) (marks : ℕ) (e : ArrivalAnswer) → set (told ++ replicate (suc marks) mark) (length told) e ≡ (told ++ (e ∷ [])) ++ replicate marks mark
noted told marks e = set-append_seam told mark (replicate marks mark) e ∙ sym (append_assoc told (e ∷ []) (replicate marks mark))

-- where no frame is left, nothing happens
rests : (most network : ℕ) (s : List ℕ) (w : Work) → w.cursor.left ≡ 0 → filled_in most network s w ≡ w
unfolding filled_in goes_on next_frame
rests zero network s w e = refl
rests (suc most) network s w e = rw e

-- what the turns of a batch leave
abbrev pub told_of : List Turn → Answers
told_of us = map (λ (u : Turn). tell_arrival u.result.said) us

pub record Filled (t : Table) (p : List ℕ) (told : Answers) (marks : ℕ) (o : List ℕ) (us : List Turn) (w : Work) : Type 0 where
  pub table : w.table ≡ table_after t us
  pub frames : w.cursor.frames ≡ length told + before us
  pub out : w.out ≡ overlay (p ++ packed us) o
  pub answers : w.answers ≡ told ++ (told_of us ++ replicate (marks - length us) mark)

module _ (t : Table) (p : List ℕ) (told : Answers) (marks : ℕ) (o : List ℕ) (u : Turn) where
  -- 8 ends it,
  stopped : (a : ℕ) → ends u.result.said ≡ true
      → Filled t p told (suc marks) o (u ∷ [])
      (middle u.result.table a (p ++ adds u.result) 0 (told ++ (tell_arrival u.result.said ∷ [])) (length told) marks o)
  unfolding table_after packed before
  stopped a e = record {
    table = refl;
    frames = rw e (omega arith);
    out = rw append-nil;
    answers = rw (suc-sub-suc, sub-zero, append_assoc);
  }

  -- and any other answer is followed by what the rest leaves
  going-on : (us : List Turn) (w : Work) → ends u.result.said ≡ false
      → Filled u.result.table (p ++ adds u.result) (told ++ (tell_arrival u.result.said ∷ [])) marks o us w
      → Filled t p told (suc marks) o (u ∷ us) w
  unfolding table_after packed before
  going-on us w e f = record {
    table = f.table;
    frames = rw e (f.frames ∙ rw length-append (omega arith));
    out = f.out ∙ rw append_assoc;
    answers = f.answers ∙ rw (suc-sub-suc, append_assoc);
  }

module _ (network : ℕ) (s o : List ℕ) where
  -- the next frame, and what it comes to
  abbrev frame : (at : ℕ) → List ℕ
  frame a = take (word (drop a s) 0) (drop 2 (drop a s))

  abbrev result : Table → (at : ℕ) → (p : List ℕ) → Result
  result t a p = result_of t (single network (frame a) (drop (length p) o))

  abbrev told-on : Table → (at : ℕ) → (p : List ℕ) → Answers → Answers
  told-on t a p told = told ++ (tell_arrival (result t a p).said ∷ [])

  abbrev behind : (stop : Bool) (n : ℕ) → Table → (at : ℕ) → (p : List ℕ) → Answers → (marks : ℕ) → Work
  behind stop n t a p told marks =
      middle (result t a p).table (a + 2 + word s a) (p ++ adds (result t a p)) (cond stop 0 n) (told-on t a p told) (cond stop (length told) (length told + 1)) marks o

  abbrev pub Comes : (n : ℕ) → Table → (at : ℕ) → (p : List ℕ) → Answers → (marks : ℕ) → Type 0
  Comes n t a p told marks =
      Filled t p told marks o (turns_in network t (drop (length p) o) (frames_in n (drop a s))) (filled_in n network s (middle t a p n told (length told) marks o))

  module _ (n : ℕ) (t : Table) (a : ℕ) (p : List ℕ) (told : Answers) (marks : ℕ) (fits : length p ≤ length o) where
    one : filled_in (suc n) network s (middle t a p (suc n) told (length told) (suc marks) o) ≡ filled_in n network s (behind (ends (result t a p).said) n t a p told marks)
    unfolding filled_in goes_on next_frame work_after cursor_after
    one =
        let w : Work = middle t a p (suc n) told (length told) (suc marks) o in
        let x : Result = result t a p in
        let r : result_at network w (take (a + 2 + word s a - (a + 2)) (drop (a + 2) s)) (from_in p o) ≡ x =
        ap₂ (λ (f left : List ℕ). result_of t (arriving network f left)) (frame-there s a) (lent-end p o fits) in
        let v = leaves t (drop 2 (drop (length p) o)) network (frame a) in
        let k : length p + _ ≡ length (p ++ adds x) = ap (λ (y : ℕ). length p + y) (counts p o fits x v) ∙ sym (length-append p (adds x)) in
        let d : suc n - 1 ≡ n = omega arith in
        let after : work_after w x (a + 2 + word s a) (from_in p o) ≡ behind (ends x.said) n t a p told marks = λ i. record {
          table = x.table;
          cursor = record {
            at = a + 2 + word s a;
            used = k i;
            left = cond (stops-ends x.said i) 0 (d i);
            frames = cond (stops-ends x.said i) (length told) (length told + 1);
          };
          out = packs p o fits x v i;
          answers = noted told marks (tell_arrival x.said) i;
        } in
        rw eqb-suc-zero (ap (λ (y : Result). filled_in n network s (work_after w y (a + 2 + word s a) (from_in p o))) r ∙ ap (filled_in n network s) after)

    -- one turn, and the rest
    step : Comes n (result t a p).table (a + 2 + word s a) (p ++ adds (result t a p)) (told-on t a p told) marks → Comes (suc n) t a p told (suc marks)
    unfolding turns_in frames_in
    step rest = rw one (go (ends (result t a p).said) refl)
      where
        u : Turn
        u = turn_of t (single network (frame a) (drop (length p) o))

        us : List Turn
        us = turns_in network (result t a p).table (drop (length (adds (result t a p))) (drop (length p) o)) (frames_in n (drop (2 + word (drop a s) 0) (drop a s)))

        go : (b : Bool) → ends (result t a p).said ≡ b
            → Filled t p told (suc marks) o (u ∷ cond b [] us) (filled_in n network s (behind b n t a p told marks))
        go true e = rw (rests n network s (behind true n t a p told marks) refl) (stopped t p told marks o u _ e)
        go false e =
            going-on t p told marks o u us _ e
            (rw (drop-drop (length (adds (result t a p))) (length p) o, ← length-append p (adds (result t a p)), Lengths.behind s a) (rw (length-append told) at rest))

  pub all : (n : ℕ) (t : Table) (a : ℕ) (p : List ℕ) (told : Answers) (marks : ℕ) → length p ≤ length o → n ≤ marks → Comes n t a p told marks
  unfolding filled_in turns_in frames_in table_after packed before
  all zero t a p told marks fits h = record { table = refl; frames = omega arith; out = rw append-nil; answers = rw sub-zero }
  all (suc n) t a p told zero fits h = absurd (omega arith)
  all (suc n) t a p told (suc marks) fits h =
      let v = leaves t (drop 2 (drop (length p) o)) network (frame a) in
      step n t a p told marks fits (all n (result t a p).table (a + 2 + word s a) (p ++ adds (result t a p)) (told-on t a p told) marks (fits_on p o fits (result t a p) v) (omega arith))
