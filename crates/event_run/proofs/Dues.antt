-- What is due stays due. Assumes nothing.
use Rattle.std.proofs.Common.{◌≡◌, ℕ, zero, suc, ◌+◌, ◌-◌, ◌≤◌, List, length, take, drop, Option, Some, None, sym, refl, ap, ◌∙◌, subst, append_assoc, arith, length-append, length-drop, length-take}
use Rattle.record.specs.Sizes.{frame_most}
use Rattle.event_file.specs.Records.{asked}
use Rattle.event_file.specs.Buffers.{written, Put, line_most}
use Rattle.event_file.specs.Files.{lines_from}
use Rattle.event_file.specs.declared.reader.Body.{Body}
use Rattle.event_file.proofs.Framing.{one-record}
use Rattle.event_file.proofs.Writing.{front_of}
use Rattle.event_file.proofs.Outputs.{any-output, output-length}
use Rattle.event_run.specs.Run.{due, Work, line_for, work_after, goes_on, drained_in, drained_of, Kept, Drained}
use Rattle.event_run.specs.Laws.{DrainsKeep}
use Rattle.event_run.proofs.Nexts.{Found, found}
use Rattle.event_run.proofs.Draining.{next, one, left, less, none_left}

module _ (input : List ℕ) where
  -- what is due from one work on is due from another
  abbrev Keeps : Work → Work → Type 0
  Keeps w v = Kept w.table w.place input w.lines v.table v.place v.lines

  -- ---- one record

  module _ (w : Work) (i j : ℕ) where
    abbrev b : List ℕ
    b = take (j - i) (drop i input)

    abbrev line : List ℕ
    line = line_for w (asked w.out b)

    -- the line buffer does not get shorter, and keeps its length only where the line had room
    longer : length w.lines ≤ length (one input w i j).lines
    unfolding work_after written
    longer = simp (length-append, length-take, length-drop) (omega arith)

    had-room : length (one input w i j).lines ≡ length w.lines → w.place.used + line_most ≤ length w.lines → w.place.used + length line ≤ length w.lines
    unfolding work_after written
    had-room e h = let k = simp (length-append, length-take, length-drop) at e in omega arith

    out-length : length (one input w i j).out ≡ length w.out
    unfolding work_after
    out-length = output-length w.table b w.out

    one-keeps : length w.out ≡ frame_most → Found w.place input (length w.lines) i j → length (one input w i j).lines ≡ length w.lines → Keeps w (one input w i j)
    unfolding work_after due lines_from
    one-keeps h f l =
        let x : Put line w.place.used w.lines (one input w i j).lines (w.place.used + length line) = record { room = had-room l f.room; same = refl; place = refl } in
        let alike = any-output w.table b w.out h in
        record {
          same = λ rest. rw (front_of x, alike.0, alike.1, one-record input w.place.at i j rest f.whole) (append_assoc (take w.place.used w.lines) _ _);
          within = λ _. f.whole.room;
          room = λ _. omega (arith, x.room);
        }

  -- ---- all that can be answered

  longer-all : (most : ℕ) (w : Work) → length w.lines ≤ length (drained_in most input w).lines
  unfolding drained_in goes_on
  longer-all zero w = omega arith
  longer-all (suc most) w = go (λ v. longer-all most v) (next input w)
    where
      go : ((v : Work) → length v.lines ≤ length (drained_in most input v).lines) → (v : Option Body) → length w.lines ≤ length (goes_on input (drained_in most input) w v).lines
      go all None = omega arith
      go all (Some b) = omega (arith, longer w b.start b.end, all (one input w b.start b.end))

  keeps : (most : ℕ) (w : Work) → length w.out ≡ frame_most → length (drained_in most input w).lines ≡ length w.lines → Keeps w (drained_in most input w)
  unfolding drained_in goes_on
  keeps zero w h l = record { same = λ rest. refl; within = λ h. h; room = λ h. h }
  keeps (suc most) w h l = go (λ v. keeps most v) (next input w) refl l
    where
      go : ((v : Work) → length v.out ≡ frame_most → length (drained_in most input v).lines ≡ length v.lines → Keeps v (drained_in most input v))
          → (v : Option Body) → next input w ≡ v → length (goes_on input (drained_in most input) w v).lines ≡ length w.lines → Keeps w (goes_on input (drained_in most input) w v)
      go all None e l = record { same = λ rest. refl; within = λ h. h; room = λ h. h }
      go all (Some b) e l =
          let v : Work = one input w b.start b.end in
          let first : length v.lines ≡ length w.lines = omega (arith, longer w b.start b.end, longer-all most v) in
          let k = one-keeps w b.start b.end h (found _ input _ b e) first in
          let k' = all v (out-length w b.start b.end ∙ h) (l ∙ sym first) in
          record { same = λ rest. k'.same rest ∙ k.same rest; within = λ x. k'.within (k.within x); room = λ x. k'.room (k.room x) }

  none : (most : ℕ) (w : Work) → left input w ≤ most → next input (drained_in most input w) ≡ None
  unfolding drained_in goes_on
  none zero w h = none_left input w h
  none (suc most) w h = go (λ v. none most v) (next input w) refl
    where
      go : ((v : Work) → left input v ≤ most → next input (drained_in most input v) ≡ None) → (v : Option Body) → next input w ≡ v → next input (goes_on input (drained_in most input) w v) ≡ None
      go all None e = e
      go all (Some b) e = let l = less input w b e in all (one input w b.start b.end) (omega arith)

pub drains-keep : DrainsKeep
unfolding drained_of
drains-keep t p input old out u r new left l d =
    let w : Work = record { table = t; place = p; lines = old; out = out } in
    let long : length (drained_in (length input) input w).lines ≡ length old = ap (λ (v : Work). length v.lines) (sym d.same) ∙ l in
    subst (λ (v : Work). Drained t p input old out v.table v.place v.lines) (sym d.same)
    (record { kept = λ h. keeps input (length input) w h long; none = none input (length input) w (omega arith) })
