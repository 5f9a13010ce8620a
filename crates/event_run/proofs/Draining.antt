-- The records of a buffer, one after the other: the definition goes on by one record, and stops where there is none.
-- Assumes nothing.
use Rattle.std.proofs.Common.{◌≡◌, ℕ, zero, suc, ◌+◌, ◌-◌, ◌<◌, ◌≤◌, List, length, take, drop, Option, Some, None, sym, refl, ap, ◌∙◌, arith}
use Rattle.calls.specs.Table.{Table}
use Rattle.event_file.specs.Records.{asked}
use Rattle.event_file.specs.Lines.{line_of, said_told}
use Rattle.event_file.specs.Buffers.{written, line_most}
use Rattle.event_file.specs.declared.reader.Body.{Body}
use Rattle.event_file.specs.declared.line.Reply.{Reply}
use Rattle.event_file.proofs.Writing.{writes-put}
use Rattle.event_run.specs.declared.Place.{Place}
use Rattle.event_run.specs.Run.{next_of, Handled, Noted, Work, line_for, work_after, goes_on, drained_in, drained_of}
use Rattle.event_run.specs.Laws.{EnoughRecords, DrainsCoincide}
use Rattle.event_run.proofs.Nexts.{Found, found, none-behind}

-- ---- one record more

module _ (input : List ℕ) where
  abbrev pub next : Work → Option Body
  next w = next_of w.place input (length w.lines)

  abbrev pub one : Work → ℕ → ℕ → Work
  one w i j = work_after w (asked w.out (take (j - i) (drop i input))) j

  one_at : (w : Work) (i j : ℕ) → (one w i j).place.at ≡ j
  unfolding work_after
  one_at w i j = refl

  abbrev pub left : Work → ℕ
  left w = length input - w.place.at

  -- a record takes two bytes or more
  pub less : (w : Work) (b : Body) → next w ≡ Some b → left (one w b.start b.end) < left w
  less w b e = let f = (found _ input _ b e).whole in omega (arith, one_at w b.start b.end, f.start, f.end, f.room)

  pub none_left : (w : Work) → left w ≤ 0 → next w ≡ None
  none_left w h = none-behind w.place input _ (omega arith)

  stops : (most : ℕ) (w : Work) → next w ≡ None → drained_in most input w ≡ w
  unfolding drained_in goes_on
  stops zero w e = refl
  stops (suc most) w e = rw e

  enough : (n m : ℕ) (w : Work) → left w ≤ n → left w ≤ m → drained_in n input w ≡ drained_in m input w
  unfolding drained_in goes_on
  enough zero m w h k = sym (stops m w (none_left w h))
  enough (suc n) zero w h k = stops (suc n) w (none_left w k)
  enough (suc n) (suc m) w h k = go (λ v a b. enough n m v a b) (next w) refl
    where
      go : ((v : Work) → left v ≤ n → left v ≤ m → drained_in n input v ≡ drained_in m input v)
          → (v : Option Body) → next w ≡ v → goes_on input (drained_in n input) w v ≡ goes_on input (drained_in m input) w v
      go same None e = refl
      go same (Some b) e = let l = less w b e in same (one w b.start b.end) (omega arith) (omega arith)

  pub drained-none : (w : Work) → next w ≡ None → drained_of input w ≡ w
  unfolding drained_of
  drained-none w e = stops (length input) w e

  pub drained-one : (w : Work) (b : Body) → next w ≡ Some b → drained_of input (one w b.start b.end) ≡ drained_of input w
  unfolding drained_of drained_in goes_on
  drained-one w b e =
      let step : drained_in (suc (length input)) input w ≡ drained_in (length input) input (one w b.start b.end) = rw e in
      sym (enough (length input) (suc (length input)) w (omega arith) (omega arith) ∙ step)

pub enough-records : EnoughRecords
unfolding drained_of
enough-records most input w h = enough input most (length input) w (omega arith) (omega arith)

pub drains-coincide : DrainsCoincide
drains-coincide t p input old out u v r s new lines left output a b =
    let e : ◌≡◌ {A = Work} (record { table = u; place = r; lines = new; out = left }) (record { table = v; place = s; lines = lines; out = output }) = a.same ∙ sym b.same in
    (ap (λ (w : Work). w.table) e, ap (λ (w : Work). w.place) e, ap (λ (w : Work). w.lines) e, ap (λ (w : Work). w.out) e)

-- what the callees leave is one record more
pub one_more : (t u : Table) (p r : Place) (input old new out left : List ℕ) (i j : ℕ) (told : Option Reply)
    → Found p input (length old) i j → Handled t (take (j - i) (drop i input)) out u told left → Noted p j told old new r
    → ◌≡◌ {A = Work} (record { table = u; place = r; lines = new; out = left }) (one input (record { table = t; place = p; lines = old; out = out }) i j)
unfolding work_after
one_more t u p r input old new out left i j told f h n =
    let w : Work = record { table = t; place = p; lines = old; out = out } in
    let line : List ℕ = line_for w (asked out (take (j - i) (drop i input))) in
    let x = writes-put line_most p.used f.room n.line in
    let said : line_of p.number (said_told told) ≡ line = ap (line_of p.number) h.entry in
    let number : r.number ≡ p.number + 1 = omega (arith, f.number, n.number) in
    let used : r.used ≡ p.used + length line = x.place ∙ ap (λ (l : List ℕ). p.used + length l) said in
    let lines : new ≡ written p.used line old = x.same ∙ ap (λ (l : List ℕ). written p.used l old) said in
    λ k. record { table = h.table k; place = record { number = number k; at = n.place k; used = used k }; lines = lines k; out = h.output k }
