-- A turn of the loop `fill`, put together: what its calls said of one frame is one frame more of `filled_of`. Assumes nothing.
use Prim.Native.Nat.{ℕ, ◌+◌, ◌-◌, ◌≤◌}
use mathlib.Core.Path.{◌≡◌, sym, ap, ◌∙◌, subst}
use mathlib.Core.List.{List, ◌++◌}
use native.Mathlib.Omega.{arith}
use lib.ListN.{length, take, drop, set, length-drop}
use lib.Seq.{length-take-le}
use borrow.Table.Elements.{length_app}
use Rattle.refusal.specs.Checks.{Said}
use Rattle.calls.specs.Table.{Table}
use Rattle.calls.specs.Calls.{arriving, Answer, Result, result_of, Meets}
use Rattle.calls.specs.Told.{tell_arrival}
use Rattle.calls.specs.declared.ArrivalAnswer.{ArrivalAnswer}
use Rattle.batch.specs.Steps.{next_frame, added, length_put, cursor_after, Work, work_after, filled_of}
use Rattle.batch.specs.declared.Cursor.{Cursor}
use Rattle.batch.specs.Steps.{frame_at}
use Rattle.batch.proofs.Filling.{filled-one, meets-result}
use Rattle.batch.proofs.Fits.{turn-fits}

module _ (network : ℕ) (s : List ℕ) (t zs : Table) (c : Cursor) (us vs : List ℕ) (cs : List ArrivalAnswer) (i j k : ℕ) (a : Said Answer) (v : ArrivalAnswer)
    (sought : next_frame c s (length us) ≡ frame_at i j k)
    (met : Meets t (arriving network (take (j - i) (drop i s)) (drop k us)) (record { said = a; table = zs; output = vs }))
    (told : v ≡ tell_arrival a) where
  abbrev w : Work
  w = record { table = t; cursor = c; out = us; answers = cs }

  abbrev r : Result
  r = record { said = a; table = zs; output = vs }

  same : r ≡ result_of t (arriving network (take (j - i) (drop i s)) (drop k us))
  same = meets-result t (arriving network (take (j - i) (drop i s)) (drop k us)) r met

  -- what the frame adds fits
  pub adds_fit : c.used ≤ length us → c.used + added v ≤ length us
  adds_fit h =
      subst (λ (e : ArrivalAnswer). c.used + added e ≤ length us) (ap (λ (z : Result). tell_arrival z.said) (sym same) ∙ sym told)
      (turn-fits t network (take (j - i) (drop i s)) us c s i j k sought h)

  made : (b : Cursor) (us₃ : List ℕ) (cs₂ : List ArrivalAnswer) → us₃ ≡ length_put c.used v (take k us ++ vs) → cs₂ ≡ set cs c.frames v → b ≡ cursor_after c j v
      → ◌≡◌ {A = Work} (record { table = zs; cursor = b; out = us₃; answers = cs₂ }) (work_after w r j k)
  unfolding work_after
  made b us₃ cs₂ put kept moved = rw (put, kept, moved, told)

  pub one-frame-more : (b : Cursor) (us₃ : List ℕ) (cs₂ : List ArrivalAnswer)
      → us₃ ≡ length_put c.used v (take k us ++ vs) → cs₂ ≡ set cs c.frames v → b ≡ cursor_after c j v
      → filled_of network s (record { table = zs; cursor = b; out = us₃; answers = cs₂ }) ≡ filled_of network s w
  one-frame-more b us₃ cs₂ put kept moved =
      ap (filled_of network s) (made b us₃ cs₂ put kept moved ∙ ap (λ (z : Result). work_after w z j k) same)
      ∙ filled-one network s w i j k sought

-- the output with its end as the arrival left it is as long as it was
pub tail-length : (k : ℕ) (us vs : List ℕ) → k ≤ length us → length vs ≡ length (drop k us) → length (take k us ++ vs) ≡ length us
tail-length k us vs h e =
    length_app (take k us) vs
    ∙ (let p = length-take-le k us h in let q = length-drop k us in omega (arith, e))
