-- The same of a turn that lends the output from a place on, as the loop `fill` does: each law is a goal of it. Assumes nothing.
use Prim.Native.Nat.{ℕ, ◌+◌, ◌-◌, ◌≤◌, ◌<◌}
use mathlib.Core.Path.{◌≡◌, sym, ap, ◌∙◌, subst}
use mathlib.Core.List.{List, ◌++◌}
use native.Mathlib.Omega.{arith}
use lib.ListN.{length, take, drop, set, length-drop}
use lib.Seq.{length-take-le}
use borrow.Table.Elements.{length_app}
use borrow.Rule.Slice.PartMut.{put_mid}
use Rattle.std.proofs.lemmas.List.{drop_all, append-nil, take_rest}
use Rattle.refusal.specs.Checks.{Said}
use Rattle.calls.specs.Table.{Table}
use Rattle.calls.specs.Calls.{arriving, Answer, Result, result_of, Meets}
use Rattle.calls.specs.Told.{tell_arrival}
use Rattle.calls.specs.declared.ArrivalAnswer.{ArrivalAnswer}
use Rattle.batch.specs.Steps.{next_frame, added, length_put, cursor_after, Work, work_after, filled_of}
use Rattle.batch.specs.declared.Cursor.{Cursor}
use Rattle.batch.specs.Steps.{frame_at}
use Rattle.batch.proofs.Filling.{Whole, whole-after, left-falls, filled-one, meets-result}
use Rattle.batch.proofs.Fits.{turn-fits}

-- the output from k on, as it is lent; and the output with that end as the arrival left it
abbrev pub lent : (k : ℕ) (us : List ℕ) → List ℕ
lent k us = take (length us - k) (drop k us)

abbrev pub given_back : (k : ℕ) (us vs : List ℕ) → List ℕ
given_back k us vs = put_mid k (length us - k) us vs

back-is : (k : ℕ) (us vs : List ℕ) → given_back k us vs ≡ take k us ++ vs
back-is k us vs =
    let few : length (drop k us) ≤ length us - k = omega (arith, length-drop k us) in
    ap (λ (z : List ℕ). take k us ++ (vs ++ z)) (drop_all (length us - k) (drop k us) few) ∙ ap (λ (z : List ℕ). take k us ++ z) (append-nil vs)

back-length : (k : ℕ) (us vs : List ℕ) → k ≤ length us → length vs ≡ length (lent k us) → length (given_back k us vs) ≡ length us
back-length k us vs h e =
    ap (λ (z : List ℕ). length z) (back-is k us vs) ∙ length_app (take k us) vs
    ∙ (let p = length-take-le k us h in let q = length-drop k us in let r = ap (λ (z : List ℕ). length z) (take_rest us k) in omega (arith, e))

module _ (network : ℕ) (s : List ℕ) (t zs : Table) (c : Cursor) (us vs : List ℕ) (cs : List ArrivalAnswer) (i j k : ℕ) (a : Said Answer) (v : ArrivalAnswer)
    (whole : Whole s (length us) c) (sought : next_frame c s (length us) ≡ frame_at i j k) (inside : k ≤ length us)
    (met : Meets t (arriving network (take (j - i) (drop i s)) (lent k us)) (record { said = a; table = zs; output = vs }))
    (as_long : length vs ≡ length (lent k us)) (told : v ≡ tell_arrival a) where
  abbrev w : Work
  w = record { table = t; cursor = c; out = us; answers = cs }

  abbrev r : Result
  r = record { said = a; table = zs; output = vs }

  same : r ≡ result_of t (arriving network (take (j - i) (drop i s)) (drop k us))
  same =
      meets-result t (arriving network (take (j - i) (drop i s)) (lent k us)) r met
      ∙ ap (λ (z : List ℕ). result_of t (arriving network (take (j - i) (drop i s)) z)) (take_rest us k)

  -- what the frame adds fits
  pub adds_fit : c.used + added v ≤ length us
  adds_fit =
      subst (λ (e : ArrivalAnswer). c.used + added e ≤ length us) (ap (λ (z : Result). tell_arrival z.said) (sym same) ∙ sym told)
      (turn-fits t network (take (j - i) (drop i s)) us c s i j k sought whole.used)

  pub adds_inside : c.used + added v ≤ length (given_back k us vs)
  adds_inside = omega (arith, adds_fit, back-length k us vs inside as_long)

  module _ (d : Cursor) (us₂ : List ℕ) (cs₂ : List ArrivalAnswer) (put : us₂ ≡ length_put c.used v (given_back k us vs)) (kept : cs₂ ≡ set cs c.frames v) (moved : d ≡ cursor_after c j v) where
    made : ◌≡◌ {A = Work} (record { table = zs; cursor = d; out = us₂; answers = cs₂ }) (work_after w r j k)
    unfolding work_after
    made = rw (put, kept, moved, told, back-is)

    pub one-frame-more : filled_of network s (record { table = zs; cursor = d; out = us₂; answers = cs₂ }) ≡ filled_of network s w
    one-frame-more = ap (filled_of network s) (made ∙ ap (λ (z : Result). work_after w z j k) same) ∙ filled-one network s w i j k sought

    pub whole-still : length us₂ ≡ length (given_back k us vs) → Whole s (length us₂) d
    whole-still e =
        subst (λ (m : ℕ). Whole s m d) (sym (e ∙ back-length k us vs inside as_long))
        (subst (Whole s (length us)) (sym moved) (whole-after s (length us) c i j k v whole sought adds_fit))

-- fewer frames are left
pub fewer-left : (s : List ℕ) (room : ℕ) (c : Cursor) (i j k : ℕ) (v : ArrivalAnswer) (d : Cursor) → next_frame c s room ≡ frame_at i j k → d ≡ cursor_after c j v → d.left < c.left
fewer-left s room c i j k v d sought moved = subst (λ (z : Cursor). z.left < c.left) (sym moved) (left-falls s room c i j k v sought)
