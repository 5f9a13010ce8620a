-- A batch in two parts: its turns are those of the first and then those of the second. Assumes nothing.
use Prim.Native.Nat.{ℕ, zero, suc, ◌+◌, ◌≤◌}
use mathlib.Core.Path.{◌≡◌, refl, sym, ap, ◌∙◌}
use mathlib.Core.Bool.{Bool, true, false, cond}
use mathlib.Core.List.{List, [], ◌∷◌, ◌++◌, append_assoc}
use native.Mathlib.Nat.{zero-add, suc-add}
use native.Mathlib.Omega.{arith}
use lib.Dec.{ltb}
use lib.ListN.{length, take, drop, length-append}
use lib.Seq.{drop-drop}
use Rattle.frame.specs.Bytes.{word}
use Rattle.calls.specs.Table.{Table}
use Rattle.calls.specs.Calls.{Result, result_of}
use Rattle.calls.proofs.Kept.{length-kept}
use Rattle.batch.specs.Batch.{runs_past, frames_in, adds, ends, Turn, turn_of, single, turns_in, table_after, packed, before}
use Rattle.batch.specs.Laws.{input_behind}
use Rattle.batch.proofs.Lengths.{neither}

-- ---- the frames

pub past-second : (m n : ℕ) (s : List ℕ) → runs_past (m + n) s ≡ false → runs_past n (input_behind m s) ≡ false
unfolding runs_past input_behind
past-second zero n s e = rw zero-add at e
past-second (suc m) n s e =
    let p = neither (ltb (length s) (2 + word s 0)) (runs_past (m + n) (drop (2 + word s 0) s)) (rw suc-add at e) in
    past-second m n (drop (2 + word s 0) s) p.1

-- ---- the turns: where all m of the first part came before

pub no-later : (us : List Turn) → before us ≤ length us
unfolding before
no-later [] = omega arith
no-later (u ∷ us) = go (ends u.result.said) (no-later us)
  where
    go : (b : Bool) → before us ≤ length us → cond b 0 (suc (before us)) ≤ suc (length us)
    go true h = omega arith
    go false h = omega arith

all-before : (u : Turn) (us : List Turn) (m : ℕ) → before (u ∷ us) ≡ suc m → (ends u.result.said ≡ false) × (before us ≡ m)
unfolding before
all-before u us m e = go (ends u.result.said) refl e
  where
    go : (b : Bool) → ends u.result.said ≡ b → cond b 0 (suc (before us)) ≡ suc m → (ends u.result.said ≡ false) × (before us ≡ m)
    go true p e = absurd (omega arith)
    go false p e = (p, omega arith)

pub before-append : (us vs : List Turn) → before us ≡ length us → before (us ++ vs) ≡ length us + before vs
unfolding before
before-append [] vs e = sym (zero-add (before vs))
before-append (u ∷ us) vs e =
    let p = all-before u us (length us) e in
    rw (p.0, suc-add) (ap suc (before-append us vs p.1))

pub packed-append : (us vs : List Turn) → packed (us ++ vs) ≡ packed us ++ packed vs
unfolding packed
packed-append [] vs = refl
packed-append (u ∷ us) vs = rw (packed-append us vs, append_assoc)

pub table-append : (t : Table) (us vs : List Turn) → table_after t (us ++ vs) ≡ table_after (table_after t us) vs
unfolding table_after
table-append t [] vs = refl
table-append t (u ∷ us) vs = table-append u.result.table us vs

module _ (network : ℕ) where
  pub table-long : (t : Table) (left : List ℕ) (fs : List (List ℕ)) → length (table_after t (turns_in network t left fs)) ≡ length t
  unfolding turns_in table_after
  table-long t left [] = refl
  table-long t left (f ∷ fs) =
      let r : Result = result_of t (single network f left) in
      let us = turns_in network r.table (drop (length (adds r)) left) fs in
      let k = length-kept t (single network f left) in
      go (ends r.said) r.table us (table-long r.table (drop (length (adds r)) left) fs ∙ k) k
    where
      go : (b : Bool) (u : Table) (us : List Turn) → length (table_after u us) ≡ length t → length u ≡ length t → length (table_after u (cond b [] us)) ≡ length t
      go true u us p q = q
      go false u us p q = p

  pub in_two : (m n : ℕ) (t : Table) (left s : List ℕ) → before (turns_in network t left (frames_in m s)) ≡ m
      → turns_in network t left (frames_in (m + n) s)
      ≡ turns_in network t left (frames_in m s)
      ++ turns_in network (table_after t (turns_in network t left (frames_in m s))) (drop (length (packed (turns_in network t left (frames_in m s)))) left) (frames_in n (input_behind m s))
  unfolding turns_in frames_in table_after packed input_behind
  in_two zero n t left s e = rw zero-add
  in_two (suc m) n t left s e =
      let r : Result = result_of t (single network (take (word s 0) (drop 2 s)) left) in
      let rest : List ℕ = drop (2 + word s 0) s in
      let behind : List ℕ = drop (length (adds r)) left in
      let us = turns_in network r.table behind (frames_in m rest) in
      let p = all-before (turn_of t (single network (take (word s 0) (drop 2 s)) left)) (cond (ends r.said) [] us) m e in
      let q : before us ≡ m = rw p.0 at p.1 in
      rw (suc-add, p.0, length-append, ← drop-drop (length (packed us)) (length (adds r)) left) (ap (λ (l : List Turn). turn_of t (single network (take (word s 0) (drop 2 s)) left) ∷ l) (in_two m n r.table behind rest q))
