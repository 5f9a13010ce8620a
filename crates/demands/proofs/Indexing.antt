-- Order 9: the runs of a program with an index are runs of steps. Assumes nothing.
use mathlib.Core.Path.{◌≡◌, refl, ap, sym, ◌∙◌}
use mathlib.Core.Bool.{Bool, true, false, cond, false≢true}
use mathlib.Core.List.{[], ◌∷◌}
use lib.Dec.{ltb}
use lib.ListN.{length}
use Rattle.refusal.specs.Checks.Said.{refused}
use Rattle.refusal.specs.Numbers.{INDEX}
use Rattle.record.specs.Sizes.{slots_most}
use Rattle.calls.specs.Table.{Table}
use Rattle.calls.specs.Calls.{Call, refuse, arriving, linking, opening, closing, resetting, ticking, act, after, answer, output, out_of, Result}
use Rattle.index.specs.Index.{Index, indexed}
use Rattle.index.specs.Indexed.{guarded, index_after, rebuilt_by, MeetsIndexed}
use Rattle.receiver.proofs.Closing.{close-stores, no_output}
use Rattle.receiver.proofs.Opening.{open-stores}
use Rattle.batch.specs.Batch.{Batch, Bundle, comes_to, bundle, batch_of}
use Rattle.batch.specs.Told.{tell_batch}
use Rattle.batch.specs.Indexed.{comes_with, batch_by}
use Rattle.demands.specs.Steps.{Step, single, batch, the_machine, table_of, ran_steps, Got, result, told, left_by, EnsuredStep, given_all}
use Rattle.demands.proofs.Stepping as stepping
use Rattle.demands.specs.Indexed.{step, rebuilds, unfits, drops, index_by, steps_of, got, made, EnsuredBy, EnsuredAll, plainly, IndexedCoincide, refused_step, LeftOutClaimNothing, table_by, IndexedAreSteps}

-- ---- 18 does not refuse: it is the call as without the index
fit-guarded : (ix : Index) (t : Table) (c : Call) → unfits ix t ≡ false → guarded ix t c ≡ act t c
unfolding guarded act
fit-guarded ix t c e = go (ltb slots_most (length t)) refl (indexed ix t) refl
  where
    go : (a : Bool) → ltb slots_most (length t) ≡ a → (b : Bool) → indexed ix t ≡ b → guarded ix t c ≡ act t c
    go true p b q = rw p refl
    go false p true q = rw (p, q) refl
    go false p false q = absurd (false≢true (sym e ∙ rw (p, q) refl))

fit-batch : (ix : Index) (t : Table) (b : Batch) → unfits ix t ≡ false → batch_by ix t b ≡ batch_of t b
unfolding batch_by comes_with batch_of comes_to
fit-batch ix t b e = go (ltb slots_most (length t)) refl (indexed ix t) refl
  where
    go : (a : Bool) → ltb slots_most (length t) ≡ a → (c : Bool) → indexed ix t ≡ c → batch_by ix t b ≡ batch_of t b
    go true p c q = rw p refl
    go false p true q = rw (p, q) refl
    go false p false q = absurd (false≢true (sym e ∙ rw (p, q) refl))

-- ---- and where it does
unfit-both : (ix : Index) (t : Table) → unfits ix t ≡ true → (ltb slots_most (length t) ≡ false) × (indexed ix t ≡ false)
unfit-both ix t e = go (ltb slots_most (length t)) refl (indexed ix t) refl
  where
    go : (a : Bool) → ltb slots_most (length t) ≡ a → (b : Bool) → indexed ix t ≡ b → (ltb slots_most (length t) ≡ false) × (indexed ix t ≡ false)
    go true p b q = absurd (false≢true (sym (rw p refl) ∙ e))
    go false p true q = absurd (false≢true (sym (rw (p, q) refl) ∙ e))
    go false p false q = (p, q)

unfit-guarded : (ix : Index) (t : Table) (c : Call) → unfits ix t ≡ true → guarded ix t c ≡ refuse INDEX
unfolding guarded
unfit-guarded ix t c e = let f = unfit-both ix t e in rw (f.0, f.1) refl

unfit-batch : (ix : Index) (t : Table) (b : Batch) → unfits ix t ≡ true → batch_by ix t b ≡ bundle t b.out (refused INDEX)
unfolding batch_by comes_with
unfit-batch ix t b e = let f = unfit-both ix t e in rw (f.0, f.1) refl

module _ (ix : Index) (t : Table) (c : Call) (jx : Index) (r : Result) (m : MeetsIndexed ix t c (record { said = r.said; table = r.table; index = jx })) where
  fits : unfits ix t ≡ false → (r.said ≡ answer t (act t c)) × ((r.table ≡ after t (act t c)) × (jx ≡ index_after ix t (act t c)))
  fits e = let g = fit-guarded ix t c e in (m.said ∙ ap (answer t) g, (m.table ∙ ap (after t) g, m.index ∙ ap (index_after ix t) g))

  leaves : unfits ix t ≡ true → r.output ≡ out_of c → (result r ≡ refused_step INDEX t (single c)) × (jx ≡ ix)
  unfolding answer after index_after
  leaves e o =
      let g = unfit-guarded ix t c e in
      let a : r.said ≡ refused INDEX = m.said ∙ ap (answer t) g in
      let u : r.table ≡ t = m.table ∙ ap (after t) g in
      ((λ i. result (record { said = a i; table = u i; output = o i })), m.index ∙ ap (index_after ix t) g)

plain : (ix : Index) (t : Table) (s : Step) (g : Got) (jx : Index) → drops ix t s ≡ false → EnsuredBy ix t s g jx → EnsuredStep t s g × (jx ≡ index_by ix t s)
unfolding drops index_by
plain ix t (single (arriving network f out)) (result r) jx e m = m
plain ix t (single (linking network f out)) (result r) jx e m = m
plain ix t (single (opening dest vlan rule window time)) (result r) jx e (m, o) =
    let w : r.output ≡ output t [] (act t (opening dest vlan rule window time)) = o ∙ sym (no_output t (open-stores t dest vlan rule window time)) in
    let f = fits ix t (opening dest vlan rule window time) jx r m e in
    (record { said = f.0; table = f.1.0; output = w }, f.1.1)
plain ix t (single (closing i)) (result r) jx e (m, o) =
    let w : r.output ≡ output t [] (act t (closing i)) = o ∙ sym (no_output t (close-stores t i)) in
    let f = fits ix t (closing i) jx r m e in
    (record { said = f.0; table = f.1.0; output = w }, f.1.1)
plain ix t (single (resetting i)) (result r) jx e m = m
plain ix t (single ticking) (result r) jx e m = m
plain ix t (single (arriving network f out)) (told a rows bytes) jx e m = absurd m
plain ix t (single (linking network f out)) (told a rows bytes) jx e m = absurd m
plain ix t (single (opening dest vlan rule window time)) (told a rows bytes) jx e m = absurd m
plain ix t (single (closing i)) (told a rows bytes) jx e m = absurd m
plain ix t (single (resetting i)) (told a rows bytes) jx e m = absurd m
plain ix t (single ticking) (told a rows bytes) jx e m = absurd m
plain ix t (batch b) (result r) jx e m = absurd m
plain ix t (batch b) (told a rows bytes) jx e (m, k) =
    let g = fit-batch ix t b e in
    (record { said = m.said ∙ ap tell_batch g; table = m.table ∙ ap (λ (z : Bundle). z.table) g; output = m.output ∙ ap (λ (z : Bundle). z.output) g }, k)

pub left-out-claim-nothing : LeftOutClaimNothing
unfolding drops bundle
left-out-claim-nothing ix t (single (arriving network f out)) g jx e m = absurd (false≢true e)
left-out-claim-nothing ix t (single (linking network f out)) g jx e m = absurd (false≢true e)
left-out-claim-nothing ix t (single (opening dest vlan rule window time)) (result r) jx e (m, o) = leaves ix t (opening dest vlan rule window time) jx r m e o
left-out-claim-nothing ix t (single (closing i)) (result r) jx e (m, o) = leaves ix t (closing i) jx r m e o
left-out-claim-nothing ix t (single (opening dest vlan rule window time)) (told a rows bytes) jx e m = absurd m
left-out-claim-nothing ix t (single (closing i)) (told a rows bytes) jx e m = absurd m
left-out-claim-nothing ix t (single (resetting i)) g jx e m = absurd (false≢true e)
left-out-claim-nothing ix t (single ticking) g jx e m = absurd (false≢true e)
left-out-claim-nothing ix t (batch b) (result r) jx e m = absurd m
left-out-claim-nothing ix t (batch b) (told a rows bytes) jx e (m, k) =
    let g = unfit-batch ix t b e in
    let s = m.said ∙ ap tell_batch g in let u = m.table ∙ ap (λ (z : Bundle). z.table) g in let o = m.output ∙ ap (λ (z : Bundle). z.output) g in
    ((λ i. told (s i) (u i) (o i)), k)

-- so the table stays
dropped : (ix : Index) (t : Table) (s : Step) (g : Got) (jx : Index) → drops ix t s ≡ true → EnsuredBy ix t s g jx → (left_by g ≡ t) × (jx ≡ ix)
dropped ix t s g jx e m = let c = left-out-claim-nothing ix t s g jx e m in (ap left_by c.0 ∙ kept s, c.1)
  where
    kept : (s : Step) → left_by (refused_step INDEX t s) ≡ t
    kept (single c) = refl
    kept (batch b) = refl

after-step : (t : Table) (s : Step) (g : Got) → EnsuredStep t s g → left_by g ≡ table_of the_machine t s
after-step t s g e = ap left_by (stepping.got t s g e) ∙ stepping.left t s

-- ---- runs
pub indexed-coincide : IndexedCoincide
unfolding EnsuredAll plainly steps_of given_all rebuilt_by
indexed-coincide ix t [] [] m = refl
indexed-coincide ix t [] (g ∷ gs) m = absurd m
indexed-coincide ix t (d ∷ ds) [] m = absurd m
indexed-coincide ix t (step s ∷ ds) (made w jx ∷ gs) m = absurd m.0
indexed-coincide ix t (rebuilds ∷ ds) (got g jx ∷ gs) m = absurd m.0
indexed-coincide ix t (rebuilds ∷ ds) (made w jx ∷ gs) (m, ms) = indexed-coincide jx t ds gs ms ∙ ap (λ (x : Index). given_all the_machine t (steps_of x t ds)) m.index
indexed-coincide ix t (step s ∷ ds) (got g jx ∷ gs) (m, ms) = go (drops ix t s) refl (indexed-coincide jx (left_by g) ds gs ms)
  where
    go : (b : Bool) → drops ix t s ≡ b → plainly jx (left_by g) ds gs ≡ given_all the_machine (left_by g) (steps_of jx (left_by g) ds)
        → cond (drops ix t s) (plainly jx (left_by g) ds gs) (g ∷ plainly jx (left_by g) ds gs)
        ≡ given_all the_machine t (cond (drops ix t s) (steps_of ix t ds) (s ∷ steps_of (index_by ix t s) (table_of the_machine t s) ds))
    go true e f = let k = dropped ix t s g jx e m in rw e (f ∙ (λ j. given_all the_machine (k.0 j) (steps_of (k.1 j) (k.0 j) ds)))
    go false e f =
        let k = plain ix t s g jx e m in let l = after-step t s g k.0 in
        rw e (λ j. stepping.got t s g k.0 j ∷ (f ∙ (λ i. given_all the_machine (l i) (steps_of (k.1 i) (l i) ds))) j)

pub indexed-are-steps : IndexedAreSteps
unfolding EnsuredAll table_by steps_of ran_steps rebuilt_by
indexed-are-steps ix t [] [] m = refl
indexed-are-steps ix t [] (g ∷ gs) m = absurd m
indexed-are-steps ix t (d ∷ ds) [] m = absurd m
indexed-are-steps ix t (step s ∷ ds) (made w jx ∷ gs) m = absurd m.0
indexed-are-steps ix t (rebuilds ∷ ds) (got g jx ∷ gs) m = absurd m.0
indexed-are-steps ix t (rebuilds ∷ ds) (made w jx ∷ gs) (m, ms) = indexed-are-steps jx t ds gs ms ∙ ap (λ (x : Index). ran_steps the_machine t (steps_of x t ds)) m.index
indexed-are-steps ix t (step s ∷ ds) (got g jx ∷ gs) (m, ms) = indexed-are-steps jx (left_by g) ds gs ms ∙ go (drops ix t s) refl
  where
    go : (b : Bool) → drops ix t s ≡ b → ran_steps the_machine (left_by g) (steps_of jx (left_by g) ds)
        ≡ ran_steps the_machine t (cond (drops ix t s) (steps_of ix t ds) (s ∷ steps_of (index_by ix t s) (table_of the_machine t s) ds))
    go true e = let k = dropped ix t s g jx e m in rw e (λ j. ran_steps the_machine (k.0 j) (steps_of (k.1 j) (k.0 j) ds))
    go false e =
        let k = plain ix t s g jx e m in let l = after-step t s g k.0 in
        rw e (λ i. ran_steps the_machine (l i) (steps_of (k.1 i) (l i) ds))
