-- Order 10: what a record of a virtual link does is what demand 2 asks for. Assumes nothing.
use Prim.Native.Nat.{ℕ, zero, suc, ◌+◌, ◌-◌, ◌%◌, ◌≤◌, ◌<◌}
use mathlib.Core.Path.{◌≡◌, refl, sym, ◌∙◌}
use mathlib.Core.Bool.{Bool, true, false, not, ◌&&◌, ◌||◌, and-eq-true_iff, false≢true}
use native.Mathlib.Omega.{arith}
use lib.Dec.{eqb, ltb, leb}
use borrow.Author.Tests.{eqb-true, eqb-false, eq-eqb, ne_eqb, le-leb, leb-true, lt-ltb, le-ltb, ltb-true}
use Rattle.record.specs.declared.Stream.{Stream}
use Rattle.std.specs.Prelude.{if◌then◌else◌}
use Rattle.record.specs.Words.{yes}
use Rattle.record.specs.Sizes.{link_rule}
use Rattle.stream.specs.History.{empty, is_empty, bit}
use Rattle.stream.specs.Record.{linked, placed, shaped}
use Rattle.stream.specs.Decisions.{link_steps, link_up, link_case, case_of, verdict, state_after, out_of_order, losses, counts_after, decided}
use Rattle.stream.proofs.Past.{is-empty, empty-bit}
use Rattle.stream.proofs.Law.{Law}
use Rattle.demands.specs.Unlimited.{elem}
use Rattle.demands.specs.Demand2.{next_number, forward, link_passes, link_verdict, link_record}

-- ---- the ring: how many steps beyond the first one, from any last number, 0 too
abbrev beyond : (last number : ℕ) → ℕ
beyond last number = (number + 254 - last) % 255

first_step : (last n : ℕ) → last ≤ 255 → 1 ≤ n → n ≤ 255 → beyond last n ≡ 0 → n ≡ next_number last
first_step last n a b c e = go (eqb last 255) refl
  where
    go : (v : Bool) → eqb last 255 ≡ v → n ≡ next_number last
    go true p = let q : last ≡ 255 = eqb-true last 255 p in rw p (omega (arith, a, b, c, e, q))
    go false p = let q : last ≡ 255 → ⊥ = eqb-false last 255 p in rw p (omega (arith, a, b, c, e, q))

one_less : (last n m : ℕ) → last ≤ 255 → 1 ≤ n → n ≤ 255 → beyond last n ≡ suc m → (beyond (next_number last) n ≡ m) × (n ≡ next_number last → ⊥)
one_less last n m a b c e = go (eqb last 255) refl
  where
    go : (v : Bool) → eqb last 255 ≡ v → (beyond (next_number last) n ≡ m) × (n ≡ next_number last → ⊥)
    go true p = let q : last ≡ 255 = eqb-true last 255 p in rw p (omega (arith, a, b, c, e, q), λ f. omega (arith, a, b, c, e, q, f))
    go false p = let q : last ≡ 255 → ⊥ = eqb-false last 255 p in rw p (omega (arith, a, b, c, e, q), λ f. omega (arith, a, b, c, e, q, f))

next-most : (last : ℕ) → last ≤ 255 → next_number last ≤ 255
next-most last a = go (eqb last 255) refl
  where
    go : (v : Bool) → eqb last 255 ≡ v → next_number last ≤ 255
    go true p = rw p (omega arith)
    go false p = let q : last ≡ 255 → ⊥ = eqb-false last 255 p in rw p (omega (arith, a, q))

alike : (u v : Bool) → (u ≡ true → v ≡ true) → (v ≡ true → u ≡ true) → u ≡ v
alike true v f g = sym (f refl)
alike false true f g = g refl
alike false false f g = refl

both-less : (m k : ℕ) → ltb m k ≡ ltb (suc m) (suc k)
both-less m k = alike (ltb m k) (ltb (suc m) (suc k))
    (λ h. lt-ltb (suc m) (suc k) (let l : m < k = ltb-true m k h in omega (arith, l)))
    (λ h. lt-ltb m k (let l : suc m < suc k = ltb-true (suc m) (suc k) h in omega (arith, l)))

forward-is : (k last n : ℕ) → last ≤ 255 → 1 ≤ n → n ≤ 255 → elem n (forward k last) ≡ ltb (beyond last n) k
unfolding elem forward
forward-is zero last n a b c = sym (le-ltb (beyond last n) 0 (omega arith))
forward-is (suc k) last n a b c = go (beyond last n) refl (forward-is k (next_number last) n (next-most last a) b c)
  where
    go : (m : ℕ) → beyond last n ≡ m → elem n (forward k (next_number last)) ≡ ltb (beyond (next_number last) n) k
        → (eqb n (next_number last) || elem n (forward k (next_number last))) ≡ ltb (beyond last n) (suc k)
    go zero e h = rw (eq-eqb n (next_number last) (first_step last n a b c e)) (sym (lt-ltb (beyond last n) (suc k) (omega (arith, e))))
    go (suc m) e h = let p = one_less last n m a b c e in rw (ne_eqb n (next_number last) p.1, h, p.0, e) (both-less m k)

pub up_is : (last n : ℕ) → last ≤ 255 → n ≤ 255 → link_up last n ≡ (if eqb n 0 then not (eqb last 0) else elem n (forward 127 last))
unfolding link_up link_steps
up_is last n a b = go (eqb n 0) refl (eqb last 0) refl
  where
    steps : ℕ
    steps = (n + 255 - last) % 255

    go : (u : Bool) → eqb n 0 ≡ u → (v : Bool) → eqb last 0 ≡ v → link_up last n ≡ (if eqb n 0 then not (eqb last 0) else elem n (forward 127 last))
    go true p v q = rw p
    go false p true q =
        let z : n ≡ 0 → ⊥ = eqb-false n 0 p in
        let y : last ≡ 0 = eqb-true last 0 q in
        rw (p, q, forward-is 127 last n a (omega (arith, z)) b) (alike (leb n 127) (ltb (beyond last n) 127)
        (λ h. lt-ltb (beyond last n) 127 (let k : n ≤ 127 = leb-true _ _ h in omega (arith, b, z, y, k)))
        (λ h. le-leb n 127 (let k : beyond last n < 127 = ltb-true _ _ h in omega (arith, b, z, y, k))))
    go false p false q =
        let z : n ≡ 0 → ⊥ = eqb-false n 0 p in
        let y : last ≡ 0 → ⊥ = eqb-false last 0 q in
        rw (p, q, forward-is 127 last n a (omega (arith, z)) b) (alike (leb 1 steps && leb steps 127) (ltb (beyond last n) 127)
        (λ h. lt-ltb (beyond last n) 127 (let g = (and-eq-true_iff (leb 1 steps) (leb steps 127)).0 h in let k : 1 ≤ steps = leb-true _ _ g.0 in let l : steps ≤ 127 = leb-true _ _ g.1 in omega (arith, a, b, z, y, k, l)))
        (λ h. let k : beyond last n < 127 = ltb-true _ _ h in (and-eq-true_iff (leb 1 steps) (leb steps 127)).1 (le-leb 1 steps (omega (arith, a, b, z, y, k)), le-leb steps 127 (omega (arith, a, b, z, y, k)))))

-- ---- a lawful record of rule 3 without take-any: history zero, n is 0, and the last number is at most 255
module _ (s : Stream) (lawful : Law s) (r : s.rule ≡ link_rule) where
  shape_is : yes s.state.any ≡ false → (s.state.history ≡ empty) × (s.state.anchor ≤ 255)
  unfolding shaped linked
  shape_is a =
      let p = (and-eq-true_iff (is_empty s.state.history) (leb s.state.anchor 255)).0 (rw (a, r) at lawful.shape) in
      (is-empty s.state.history p.0, leb-true _ _ p.1)

  none-early : s.state.history ≡ empty → s.state.early ≡ 0
  unfolding placed
  none-early h =
      let e = rw h at lawful.place in
      let p = (and-eq-true_iff (leb s.state.early (s.window - 1)) (eqb s.state.early 0 || bit (s.window - 1 - s.state.early) empty)).0 e in
      go (eqb s.state.early 0) refl p.1
    where
      go : (b : Bool) → eqb s.state.early 0 ≡ b → (eqb s.state.early 0 || bit (s.window - 1 - s.state.early) empty) ≡ true → s.state.early ≡ 0
      go true q f = eqb-true s.state.early 0 q
      go false q f = absurd (false≢true (sym (empty-bit (s.window - 1 - s.state.early)) ∙ (rw q at f)))

  module _ (n network : ℕ) (l : n ≤ 255) where
    passes-is : yes s.state.any ≡ false → link_passes s n ≡ link_up s.state.anchor n
    unfolding link_passes
    passes-is a = rw a (sym (up_is s.state.anchor n (shape_is a).1 l))

    any-passes : yes s.state.any ≡ true → link_passes s n ≡ true
    unfolding link_passes
    any-passes a = rw a

    pub link-decides : (verdict s n ≡ link_verdict s n) × (decided s n network ≡ link_record s n network)
    unfolding verdict decided case_of link_case state_after out_of_order losses counts_after
    link-decides = go (yes s.state.any) refl (link_up s.state.anchor n) refl
      where
        go : (a : Bool) → yes s.state.any ≡ a → (b : Bool) → link_up s.state.anchor n ≡ b
            → (verdict s n ≡ link_verdict s n) × (decided s n network ≡ link_record s n network)
        go true a b u = rw (any-passes a, a, r) (refl, refl)
        go false a true u =
            let h = (shape_is a).0 in
            let e = none-early h in
            rw (passes-is a, a, r, u, h, e) (refl, refl)
        go false a false u = rw (passes-is a, a, r, u) (refl, refl)
