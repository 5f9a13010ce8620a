-- Virtual links: the steps in the ring of 255 numbers, without a division. Assumes nothing.
use Rattle.std.proofs.Common.{◌≡◌, ℕ, ◌+◌, ◌-◌, ◌%◌, ◌<◌, ◌≤◌, Bool, true, false, not, ◌&&◌, eqb, leb, sym, refl, ◌∙◌, arith, eq-eqb, ne_eqb, eqb-true, le-leb, leb-true}
use mathlib.Core.Bool.{and-eq-true_iff}
use borrow.Author.Tests.{eqb-false, lt-leb}
use Rattle.stream.specs.Decisions.{link_steps, link_up}

alike : (u v : Bool) → (u ≡ true → v ≡ true) → (v ≡ true → u ≡ true) → u ≡ v
alike true v f g = sym (f refl)
alike false true f g = g refl
alike false false f g = refl

module _ (last number : ℕ) where
  pub zero-up : number ≡ 0 → not (eqb last 0) ≡ link_up last number
  unfolding link_up
  zero-up e = rw (eq-eqb number 0 e)

  by-steps : 1 ≤ number → 1 ≤ last → link_up last number ≡ (leb 1 ((number + 255 - last) % 255) && leb ((number + 255 - last) % 255) 127)
  unfolding link_up link_steps
  by-steps a b = rw (ne_eqb number 0 (λ e. omega (arith, a, e)), ne_eqb last 0 (λ e. omega (arith, b, e)))

  after-zero : 1 ≤ number → last ≡ 0 → link_up last number ≡ leb number 127
  unfolding link_up
  after-zero a e = rw (ne_eqb number 0 (λ z. omega (arith, a, z)), eq-eqb last 0 e)

  -- a test that says whether the steps are one to 127
  as-steps : 1 ≤ number → 1 ≤ last → (b : Bool) → (b ≡ true → (1 ≤ (number + 255 - last) % 255) × ((number + 255 - last) % 255 ≤ 127))
      → ((1 ≤ (number + 255 - last) % 255) → ((number + 255 - last) % 255 ≤ 127) → b ≡ true) → b ≡ link_up last number
  as-steps a l b to from =
      alike b _
      (λ h. let p = to h in (and-eq-true_iff (leb 1 ((number + 255 - last) % 255)) (leb ((number + 255 - last) % 255) 127)).1 (le-leb _ _ p.0, le-leb _ _ p.1))
      (λ h. let p = (and-eq-true_iff (leb 1 ((number + 255 - last) % 255)) (leb ((number + 255 - last) % 255) 127)).0 h in from (leb-true _ _ p.0) (leb-true _ _ p.1))
      ∙ sym (by-steps a l)

  pub ahead-up : last < number → number ≤ 255 → leb (number - last) 127 ≡ link_up last number
  ahead-up h m = go (eqb last 0) refl
    where
      go : (b : Bool) → eqb last 0 ≡ b → leb (number - last) 127 ≡ link_up last number
      go true e = let z : last ≡ 0 = eqb-true last 0 e in let y : number - last ≡ number = omega (arith, z) in rw y (sym (after-zero (omega (arith, h)) z))
      go false e =
          let z : last ≡ 0 → ⊥ = eqb-false last 0 e in
          as-steps (omega (arith, h)) (omega (arith, z)) (leb (number - last) 127)
          (λ t. let k : number - last ≤ 127 = leb-true _ _ t in (omega (arith, h, m, z, k), omega (arith, h, m, z, k)))
          (λ p q. le-leb (number - last) 127 (omega (arith, h, m, z, p, q)))

  pub behind-up : number ≤ last → last ≤ 255 → 1 ≤ number → leb 128 (last - number) ≡ link_up last number
  behind-up h m a =
      as-steps a (omega (arith, h, a)) (leb 128 (last - number))
      (λ t. let k : 128 ≤ last - number = leb-true _ _ t in (omega (arith, h, m, a, k), omega (arith, h, m, a, k)))
      (λ p q. le-leb 128 (last - number) (omega (arith, h, m, a, p, q)))

  pub none-up : 255 < number → last ≡ 0 → false ≡ link_up last number
  none-up h z = sym (after-zero (omega (arith, h)) z ∙ lt-leb number 127 (omega (arith, h)))

  pub same-steps : 255 < number → (last ≡ 0 → ⊥) → (number + 255 - last) % 255 < 1 → false ≡ link_up last number
  same-steps h z s = as-steps (omega (arith, h)) (omega (arith, z)) false (λ t. absurd (let y : ◌≡◌ {A = ℕ} 0 1 = cc in omega (arith, y))) (λ p q. absurd (omega (arith, s, p)))

  pub far-steps : 255 < number → (last ≡ 0 → ⊥) → 1 ≤ (number + 255 - last) % 255 → leb ((number + 255 - last) % 255) 127 ≡ link_up last number
  far-steps h z s = as-steps (omega (arith, h)) (omega (arith, z)) _ (λ t. (s, leb-true _ _ t)) (λ p q. le-leb _ _ q)
