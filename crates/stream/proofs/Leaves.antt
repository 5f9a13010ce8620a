-- What leaves at the last of several places up: the bit that stood that many places below place L - 1, and it counts if the
-- places for older numbers are used up by then. Assumes nothing.
use Rattle.std.proofs.Common.{◌≡◌, ℕ, zero, suc, ◌+◌, ◌-◌, ◌<◌, ◌≤◌, not, ◌&&◌, eqb, sym, ap, ◌∙◌, arith}
use lib.Dec.{eqb-suc-zero}
use Rattle.record.specs.Sizes.{window_most}
use Rattle.stream.specs.History.{History, bit, one, push, pushes, leaving, advance}
use Rattle.stream.proofs.Past.{set-bit, advance-high}

module _ (l : ℕ) (most : l ≤ window_most) where
  -- one place up, a bit stands one place higher
  pushed : (m : ℕ) (h : History) → suc m < l → bit (suc m) (push l h) ≡ bit m h
  unfolding advance pushes
  pushed m h b =
      let up : m + 1 ≡ suc m = omega arith in
      let a : bit (m + 1) (advance l 1 h) ≡ bit m h = advance-high l most 1 h m (omega arith) (omega arith) in
      let c : bit (suc m) (advance l 1 h) ≡ bit (suc m) (push l h) = set-bit l most 0 (suc m) (push l h) (omega arith) b ∙ rw eqb-suc-zero in
      sym c ∙ sym (ap (λ (k : ℕ). bit k (advance l 1 h)) up) ∙ a

  -- Sums and differences stand alone: `omega` splits every difference that it can see.
  less : (n d : ℕ) → n - 1 - d ≡ n - suc d
  less n d = omega arith

  below : (d : ℕ) → suc d < l → l - 1 - d ≡ suc (l - 1 - suc d)
  below d b = omega (arith, b)

  inside : (d : ℕ) → suc d < l → suc (l - 1 - suc d) < l
  inside d b = omega (arith, b)

  sooner : (d : ℕ) → suc d < l → d < l
  sooner d b = omega (arith, b)

  added : (a b c e f : ℕ) → b ≡ c + e → e ≡ f → a + b ≡ a + c + f
  added a b c e f p q = omega (arith, p, q)

  pub leaving-last : (d n : ℕ) (h : History) → d < l
      → leaving l (suc d) n h ≡ leaving l d n h + one (eqb (n - d) 0 && not (bit (l - 1 - d) h))
  unfolding leaving
  leaving-last zero n h b =
      let z : n - 0 ≡ n = omega arith in
      let y : l - 1 - 0 ≡ l - 1 = omega arith in
      rw (z, y) (omega arith)
  leaving-last (suc d) n h b =
      let p : bit (l - 1 - d) (push l h) ≡ bit (l - 1 - suc d) h = ap (λ (k : ℕ). bit k (push l h)) (below d b) ∙ pushed (l - 1 - suc d) h (inside d b) in
      let f : one (eqb (n - 1 - d) 0 && not (bit (l - 1 - d) (push l h))) ≡ one (eqb (n - suc d) 0 && not (bit (l - 1 - suc d) h)) = rw (less n d, p) in
      added _ _ _ _ _ (leaving-last d (n - 1) (push l h) (sooner d b)) f
