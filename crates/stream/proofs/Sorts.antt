-- The code's tests on the integer d pick the case of the definitions. Assumes nothing.
use Rattle.std.proofs.Common.{◌≡◌, ℕ, zero, suc, ◌<◌, ◌≤◌, true, false, eqb, pos, nat_abs, refl, ◌∙◌, arith, lt-ltb, eqb-true, leb-true}
use lib.Signed.{le_z}
use Rattle.std.specs.Prelude.{if◌then◌else◌}
use Rattle.record.specs.Words.{yes}
use Rattle.record.specs.Sizes.{vector_rule, link_rule}
use Rattle.stream.specs.History.{History, bit}
use Rattle.stream.specs.Record.{Stream}
use Rattle.stream.specs.Decisions.{Signed, ahead, behind, as_int, difference, again, late, moved, vector_case, match_case, link_up, link_case, case_of}
use Rattle.stream.proofs.Reading.{Forward, isℤ}

-- By take-any and the rule.
module _ (s : Stream) (n : ℕ) where
  pub case-vector : yes s.state.any ≡ false → eqb s.rule vector_rule ≡ true
      → case_of s n ≡ vector_case s.window s.state.history (difference n s.state.anchor)
  unfolding case_of
  case-vector a r = rw (a, r)

  pub case-match : yes s.state.any ≡ false → eqb s.rule vector_rule ≡ false → eqb s.rule link_rule ≡ false
      → case_of s n ≡ match_case (difference n s.state.anchor)
  unfolding case_of
  case-match a r l = rw (a, r, l)

module _ (s : Stream) (n : ℕ) where
  pub case-link : yes s.state.any ≡ false → s.rule ≡ link_rule → case_of s n ≡ link_case s.state.anchor n
  unfolding case_of
  case-link a r = rw (a, r)

  pub link-yes : yes s.state.any ≡ false → s.rule ≡ link_rule → true ≡ link_up s.state.anchor n → case_of s n ≡ moved true
  unfolding link_case
  link-yes a r u = case-link a r ∙ rw (← u)

  pub link-no : yes s.state.any ≡ false → s.rule ≡ link_rule → false ≡ link_up s.state.anchor n → case_of s n ≡ again
  unfolding link_case
  link-no a r u = case-link a r ∙ rw (← u)

-- Vector.
module _ (w : ℕ) (h : History) where
  -- d from -(L-1) to 0
  pub in-past : (x : Signed) → Forward x → nat_abs (as_int x) < w → le_z (as_int x) (pos 0) ≡ true
      → vector_case w h x ≡ (if bit (nat_abs (as_int x)) h then again else late (nat_abs (as_int x)))
  unfolding vector_case
  in-past (ahead zero) f n e = absurd (omega arith)
  in-past (ahead (suc d)) f n e = let b : suc d ≤ 0 = leb-true (suc d) 0 e in absurd (omega arith)
  in-past (behind zero) f n e = rw (lt-ltb 0 w n)
  in-past (behind (suc k)) f n e = rw (lt-ltb (suc k) w n)

-- Match.
pub match-same : (x : Signed) → Forward x → isℤ (as_int x) 0 ≡ true → match_case x ≡ again
unfolding match_case
match-same (ahead zero) f e = absurd (omega arith)
match-same (ahead (suc d)) f e = let b : suc d ≡ 0 = eqb-true (suc d) 0 e in absurd (omega arith)
match-same (behind zero) f e = refl
match-same (behind (suc k)) f e = cc
