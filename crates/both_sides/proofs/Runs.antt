-- The runs with numbers compute. Assumes nothing.
use mathlib.Core.Path.{◌≡◌, refl, sym, ap, ◌∙◌}
use Prim.Native.Nat.{ℕ}
use native.Mathlib.Omega.{arith}
use mathlib.Core.Logic.{◌⊎◌, inl, inr, ⊎_elim}
use mathlib.Core.Option.{some}
use mathlib.Core.List.{List, head-eq_of_cons-eq, tail-eq_of_cons-eq}
use lib.Dec.{lit≤}
use Rattle.demands.specs.StepExamples.{bare}
use Rattle.demands.proofs.Computing.{computing}
use Rattle.frame.specs.Frame.{number_in}
use Rattle.sender.specs.Runs.{Pair, nth}
use Rattle.sender.proofs.Computed.{computing as sending}
use Rattle.both_sides.specs.Copies.{frames_heard, CopiesOf}
use Rattle.both_sides.specs.Examples.{into, from_wrap, four_sent, they_come, their_indices, quiet, WrapSent, PremisesSentNeeded}

pub wrap-sent : WrapSent
unfolding computing sending bare nth frames_heard CopiesOf into from_wrap four_sent they_come their_indices
wrap-sent = record {
  premises = record {
    vector = refl;
    silent = record { lawful = refl; long = lit≤ tt; calm = refl };
    lasts = refl;
    from-sender = record {
      sends = record { sixteen = lit≤ tt; whole = refl };
      copies = ((_, refl, inl refl), ((_, refl, inr refl), ((_, refl, inr refl), ((_, refl, inl refl), ((_, refl, inr refl), ((_, refl, inl refl), tt))))));
    };
    near = refl;
  };
  given = refl;
}

-- a copy has the number of what was sent
copy_of : (f : List ℕ) (p q : Pair) → some q ≡ some p → (f ≡ p.copy0) ⊎ (f ≡ p.copy1) → (number_in f ≡ number_in q.copy0) ⊎ (number_in f ≡ number_in q.copy1)
copy_of f p q e (inl h) = let w : q ≡ p = cc in inl (ap number_in (h ∙ ap (λ (x : Pair). x.copy0) (sym w)))
copy_of f p q e (inr h) = let w : q ≡ p = cc in inr (ap number_in (h ∙ ap (λ (x : Pair). x.copy1) (sym w)))

pub premises-sent-needed : PremisesSentNeeded
unfolding computing sending bare nth frames_heard CopiesOf into quiet
premises-sent-needed = record {
  reset = (refl, ((_, refl, inl refl), ((_, refl, inr refl), tt)), λ e. let h = head-eq_of_cons-eq (tail-eq_of_cons-eq e) in omega (arith, h));
  stranger = (λ x. ⊎_elim (λ h. omega (arith, h)) (λ h. omega (arith, h)) (copy_of _ _ _ x.0.1 x.0.2), λ e. let h = head-eq_of_cons-eq e in omega (arith, h));
  wide = (((_, refl, inl refl), tt), λ e. let h = head-eq_of_cons-eq e in omega (arith, h));
}
