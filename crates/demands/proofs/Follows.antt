-- From what a code ensures to what follows from it. Assumes nothing.
use Prim.Native.Nat.{ℕ}
use mathlib.Core.Path.{◌≡◌}
use mathlib.Core.List.{List}
use seplogic.Ra.Ura.{Ura}
use base.Logic.{emp, sep, id⊢, fst∗, snd∗}
use prog.Model.{Model}
use mir.Syntax.{Callee}
use prog.Wired.{Code, Wired}
use types.Logic.{Logic}
use contract.Lifetimes.{Lfts}
use contract.Monad.{fact, fact_i, fact_use, fm→mono}
use contract.Running.{Running}
use denote.Triple.Clauses.{Ended, AtExit, closing}
use denote.Triple.Entry.{Args, Res}
use denote.Triple.Spec as spec
use denote.Triple.Table.{run_framed}
use denote.Triple.Weaken.{weaken}
use Rattle.refusal.specs.Checks.{Said}
use Rattle.frame.specs.TagCalls.{Outcome}
use Rattle.demands.specs.Code.{Promise, Ensures}

-- One promise gives another.
abbrev pub Gives : (T : Ended) → Promise T → Promise T → Type 0
Gives T P Q = (κs : Lfts T.signature.lifetimes) (a : Args T.signature κs) (r : Res T.signature κs) (e : AtExit T κs) → P κs a r e → Q κs a r e

module _ {M : Type 1} {𝓤 : Ura M} (𝓛 : Logic 𝓤) (𝓜 : Model 𝓤 𝓛.H) (𝓡 : Running 𝓤 𝓛.H 𝓜) (T : Ended) (name : Callee) (code : Code) where
  open 𝓛 use {H}

  pub follows : (P Q : Promise T) → Gives T P Q → Ensures 𝓛 𝓜 𝓡 T name code P → Ensures 𝓛 𝓜 𝓡 T name code Q
  follows P Q h m w =
      weaken 𝓛 T (λ κs a. record { ghost = Unit {0}; requires = λ g. emp 𝓤; ensures = λ g r e. fact 𝓤 (P κs a r e) })
      (λ κs a g r e. fact 𝓤 (Q κs a r e)) (λ κs a g r ws. fact_use 𝓤 (P κs a r _) (id⊢ 𝓤 _) (λ p. fact_i 𝓤 (Q κs a r _) _ (h κs a r _ p)))
      (𝓡.run (𝓡.env name)) (λ vs. fm→mono 𝓤 _ (run_framed 𝓤 H 𝓜 𝓡 (𝓡.env name) vs)) (m w)

  -- Two promises of one code, as two clauses of its contract say them.
  abbrev pub EnsuresBoth : Promise T → Promise T → Type 1
  EnsuresBoth P P' = Wired 𝓡.env code → spec.Meets 𝓛 T.signature (𝓡.run (𝓡.env name)) (closing 𝓛 T (λ κs a. record {
    ghost = Unit {0};
    requires = λ g. emp 𝓤;
    ensures = λ g r e. sep 𝓤 (fact 𝓤 (P κs a r e)) (fact 𝓤 (P' κs a r e));
  }))

  pub both-follow : (P P' Q : Promise T) → Gives T P (λ κs a r e. P' κs a r e → Q κs a r e) → EnsuresBoth P P' → Ensures 𝓛 𝓜 𝓡 T name code Q
  both-follow P P' Q h m w =
      weaken 𝓛 T (λ κs a. record { ghost = Unit {0}; requires = λ g. emp 𝓤; ensures = λ g r e. sep 𝓤 (fact 𝓤 (P κs a r e)) (fact 𝓤 (P' κs a r e)) })
      (λ κs a g r e. fact 𝓤 (Q κs a r e))
      (λ κs a g r ws. fact_use 𝓤 (P κs a r _) (fst∗ 𝓤 (fact 𝓤 (P κs a r _)) (fact 𝓤 (P' κs a r _))) (λ p.
      fact_use 𝓤 (P' κs a r _) (snd∗ 𝓤 (fact 𝓤 (P κs a r _)) (fact 𝓤 (P' κs a r _))) (λ q. fact_i 𝓤 (Q κs a r _) _ (h κs a r _ p q))))
      (𝓡.run (𝓡.env name)) (λ vs. fm→mono 𝓤 _ (run_framed 𝓤 H 𝓜 𝓡 (𝓡.env name) vs)) (m w)

  -- A fact of the answer and one of the bytes are one of the outcome.
  pub outcome : {A : Type 0} (said : (κs : Lfts T.signature.lifetimes) → Res T.signature κs → Said A) (bytes : (κs : Lfts T.signature.lifetimes) → AtExit T κs → List ℕ)
      (o : (κs : Lfts T.signature.lifetimes) → Args T.signature κs → Outcome A)
      → EnsuresBoth (λ κs a r e. said κs r ≡ (o κs a).said) (λ κs a r e. bytes κs e ≡ (o κs a).bytes)
      → Ensures 𝓛 𝓜 𝓡 T name code (λ κs a r e. record { said = said κs r; bytes = bytes κs e } ≡ o κs a)
  outcome said bytes o =
      both-follow (λ κs a r e. said κs r ≡ (o κs a).said) (λ κs a r e. bytes κs e ≡ (o κs a).bytes) (λ κs a r e. record { said = said κs r; bytes = bytes κs e } ≡ o κs a)
      (λ κs a r e p q i. record { said = p i; bytes = q i })
