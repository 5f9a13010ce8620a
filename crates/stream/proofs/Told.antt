-- What the case of an arrival tells of the record. Assumes nothing.
use Rattle.std.proofs.Common.{◌≡◌, ℕ, ◌<◌, Bool, true, false, eqb, ltb, refl, ltb-true}
use Rattle.std.specs.Prelude.{if◌then◌else◌}
use Rattle.record.specs.Words.{yes}
use Rattle.record.specs.Sizes.{vector_rule, link_rule}
use Rattle.stream.specs.History.{bit}
use Rattle.stream.specs.Record.{Stream}
use Rattle.stream.specs.Decisions.{Signed, ahead, behind, Case, first, far, again, late, next, moved, vector_case, match_case, link_up, link_case, case_of}
use Rattle.stream.proofs.Reading.{Forward, forward}

abbrev pub Fact : Stream → Case → Type 0
Fact s first = yes s.state.any ≡ true
Fact s far = Unit {0}
Fact s again = Unit {0}
Fact s (late k) = (yes s.state.any ≡ false) × (eqb s.rule vector_rule ≡ true) × (k < s.window) × (bit k s.state.history ≡ false)
Fact s (next d) = (yes s.state.any ≡ false) × (eqb s.rule vector_rule ≡ true) × (0 < d) × (d < s.window)
Fact s (moved b) = (yes s.state.any ≡ false) × (eqb s.rule vector_rule ≡ false)

pub record Told (s : Stream) (c : Case) : Type 0 where
  pub fact : Fact s c

told : {s : Stream} (b : Bool) {x y : Case} → (b ≡ true → Told s x) → (b ≡ false → Told s y) → Told s (if b then x else y)
told true f g = f refl
told false f g = g refl

vector-told : (s : Stream) (d : Signed) → yes s.state.any ≡ false → eqb s.rule vector_rule ≡ true → Forward d
    → Told s (vector_case s.window s.state.history d)
unfolding vector_case
vector-told s (ahead d) a r f = told (ltb d s.window) (λ e. record { fact = (a, r, f, ltb-true d s.window e) }) (λ e. record { fact = tt })
vector-told s (behind k) a r f =
    told (ltb k s.window)
    (λ e. told (bit k s.state.history) (λ z. record { fact = tt })
    (λ z. record { fact = (a, r, ltb-true k s.window e, z) }))
    (λ e. record { fact = tt })

match-told : (s : Stream) (d : Signed) → yes s.state.any ≡ false → eqb s.rule vector_rule ≡ false → Told s (match_case d)
unfolding match_case
match-told s (ahead d) a r = record { fact = (a, r) }
match-told s (behind k) a r = told (eqb k 0) (λ e. record { fact = tt }) (λ e. record { fact = (a, r) })

link-told : (s : Stream) (n : ℕ) → yes s.state.any ≡ false → eqb s.rule vector_rule ≡ false → Told s (link_case s.state.anchor n)
unfolding link_case
link-told s n a r = told (link_up s.state.anchor n) (λ e. record { fact = (a, r) }) (λ e. record { fact = tt })

pub case-told : (s : Stream) (n : ℕ) → Told s (case_of s n)
unfolding case_of
case-told s n =
    told (yes s.state.any) (λ a. record { fact = a }) (λ a.
    told (eqb s.rule vector_rule) (λ r. vector-told s _ a r (forward _ _)) (λ r.
    told (eqb s.rule link_rule) (λ l. link-told s n a r) (λ l. match-told s _ a r)))
