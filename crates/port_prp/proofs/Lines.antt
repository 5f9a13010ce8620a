-- What ends the proofs of the turns for C, and that nothing is lost in what they tell: no refusal has the number 0. Assumes nothing.
use mathlib.Core.Path.{◌≡◌, refl, ap, sym, ◌∙◌}
use Prim.Native.Nat.{ℕ}
use native.Mathlib.Omega.{arith}
use mathlib.Core.List.{List}
use Rattle.refusal.specs.Checks.{Said}
use Rattle.refusal.specs.Checks.Said.{refused, answers}
use Rattle.refusal.proofs.Checks.{first-positive}
use Rattle.frame.specs.Bytes.{overlay}
use Rattle.frame.specs.Frame.{type_at, has_vlan, is_tagged, tag_at}
use Rattle.std.specs.Prelude.{Result}
use Rattle.refusal.specs.declared.Refusal.{Refusal}
use Rattle.prp.specs.declared.Turned.{Turned}
use Rattle.prp.specs.Example.{head, payload, old1, new1}
use Rattle.prp.specs.Prp.{Trailer, Told, from_prp, to_prp, said_turned, width_of, same, network_of, is_lan, after_type, wears, body_of, from_of, turn_into}
use Rattle.prp.specs.Refusals.{from_checks, to_checks}
use Rattle.prp.proofs.Refusals.{from-refused-exactly, to-refused-exactly}
use Rattle.port_prp.specs.declared.PrpAnswer.{PrpAnswer}
use Rattle.port_prp.specs.Lines.{line_of, tell_turned, LinesTold, FromTold, ToTold}

-- a turn under the line's trailer is told
pub from_told : {k l : Trailer} (f out : List ℕ) {bytes : List ℕ} (r : Result Turned Refusal) {told : PrpAnswer} → k ≡ l
    → (said_turned r ≡ (from_prp k f out).said) × (bytes ≡ (from_prp k f out).bytes) → told ≡ tell_turned (said_turned r)
    → (told ≡ tell_turned (from_prp l f out).said) × (bytes ≡ (from_prp l f out).bytes)
from_told f out r e p t = (t ∙ ap tell_turned p.0 ∙ ap (λ (k : Trailer). tell_turned (from_prp k f out).said) e, p.1 ∙ ap (λ (k : Trailer). (from_prp k f out).bytes) e)

pub to-told : {k l : Trailer} (w : ℕ) (f out : List ℕ) {bytes : List ℕ} (r : Result Turned Refusal) {told : PrpAnswer} → k ≡ l
    → (said_turned r ≡ (to_prp k w f out).said) × (bytes ≡ (to_prp k w f out).bytes) → told ≡ tell_turned (said_turned r)
    → (told ≡ tell_turned (to_prp l w f out).said) × (bytes ≡ (to_prp l w f out).bytes)
to-told w f out r e p t = (t ∙ ap tell_turned p.0 ∙ ap (λ (k : Trailer). tell_turned (to_prp k w f out).said) e, p.1 ∙ ap (λ (k : Trailer). (to_prp k w f out).bytes) e)

-- the examples
pub lines-told : LinesTold
unfolding line_of head payload old1 new1 type_at has_vlan is_tagged tag_at width_of same network_of is_lan after_type wears body_of from_of turn_into from_prp overlay
lines-told = (refl, refl, refl)

-- what was told as a refusal was not told as an answer
all_told : (x y : Said Told) → (x ≡ refused 0 → ⊥) → (y ≡ refused 0 → ⊥) → tell_turned x ≡ tell_turned y → x ≡ y
all_told (refused n) (refused m) p q e = ap refused (ap (λ a. a.refusal) e)
all_told (refused n) (answers b) p q e = absurd (p (ap refused (ap (λ a. a.refusal) e)))
all_told (answers b) (refused m) p q e = absurd (q (ap refused (sym (ap (λ a. a.refusal) e))))
all_told (answers b) (answers d) p q e = ap answers (λ i. record { network = (e i).network; number = (e i).number; length = (e i).length })

never-from : (k : Trailer) (f out : List ℕ) → (from_prp k f out).said ≡ refused 0 → ⊥
unfolding from_checks
never-from k f out e =
    let z = first-positive 0 (from_checks k f out) (omega arith, (omega arith, (omega arith, (omega arith, (omega arith, tt))))) ((from-refused-exactly k f out 0).0 e) in
    omega arith

never-to : (k : Trailer) (w : ℕ) (f out : List ℕ) → (to_prp k w f out).said ≡ refused 0 → ⊥
unfolding to_checks
never-to k w f out e =
    let z = first-positive 0 (to_checks k w f out) (omega arith, (omega arith, (omega arith, (omega arith, (omega arith, (omega arith, tt)))))) ((to-refused-exactly k w f out 0).0 e) in
    omega arith

pub from-all-told : FromTold
from-all-told k f out l g back e = all_told _ _ (never-from k f out) (never-from l g back) e

pub to-all-told : ToTold
to-all-told k w f out l v g back e = all_told _ _ (never-to k w f out) (never-to l v g back) e
