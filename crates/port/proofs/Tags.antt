-- Nothing is lost in what the tag calls tell: no refusal has the number 0. Assumes nothing.
use mathlib.Core.Path.{◌≡◌, sym, ap}
use Prim.Native.Nat.{ℕ}
use native.Mathlib.Omega.{arith}
use mathlib.Core.List.{List}
use Rattle.refusal.specs.Checks.{Said}
use Rattle.refusal.specs.Checks.Said.{refused, answers}
use Rattle.refusal.proofs.Checks.{first-positive}
use Rattle.frame.specs.TagCalls.{Bare, take_tag, write_tag}
use Rattle.frame.specs.Refusals.{take_checks, write_checks}
use Rattle.frame.proofs.Refusals.{take-refused-exactly, write-refused-exactly}
use Rattle.port.specs.Tags.{tell_taken, tell_written, TakenTold, WrittenTold}

-- a call that says nothing, told as a refusal, was not told as an answer
taken-told : (x y : Said Bare) → (x ≡ refused 0 → ⊥) → (y ≡ refused 0 → ⊥) → tell_taken x ≡ tell_taken y → x ≡ y
taken-told (refused n) (refused m) p q e = ap refused (ap (λ a. a.refusal) e)
taken-told (refused n) (answers b) p q e = absurd (p (ap refused (ap (λ a. a.refusal) e)))
taken-told (answers b) (refused m) p q e = absurd (q (ap refused (sym (ap (λ a. a.refusal) e))))
taken-told (answers b) (answers d) p q e = ap answers (λ i. record { number = (e i).number; length = (e i).length })

written-told : (m n : ℕ) (x y : Said ℕ) → (x ≡ refused 0 → ⊥) → (y ≡ refused 0 → ⊥) → tell_written m x ≡ tell_written n y → x ≡ y
written-told m n (refused j) (refused k) p q e = ap refused (ap (λ a. a.refusal) e)
written-told m n (refused j) (answers l) p q e = absurd (p (ap refused (ap (λ a. a.refusal) e)))
written-told m n (answers l) (refused k) p q e = absurd (q (ap refused (sym (ap (λ a. a.refusal) e))))
written-told m n (answers l) (answers k) p q e = ap answers (ap (λ a. a.length) e)

-- no refusal has the number 0
never-taken : (f out : List ℕ) → (take_tag f out).said ≡ refused 0 → ⊥
unfolding take_checks
never-taken f out e =
    let z = first-positive 0 (take_checks f out) (omega arith, (omega arith, (omega arith, (omega arith, tt)))) ((take-refused-exactly f out 0).0 e) in
    omega arith

never-written : (f : List ℕ) (number : ℕ) (out : List ℕ) → (write_tag f number out).said ≡ refused 0 → ⊥
unfolding write_checks
never-written f number out e =
    let z = first-positive 0 (write_checks f out) (omega arith, (omega arith, (omega arith, (omega arith, (omega arith, tt))))) ((write-refused-exactly f number out 0).0 e) in
    omega arith

pub taken-all-told : TakenTold
taken-all-told f out g back e = taken-told _ _ (never-taken f out) (never-taken g back) e

pub written-all-told : WrittenTold
written-all-told f m out g n back e = written-told m n _ _ (never-written f m out) (never-written g n back) e
