-- What a single arrival leaves: it is refused or it arrives, and only a frame that is handed up adds to the output.
-- Assumes nothing.
use Prim.Native.Nat.{ℕ, ◌-◌, ◌/◌, ◌%◌, ◌≤◌}
use mathlib.Core.Path.{◌≡◌, refl, ap}
use mathlib.Core.Bool.{Bool, true, false, cond, not}
use mathlib.Core.List.{List, [], ◌∷◌}
use native.Mathlib.Omega.{arith}
use lib.Dec.{ltb, leb}
use lib.ListN.{length}
use borrow.Author.Tests.{ltb-false}
use Rattle.refusal.specs.Checks.{Said}
use Rattle.refusal.specs.Checks.Said.{refused, answers}
use Rattle.refusal.specs.Numbers.{TABLE, NETWORK, UNKNOWN, DAMAGED, ROOM}
use Rattle.record.specs.Sizes.{slots_most}
use Rattle.frame.specs.Bytes.{overlay}
use Rattle.frame.specs.Frame.{Tag, read_of, type_at}
use Rattle.frame.proofs.Bytes.{overlay-front}
use Rattle.frame.proofs.Heads.{tag_of, type-least}
use Rattle.stream.specs.Record.{lawful}
use Rattle.stream.specs.Decisions as decisions
use Rattle.calls.specs.Table.{Table, at}
use Rattle.calls.specs.Calls.{arriving, Act, refuse, arrive, opens, closes, resets, ticks, admitted, arrival_at, arrival, checked, act, after, answer, Answer, arrived, placed, done, swept, handed_up, duplicate, rogue, verdict_with, output, written_for, Result, result_of}
use Rattle.calls.specs.Told.{tell_arrival}
use Rattle.calls.proofs.Admits.{admits}
use Rattle.calls.proofs.Arrivals.{bare-length}
use Rattle.batch.specs.Batch.{adds_for, adds, ends}
use Rattle.batch.specs.Steps.{handed, stops}

-- ---- what an arrival may come to: a refusal, or a slot and a frame for which there is room

abbrev Arrives : (out : List ℕ) → Act → Type 0
Arrives out (refuse n) = Unit {0}
Arrives out (arrive i number network p bare) = (14 ≤ length bare) × (length bare ≤ length out)
Arrives out (opens i s) = ⊥
Arrives out (closes i) = ⊥
Arrives out (resets i) = ⊥
Arrives out ticks = ⊥

pub record Arrived (out : List ℕ) (a : Act) : Type 0 where
  pub fact : Arrives out a

-- behind a check
checks : {out : List ℕ} (n : ℕ) (b : Bool) {y : Act} → (b ≡ false → Arrived out y) → Arrived out (cond b (refuse n) y)
checks n true q = record { fact = tt }
checks n false q = q refl

module _ (t : Table) (network : ℕ) (f out : List ℕ) where
  read : (x : Said Tag) → admitted f (read_of f) ≡ x → Arrived out (arrival t network f out x)
  unfolding arrival arrival_at
  read (refused n) e = record { fact = tt }
  read (answers g) e =
      let k = (tag_of f g (admits f (read_of f) e).1).room in
      let l = type-least f in
      let n = bare-length f (type_at f) (omega arith) in
      checks UNKNOWN (leb (length t) _) (λ h. checks DAMAGED (not (lawful _)) (λ h. checks ROOM (ltb (length out) (length f - 6)) (λ h.
      (let r = ltb-false (length out) (length f - 6) h in record { fact = (omega arith, omega arith) }))))

  pub arrives : Arrived out (act t (arriving network f out))
  unfolding act checked
  arrives = checks TABLE (ltb slots_most (length t)) (λ h. checks NETWORK (ltb 1 network) (λ h. read (admitted f (read_of f)) refl))

-- ---- what it leaves

pub data Leaves (left : List ℕ) (r : Result) : Type 0 where
  nothing-new : handed (tell_arrival r.said) ≡ false → r.output ≡ left → adds r ≡ [] → Leaves left r
  handed-up : (bare : List ℕ) → 14 ≤ length bare → length bare ≤ length left
      → handed (tell_arrival r.said) ≡ true → (tell_arrival r.said).length ≡ length bare
      → r.output ≡ overlay bare left → adds r ≡ length bare / 256 % 256 ∷ length bare % 256 ∷ bare → Leaves left r

module _ (t : Table) (left : List ℕ) where
  by-act : (a : Act) → Arrived left a → Leaves left (record { said = answer t a; table = after t a; output = output t left a })
  unfolding answer output adds_for
  by-act (refuse n) k = nothing-new refl refl refl
  by-act (arrive i number network p bare) k = go (decisions.verdict (at t i) number)
    where
      go : (v : decisions.Verdict)
          → Leaves left (record { said = answers (arrived i number p (verdict_with (length bare) v)); table = after t (arrive i number network p bare); output = written_for v bare left })
      go decisions.up =
          handed-up bare k.fact.0 k.fact.1 refl refl refl
          (ap (λ (b : List ℕ). length bare / 256 % 256 ∷ length bare % 256 ∷ b) (overlay-front bare left refl))
      go decisions.duplicate = nothing-new refl refl refl
      go decisions.rogue = nothing-new refl refl refl
  by-act (opens i s) k = absurd k.fact
  by-act (closes i) k = absurd k.fact
  by-act (resets i) k = absurd k.fact
  by-act ticks k = absurd k.fact

  pub leaves : (network : ℕ) (f : List ℕ) → Leaves left (result_of t (arriving network f left))
  leaves network f = by-act (act t (arriving network f left)) (arrives t network f left)

-- ---- 8 is told as 8

pub stops-ends : (s : Said Answer) → stops (tell_arrival s) ≡ ends s
unfolding ends
stops-ends (refused n) = refl
stops-ends (answers (arrived i number p (handed_up l))) = refl
stops-ends (answers (arrived i number p duplicate)) = refl
stops-ends (answers (arrived i number p rogue)) = refl
stops-ends (answers (placed i)) = refl
stops-ends (answers done) = refl
stops-ends (answers (swept streams records)) = refl
