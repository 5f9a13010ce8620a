-- What a batch tells is read back: the mark is no frame's answer, and no frame is answered with 1 or 2. Assumes nothing.
use Prim.Native.Nat.{ℕ, zero, suc, ◌-◌, ◌≤◌, ◌<◌}
use mathlib.Core.Path.{◌≡◌, refl, sym, ap, ap₂, ◌∙◌}
use mathlib.Core.Logic.{inl, inr}
use mathlib.Core.Bool.{true, cond}
use mathlib.Core.Option.{Option, none, some}
use mathlib.Core.List.{List, [], ◌∷◌, ◌++◌, map}
use native.Mathlib.Omega.{arith}
use lib.Dec.{eqb}
use lib.ListN.{length, get_or, replicate}
use borrow.Author.Tests.{ltb-true}
use Rattle.refusal.specs.Checks.{Said, Check, First}
use Rattle.refusal.specs.Checks.Said.{refused, answers}
use Rattle.refusal.specs.Numbers.{TABLE, NETWORK}
use Rattle.refusal.proofs.Checks.{Positive, first-positive}
use Rattle.record.specs.Sizes.{slots_most}
use Rattle.frame.specs.declared.Rank.{Rank}
use Rattle.calls.specs.Table.{Table}
use Rattle.calls.specs.Calls.{Act, refuse, arrive, opens, closes, resets, ticks, Answer, Verdict, arrived, handed_up, duplicate, rogue, arriving, act, answer}
use Rattle.calls.specs.Told.{tell_arrival}
use Rattle.calls.specs.Refusals.{checks_of}
use Rattle.calls.specs.declared.ArrivalAnswer.{ArrivalAnswer}
use Rattle.calls.proofs.Exactly.{no-network, refused-exactly}
use Rattle.batch.specs.Batch.{Batch, frames_most, Turn, answers_of, batch_of}
use Rattle.batch.specs.Told.{tell_each, frames_told, refusal_told, tell_batch}
use Rattle.batch.specs.Refusals.{batch_checks}
use Rattle.batch.specs.Laws.{NeverOneOrTwo, EachTold}
use Rattle.batch.specs.declared.Batched.{Batched}
use Rattle.batch.proofs.Arriving.{Arrived, arrives}
use Rattle.batch.proofs.Refusing as batch
use Rattle.batch.proofs.Turns.{turns_by, answers-are, Each, each}

-- ---- once 1 and 2 are passed, an arrival is refused with a number above them

abbrev Late : List Check → Type 0
Late [] = Unit
Late (c ∷ cs) = (c.holds ≡ true → 2 < c.number) × Late cs

first-late : (n : ℕ) (cs : List Check) → Late cs → First n cs → 2 < n
unfolding First
first-late n [] p x = absurd x
first-late n (c ∷ cs) p (inl x) = let h = p.0 x.0 in omega (arith, x.1)
first-late n (c ∷ cs) p (inr x) = first-late n cs p.1 x.1

abbrev Later : Said Answer → Type 0
Later (refused n) = 2 < n
Later (answers a) = Unit

later : (t : Table) (network : ℕ) (f left : List ℕ) → length t ≤ slots_most → network ≤ 1 → Later (answer t (act t (arriving network f left)))
unfolding checks_of
later t network f left h k = go (answer t (act t (arriving network f left))) refl
  where
    late : Late (checks_of t (arriving network f left))
    late = (
      λ e. absurd (omega (arith, ltb-true slots_most (length t) e)),
      (
        λ e. absurd (omega (arith, ltb-true 1 network (no-network network ∙ e))),
        (λ e. omega arith, (λ e. omega arith, (λ e. omega arith, (λ e. omega arith, (λ e. omega arith, (λ e. omega arith, (λ e. omega arith, tt))))))),
      ),
    )

    go : (s : Said Answer) → answer t (act t (arriving network f left)) ≡ s → Later s
    go (refused n) e = first-late n (checks_of t (arriving network f left)) late ((refused-exactly t (arriving network f left) n).0 e)
    go (answers a) e = tt

-- ---- so no frame of a batch is answered with them

pub no-mark : (m i : ℕ) → ◌≡◌ {A = Option (Said Answer)} (get_or (replicate m none) i none) none
no-mark zero i = refl
no-mark (suc m) zero = refl
no-mark (suc m) (suc i) = no-mark m i

late-at : (us : List Turn) (m i n : ℕ) → Each Later us → get_or (map (λ (u : Turn). some u.result.said) us ++ replicate m none) i none ≡ some (refused n) → 2 < n
late-at [] m i n p e = absurd (let z : ◌≡◌ {A = Option (Said Answer)} none (some (refused n)) = sym (no-mark m i) ∙ e in let y : ◌≡◌ {A = ℕ} 0 1 = cc in omega arith)
late-at (u ∷ us) m zero n p e = go u.result.said p.0 e
  where
    go : (s : Said Answer) → Later s → some s ≡ some (refused n) → 2 < n
    go (refused k) h e = let z : k ≡ n = cc in omega arith
    go (answers a) h e = absurd (let y : ◌≡◌ {A = ℕ} 0 1 = cc in omega arith)
late-at (u ∷ us) m (suc i) n p e = late-at us m i n p.1 e

pub never-one-or-two : NeverOneOrTwo
unfolding answers_of
never-one-or-two t b i =
    let late : (n : ℕ) → get_or (batch_of t b).answers i none ≡ some (refused n) → 2 < n =
    λ n e. late-at (turns_by t b) (frames_most - length (turns_by t b)) i n (each Later later t b) (rw (answers-are t b) at e) in
    (λ e. (let h = late TABLE e in omega arith), λ e. (let h = late NETWORK e in omega arith))

-- ---- what is told is read back

abbrev read_verdict : (verdict length : ℕ) → Verdict
read_verdict v l = cond (eqb v 1) (handed_up l) (cond (eqb v 2) duplicate rogue)

abbrev read_by : (refusal verdict : ℕ) → ArrivalAnswer → Option (Said Answer)
read_by zero zero e = none
read_by zero (suc v) e = some (answers (arrived e.slot e.number e.rank (read_verdict (suc v) e.length)))
read_by (suc n) v e = some (refused (suc n))

abbrev pub read_each : ArrivalAnswer → Option (Said Answer)
read_each e = read_by e.refusal e.verdict e

abbrev ReadsBack : Said Answer → Type 0
ReadsBack s = read_each (tell_arrival s) ≡ some s

read-refused : (n : ℕ) → 2 < n → ReadsBack (refused n)
read-refused zero h = absurd (omega arith)
read-refused (suc n) h = refl

read-verdict : (slot number : ℕ) (p : Rank) (v : Verdict) → ReadsBack (answers (arrived slot number p v))
read-verdict slot number p (handed_up l) = refl
read-verdict slot number p duplicate = refl
read-verdict slot number p rogue = refl

read-act : (t : Table) (left : List ℕ) (a : Act) → Arrived left a → Later (answer t a) → ReadsBack (answer t a)
unfolding answer
read-act t left (refuse n) k h = read-refused n h
read-act t left (arrive i number network p bare) k h = read-verdict i number p _
read-act t left (opens i s) k h = absurd k.fact
read-act t left (closes i) k h = absurd k.fact
read-act t left (resets i) k h = absurd k.fact
read-act t left ticks k h = absurd k.fact

reads : (t : Table) (network : ℕ) (f left : List ℕ) → length t ≤ slots_most → network ≤ 1 → ReadsBack (answer t (act t (arriving network f left)))
reads t network f left h k = read-act t left _ (arrives t network f left) (later t network f left h k)

pub read_all : (us : List Turn) (m : ℕ) → Each ReadsBack us
    → map read_each (map tell_each (map (λ (u : Turn). some u.result.said) us ++ replicate m none)) ≡ map (λ (u : Turn). some u.result.said) us ++ replicate m none
read_all [] zero p = refl
read_all [] (suc m) p = ap (λ (l : List (Option (Said Answer))). none ∷ l) (read_all [] m p)
read_all (u ∷ us) m p = ap₂ (λ (a : Option (Said Answer)) (l : List (Option (Said Answer))). a ∷ l) p.0 (read_all us m p.1)

pub read-answers : (t : Table) (b : Batch) → map read_each (tell_batch (batch_of t b)).answers ≡ (batch_of t b).answers
unfolding answers_of
read-answers t b = rw (answers-are t b) (read_all (turns_by t b) (frames_most - length (turns_by t b)) (each ReadsBack reads t b))

-- the number of frames where nothing was refused
abbrev pub read_said : (frames refusal : ℕ) → Said ℕ
read_said k zero = answers k
read_said k (suc n) = refused (suc n)

positive : (t : Table) (b : Batch) → Positive (batch_checks t b)
unfolding batch_checks
positive t b = (omega arith, (omega arith, (omega arith, tt)))

pub read-said : (t : Table) (b : Batch) → read_said (frames_told (batch_of t b).said) (refusal_told (batch_of t b).said) ≡ (batch_of t b).said
read-said t b = go (batch_of t b).said refl
  where
    go : (s : Said ℕ) → (batch_of t b).said ≡ s → read_said (frames_told s) (refusal_told s) ≡ s
    go (refused zero) e = absurd (omega (arith, first-positive 0 (batch_checks t b) (positive t b) ((batch.refused-exactly t b 0).0 e)))
    go (refused (suc n)) e = refl
    go (answers k) e = refl

pub each-told : EachTold
each-told t b u c e = (
  sym (read-said t b) ∙ ap (λ (r : Batched). read_said r.frames r.refusal) e ∙ read-said u c,
  sym (read-answers t b) ∙ ap (λ (r : Batched). map read_each r.answers) e ∙ read-answers u c,
)
