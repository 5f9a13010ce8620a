-- What a call keeps: its refusals change nothing, the number of slots and every other record stay. Results of one call
-- coincide. Assumes nothing.
use Prim.Native.Nat.{ℕ}
use mathlib.Core.Path.{◌≡◌, refl, sym, ap, ◌∙◌}
use mathlib.Core.Bool.{false}
use mathlib.Core.List.{List}
use native.Mathlib.Omega.{arith}
use lib.Dec.{eqb}
use lib.ListN.{length, set, length-set, length-map}
use lib.Seq.{get_or-set_other}
use borrow.Author.Tests.{eqb-false}
use Rattle.refusal.specs.Checks.Said.{refused}
use Rattle.record.specs.declared.Stream.{Stream}
use Rattle.stream.specs.Decisions.{ticked}
use Rattle.calls.specs.Table.{Table, blank, at}
use Rattle.calls.specs.Calls.{Act, refuse, arrive, opens, closes, resets, ticks, act, after, answer, output, out_of}
use Rattle.calls.specs.Said.{said_verdict, said_arrival, said_opened, said_done, said_swept}
use Rattle.calls.specs.Laws.{Coincide, AnswersTell, AskedTells, RefusedChangesNothing, for_slot, OthersStay, LengthKept}
use Rattle.std.specs.Prelude.{Result, Ok, Err}
use Rattle.refusal.specs.declared.Refusal.{Refusal}
use Rattle.refusal.proofs.Checks.{said-tells, numbers-tell, number_or}
use Rattle.calls.specs.declared.Verdict.{Verdict}
use Rattle.calls.specs.declared.Verdict.TheVariants as verdict
use Rattle.calls.specs.declared.Arrived.{Arrived}
use Rattle.calls.specs.declared.Sums.{Sums}

pub coincide : Coincide
coincide t c r s p q i = record {
  said = (p.said ∙ sym q.said) i;
  table = (p.table ∙ sym q.table) i;
  output = (p.output ∙ sym q.output) i;
}

-- ---- a refusal changes nothing
keeps : (t : Table) (out : List ℕ) (n : ℕ) (a : Act) → answer t a ≡ refused n → (after t a ≡ t) × (output t out a ≡ out)
unfolding answer after output
keeps t out n (refuse m) e = (refl, refl)
keeps t out n (arrive i number network rank bare) e = absurd (let z : ◌≡◌ {A = ℕ} 0 1 = cc in omega arith)
keeps t out n (opens i s) e = absurd (let z : ◌≡◌ {A = ℕ} 0 1 = cc in omega arith)
keeps t out n (closes i) e = absurd (let z : ◌≡◌ {A = ℕ} 0 1 = cc in omega arith)
keeps t out n (resets i) e = absurd (let z : ◌≡◌ {A = ℕ} 0 1 = cc in omega arith)
keeps t out n ticks e = absurd (let z : ◌≡◌ {A = ℕ} 0 1 = cc in omega arith)

pub refused-changes-nothing : RefusedChangesNothing
refused-changes-nothing t c n e = keeps t (out_of c) n (act t c) e

-- ---- the number of slots
as_long : (t : Table) (a : Act) → length (after t a) ≡ length t
unfolding after
as_long t (refuse n) = refl
as_long t (arrive i number network rank bare) = length-set t i _
as_long t (opens i s) = length-set t i s
as_long t (closes i) = length-set t i _
as_long t (resets i) = length-set t i _
as_long t ticks = length-map t ticked

pub length-kept : LengthKept
length-kept t c = as_long t (act t c)

-- ---- the other records
pub other : (t : Table) (i j : ℕ) (s : Stream) → eqb i j ≡ false → at (set t i s) j ≡ at t j
other t i j s e = get_or-set_other t i j s blank (λ h. eqb-false i j e (sym h))

stays : (t : Table) (a : Act) (j : ℕ) → for_slot a j ≡ false → at (after t a) j ≡ at t j
unfolding after for_slot
stays t (refuse n) j e = refl
stays t (arrive i number network rank bare) j e = other t i j _ e
stays t (opens i s) j e = other t i j s e
stays t (closes i) j e = other t i j _ e
stays t (resets i) j e = other t i j _ e
stays t ticks j e = absurd (let z : ◌≡◌ {A = ℕ} 0 1 = cc in omega arith)

pub others-stay : OthersStay
others-stay t c j e = stays t (act t c) j e

-- ---- equal `said` means equal answers
verdict-tells : (v w : Verdict) → said_verdict v ≡ said_verdict w → v ≡ w
verdict-tells (verdict.HandedUp l) (verdict.HandedUp m) e = cc
verdict-tells (verdict.HandedUp l) verdict.Duplicate e = cc
verdict-tells (verdict.HandedUp l) verdict.Rogue e = cc
verdict-tells verdict.Duplicate (verdict.HandedUp m) e = cc
verdict-tells verdict.Duplicate verdict.Duplicate e = refl
verdict-tells verdict.Duplicate verdict.Rogue e = cc
verdict-tells verdict.Rogue (verdict.HandedUp m) e = cc
verdict-tells verdict.Rogue verdict.Duplicate e = cc
verdict-tells verdict.Rogue verdict.Rogue e = refl

arrived-tell : (r s : Result Arrived Refusal) → said_arrival r ≡ said_arrival s → r ≡ s
arrived-tell (Err p) (Err q) e = ap Err (numbers-tell p q (ap (number_or 0) e))
arrived-tell (Err p) (Ok b) e = cc
arrived-tell (Ok a) (Err q) e = cc
arrived-tell (Ok a) (Ok b) e =
    let slot : a.slot ≡ b.slot = cc in
    let number : a.number ≡ b.number = cc in
    let rank : a.rank ≡ b.rank = cc in
    let v : a.verdict ≡ b.verdict = verdict-tells a.verdict b.verdict (let w : said_verdict a.verdict ≡ said_verdict b.verdict = cc in w) in
    λ i. Ok (record { slot = slot i; number = number i; rank = rank i; verdict = v i })

opened-tell : (r s : Result ℕ Refusal) → said_opened r ≡ said_opened s → r ≡ s
opened-tell (Err p) (Err q) e = ap Err (numbers-tell p q (ap (number_or 0) e))
opened-tell (Err p) (Ok j) e = cc
opened-tell (Ok i) (Err q) e = cc
opened-tell (Ok i) (Ok j) e = cc

done-tell : (r s : Result Unit Refusal) → said_done r ≡ said_done s → r ≡ s
done-tell (Err p) (Err q) e = ap Err (numbers-tell p q (ap (number_or 0) e))
done-tell (Err p) (Ok u) e = cc
done-tell (Ok u) (Err q) e = cc
done-tell (Ok u) (Ok v) e = refl

swept-tell : (r s : Result Sums Refusal) → said_swept r ≡ said_swept s → r ≡ s
swept-tell (Err p) (Err q) e = ap Err (numbers-tell p q (ap (number_or 0) e))
swept-tell (Err p) (Ok b) e = cc
swept-tell (Ok a) (Err q) e = cc
swept-tell (Ok a) (Ok b) e =
    let resets : a.resets ≡ b.resets = cc in
    let damaged : a.damaged ≡ b.damaged = cc in
    λ i. Ok (record { resets = resets i; damaged = damaged i })

pub answers-tell : AnswersTell
answers-tell = (arrived-tell, opened-tell, done-tell, swept-tell)

pub asked-tells : AskedTells
asked-tells r s e = said-tells _ r s e
