-- In front of each frame of a batch's output stands its length. Assumes nothing.
use Prim.Native.Nat.{ℕ, zero, suc, ◌+◌, ◌-◌, ◌/◌, ◌%◌, ◌≤◌}
use mathlib.Core.Path.{◌≡◌, refl, ap, ap₂, ◌∙◌}
use mathlib.Core.Bool.{true, ◌&&◌, ◌||◌}
use mathlib.Core.Option.{none}
use mathlib.Core.List.{List, [], ◌∷◌, ◌++◌, flat_map, append_assoc}
use native.Mathlib.Omega.{arith}
use lib.Dec.{eqb}
use lib.ListN.{length, take, drop, replicate}
use borrow.Author.Tests.{eq-eqb, ne_eqb}
use Rattle.refusal.specs.Checks.{Said}
use Rattle.refusal.specs.Checks.Said.{refused, answers}
use Rattle.frame.specs.Bytes.{word, overlay}
use Rattle.frame.specs.Frame.{type_at, untagged, unranked}
use Rattle.frame.specs.Link.{but_last}
use Rattle.frame.proofs.Heads.{tag_of}
use Rattle.frame.proofs.Links.{link-sizes, but-last-length}
use Rattle.frame.proofs.TakeThenPut.{cut-length}
use Rattle.stream.specs.Decisions.{Verdict, up, duplicate, rogue, verdict}
use Rattle.frame.specs.declared.Rank.{Rank}
use Rattle.calls.specs.Table.{Table, at}
use Rattle.calls.specs.Calls.{Call, Act, arrive, Answer, arrived, placed, done, swept, handed_up, answer, verdict_with, Result}
use Rattle.calls.specs.Calls as calls
use Rattle.batch.specs.Batch.{frames_most, adds_for, adds, reached}
use Rattle.demands.specs.Receiver.{Receiver, MeetsContract, results}
use Rattle.demands.specs.Steps.{Machine, MeetsAll, AsCalls}
use Rattle.demands.proofs.Stepping.{batches-are-calls}
use Rattle.end_to_end.specs.Batches.{takes, lengths_stand, LengthsStand}
use Rattle.end_to_end.proofs.Cases.{Each, act-case}
use Rattle.end_to_end.proofs.Batches.{whole, goes_on, told}

-- ---- a length has two bytes

module _ (t : Table) where
  record Small (a : Act) : Type 0 where
    fact : takes (answer t a) ≤ 2 + 65535

  arrives : (i n network : ℕ) (x : Rank) (bare : List ℕ) → length bare ≤ 65535 → Small (arrive i n network x bare)
  unfolding answer takes
  arrives i n network x bare h = record { fact = go (verdict (at t i) n) }
    where
      go : (v : Verdict) → takes (answers (arrived i n x (verdict_with (length bare) v))) ≤ 2 + 65535
      go up = omega (arith, h)
      go duplicate = omega arith
      go rogue = omega arith

  -- A frame that is read has at most 2000 bytes.
  each : Each t (λ c a. Small a)
  unfolding answer takes
  each = record {
    refuses = λ c n. record { fact = omega arith };
    arrives = λ network f out g i e.
        let r = tag_of f g e in
        arrives i g.number network g.header.rank (untagged f) (omega (arith, r.few, cut-length f (type_at f) (omega (arith, r.room))));
    links = λ network f out g i e. arrives i g.number network unranked (but_last f) (omega (arith, (link-sizes f e).few, but-last-length f));
    opens = λ dest vlan rule window time i e. record { fact = omega arith };
    closes = λ i. record { fact = omega arith };
    resets = λ i. record { fact = omega arith };
    ticks = record { fact = omega arith };
  }

small : {receive : Receiver} → MeetsContract receive → (t : Table) (c : Call) → takes (receive t c).said ≤ 2 + 65535
small k t c = rw (k t c).said (act-case t (each t) c).fact

-- ---- one answer

stands : (s : Said Answer) (bytes rest : List ℕ) → takes s ≤ 2 + 65535
    → (eqb (takes s) 0 || eqb (takes s) (2 + word (adds_for s bytes ++ rest) 0)) ≡ true
unfolding takes adds_for
stands (refused n) bytes rest h = refl
stands (answers (arrived j n x (handed_up l))) bytes rest h =
    let e : 2 + l ≡ 2 + word ((l / 256 % 256 ∷ l % 256 ∷ take l bytes) ++ rest) 0 = omega (arith, h) in
    rw (ne_eqb (2 + l) 0 (λ z. omega arith), eq-eqb (2 + l) _ e)
stands (answers (arrived j n x calls.duplicate)) bytes rest h = refl
stands (answers (arrived j n x calls.rogue)) bytes rest h = refl
stands (answers (placed j)) bytes rest h = refl
stands (answers done) bytes rest h = refl
stands (answers (swept streams records)) bytes rest h = refl

-- ---- one batch

marks : (k : ℕ) (out : List ℕ) → lengths_stand (replicate k none) out ≡ true
unfolding lengths_stand
marks zero out = refl
marks (suc k) out = marks k out

module _ {receive : Receiver} (c : MeetsContract receive) where
  packed : (t : Table) (cs : List Call) (k : ℕ) (tail : List ℕ)
      → lengths_stand (told (results receive t cs) k) (flat_map adds (results receive t cs) ++ tail) ≡ true
  unfolding lengths_stand results flat_map
  packed t [] k tail = marks k tail
  packed t (x ∷ xs) k tail =
      let r : Result = receive t x in
      let rs : List Result = results receive r.table xs in
      let rest : List ℕ = flat_map adds rs ++ tail in
      rw (append_assoc (adds r) (flat_map adds rs) tail)
      (ap₂ ◌&&◌ (stands r.said r.output rest (small c t x))
      (ap (lengths_stand (told rs k)) (goes_on r.said r.output rest (whole c t x)) ∙ packed r.table xs k tail))

pub lengths-stand : (m : Machine) → MeetsAll m → LengthsStand m
unfolding overlay
lengths-stand m k t b =
    let rs : List Result = results m.receive t (reached t b) in
    let a : AsCalls m t b rs = batches-are-calls k t b in
    ap₂ lengths_stand a.answers a.output
    ∙ packed k.receive t (reached t b) (frames_most - length rs) (drop (length (flat_map adds rs)) b.out)
