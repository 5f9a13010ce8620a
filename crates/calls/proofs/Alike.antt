-- Take a tag out gives 3, 4, 5 and 8 as an arrival gives them, and writes as handed up does; a group source reaches no stream.
-- Assumes nothing.
use Prim.Native.Nat.{ℕ, ◌-◌, ◌≤◌, ◌<◌}
use mathlib.Core.Path.{◌≡◌, refl, sym, ap, ◌∙◌}
use mathlib.Core.Logic.{◌↔◌}
use mathlib.Core.Bool.{Bool, true, false, cond, not}
use mathlib.Core.List.{List}
use native.Mathlib.Omega.{arith}
use lib.Dec.{ltb, leb}
use lib.ListN.{length}
use borrow.Author.Tests.{le-ltb, lt-leb}
use Rattle.refusal.specs.Checks.{Said}
use Rattle.refusal.specs.Checks.Said.{refused, answers}
use Rattle.refusal.specs.Numbers.{TABLE, NETWORK, UNKNOWN, DAMAGED, ROOM, GROUP}
use Rattle.record.specs.Sizes.{slots_most}
use Rattle.frame.specs.Bytes.{overlay}
use Rattle.frame.specs.Frame.{Tag, group_source, read_of, untagged, header_of, dest_of, vlan_of, type_at}
use Rattle.frame.specs.TagCalls.{Outcome, Bare, take_from, take_tag}
use Rattle.frame.specs.declared.Header.{Header}
use Rattle.frame.specs.declared.Rank.{Rank}
use Rattle.frame.proofs.Heads.{tag_of}
use Rattle.stream.specs.Record.{lawful}
use Rattle.stream.specs.Decisions.{up}
use Rattle.calls.specs.Table.{Table, at, search, hears}
use Rattle.calls.specs.Calls.{arriving, Act, refuse, arrive, opens, closes, resets, ticks, admitted, arrival_at, arrival, checked, act, answer, Answer, written_for}
use Rattle.calls.specs.Laws.{by_frame, TakeRefusesFrame, TakeRefusesAlike, TakeWritesAlike, GroupReachesNone, GroupRefused}
use Rattle.calls.proofs.Admits.{admits, admits-all, admits-none}
use Rattle.calls.proofs.Places.{some-place}
use Rattle.calls.proofs.Arrivals.{bare-length}

-- once 1 and 2 are passed
past : (t : Table) (network : ℕ) (f out : List ℕ) → length t ≤ slots_most → network ≤ 1
    → act t (arriving network f out) ≡ arrival t network f out (admitted f (read_of f))
unfolding act checked
past t network f out m n = simp (le-ltb _ _ m, le-ltb _ _ n)

-- what a take says of a tagged frame
take-says : (f out : List ℕ) (g : Tag)
    → (take_from f out (answers g)).said ≡ cond (ltb (length out) (length f - 6)) (refused ROOM) (answers (record { number = g.number; length = length f - 6 }))
unfolding take_from
take-says f out g = go (ltb (length out) (length f - 6)) _ _
  where
    go : (r : Bool) (a b : Outcome Bare) → ◌≡◌ {A = Said Bare} (cond {A = Outcome Bare} r a b).said (cond r a.said b.said)
    go true a b = refl
    go false a b = refl

-- ---- 3, 4 and 5

-- neither an arrival that has been read nor a take of its tag is refused with these
module _ {n : ℕ} (b : by_frame n ≡ true) where
  not-by : {A : Type 0} (m : ℕ) → by_frame m ≡ false → ◌≡◌ {A = Said A} (refused m) (refused n) → ⊥
  not-by m f e = let k : m ≡ n = cc in let z : true ≡ false = sym b ∙ ap by_frame (sym k) ∙ f in let y : ◌≡◌ {A = ℕ} 0 1 = cc in omega arith

  arrival-not : (t : Table) (i number network : ℕ) (rank : Rank) (f out : List ℕ) → answer t (arrival_at t i number network rank (length f - 6) (untagged f) out) ≡ refused n → ⊥
  unfolding arrival_at answer
  arrival-not t i number network rank f out e = go (leb (length t) i) (lawful (at t i)) (ltb (length out) (length f - 6)) e
    where
      go : (a l r : Bool) → answer t (cond a (refuse UNKNOWN) (cond (not l) (refuse DAMAGED) (cond r (refuse ROOM) (arrive i number network rank (untagged f))))) ≡ refused n → ⊥
      go true l r e = not-by UNKNOWN refl e
      go false false r e = not-by DAMAGED refl e
      go false true true e = not-by ROOM refl e
      go false true false e = let z : ◌≡◌ {A = ℕ} 0 1 = cc in omega arith

  take-not : (f out : List ℕ) (g : Tag) → (take_from f out (answers g)).said ≡ refused n → ⊥
  take-not f out g e = go (ltb (length out) (length f - 6)) _ (sym (take-says f out g) ∙ e)
    where
      go : (r : Bool) (x : Bare) → cond r (refused ROOM) (answers x) ≡ refused n → ⊥
      go true x e = not-by ROOM refl e
      go false x e = let z : ◌≡◌ {A = ℕ} 0 1 = cc in omega arith

-- the same number, whatever the answer would be
alike : {A B : Type 0} {m n : ℕ} → (◌≡◌ {A = Said A} (refused m) (refused n)) ↔ (◌≡◌ {A = Said B} (refused m) (refused n))
alike {A} {B} {m} {n} = (λ e. let k : m ≡ n = cc in ap refused k, λ e. let k : m ≡ n = cc in ap refused k)

pub take-refuses-frame : TakeRefusesFrame
unfolding take_tag take_from admitted arrival answer
take-refuses-frame t network f out n m k b = rw (past t network f out m k) (go (read_of f))
  where
    not-by-arrival : (s : Bool) (g : Tag) → answer t (arrival t network f out (cond s (refused GROUP) (answers g))) ≡ refused n → ⊥
    not-by-arrival true g e = not-by b GROUP refl e
    not-by-arrival false g e = arrival-not b t _ _ network _ f out e

    go : (x : Said Tag) → (answer t (arrival t network f out (admitted f x)) ≡ refused n) ↔ ((take_from f out x).said ≡ refused n)
    go (refused j) = alike
    go (answers g) = (λ e. absurd (not-by-arrival (group_source f) g e), λ e. absurd (take-not b f out g e))

-- ---- 8

-- what an arrival says at a lawful record
arrival-says : (t : Table) (i number network : ℕ) (rank : Rank) (f out : List ℕ) → i < length t → lawful (at t i) ≡ true
    → answer t (arrival_at t i number network rank (length f - 6) (untagged f) out) ≡ cond (ltb (length out) (length f - 6)) (refused ROOM) (answer t (arrive i number network rank (untagged f)))
unfolding arrival_at answer
arrival-says t i number network rank f out h l = simp (lt-leb (length t) i h, l) (go (ltb (length out) (length f - 6)))
  where
    go : (r : Bool) → answer t (cond r (refuse ROOM) (arrive i number network rank (untagged f))) ≡ cond r (answer t (refuse ROOM)) (answer t (arrive i number network rank (untagged f)))
    go true = refl
    go false = refl

-- the slot of a frame that was read
slot_of : (t : Table) (f : List ℕ) (g : Tag) → read_of f ≡ answers g → search (hears false g.header.dest g.header.vlan) t ≡ search (hears false (dest_of f) (vlan_of f)) t
unfolding header_of
slot_of t f g e = ap (λ (h : Header). search (hears false h.dest h.vlan) t) (tag_of f g e).same

pub take-refuses-alike : TakeRefusesAlike
unfolding take_tag take_from arrival answer
take-refuses-alike t network f out n m k s w l = rw (past t network f out m k, admits-all f (read_of f) s) (go (read_of f) refl)
  where
    small : (r : Bool) (x : Answer) (y : Bare) → (cond r (refused ROOM) (answers x) ≡ refused n) ↔ (cond r (refused ROOM) (answers y) ≡ refused n)
    small true x y = alike
    small false x y = (λ e. absurd (let z : ◌≡◌ {A = ℕ} 0 1 = cc in omega arith), λ e. absurd (let z : ◌≡◌ {A = ℕ} 0 1 = cc in omega arith))

    go : (x : Said Tag) → read_of f ≡ x → (answer t (arrival t network f out x) ≡ refused n) ↔ ((take_from f out x).said ≡ refused n)
    go (refused j) e = alike
    go (answers g) e =
        let p = slot_of t f g e in
        let a = arrival-says t _ g.number network g.header.rank f out (some-place _ t w) l in
        rw (p, a, take-says f out g) (small (ltb (length out) (length f - 6)) _ _)

-- ---- what is written
abbrev Takes : (f out : List ℕ) → Act → Type 0
Takes f out (refuse n) = Unit {0}
Takes f out (arrive i number network rank bare) =
    take_tag f out ≡ record { said = answers (record { number = number; length = length bare }); bytes = written_for up bare out }
Takes f out (opens i s) = Unit {0}
Takes f out (closes i) = Unit {0}
Takes f out (resets i) = Unit {0}
Takes f out ticks = Unit {0}

record Taken (f out : List ℕ) (a : Act) : Type 0 where
  fact : Takes f out a

taken : {f out : List ℕ} (b : Bool) {x y : Act} → (b ≡ true → Taken f out x) → (b ≡ false → Taken f out y) → Taken f out (cond b x y)
taken true p q = p refl
taken false p q = q refl

tag-out : (f out : List ℕ) (g : Tag) → read_of f ≡ answers g → ltb (length out) (length f - 6) ≡ false
    → take_tag f out ≡ record { said = answers (record { number = g.number; length = length (untagged f) }); bytes = overlay (untagged f) out }
unfolding take_tag take_from
tag-out f out g e r = rw (e, r, bare-length f (type_at f) (omega (arith, (tag_of f g e).room)))

module _ (t : Table) (network : ℕ) (f out : List ℕ) where
  nothing : {n : ℕ} → Taken f out (refuse n)
  nothing = record { fact = tt }

  read : (x : Said Tag) → admitted f (read_of f) ≡ x → Taken f out (arrival t network f out x)
  unfolding arrival arrival_at
  read (refused n) e = nothing
  read (answers g) e =
      taken (leb (length t) _) (λ h. nothing) (λ h. taken (not (lawful _)) (λ l. nothing)
      (λ l. taken (ltb (length out) (length f - 6)) (λ r. nothing) (λ r. record { fact = tag-out f out g (admits f (read_of f) e).1 r })))

  all : Taken f out (act t (arriving network f out))
  unfolding act checked
  all = taken (ltb slots_most (length t)) (λ e. nothing) (λ e. taken (ltb 1 network) (λ e. nothing) (λ e. read (admitted f (read_of f)) refl))

pub take-writes-alike : TakeWritesAlike
take-writes-alike t network f out i number rank bare e = let k = rw e at (all t network f out) in k.fact

-- ---- a group source

pub group-reaches-none : GroupReachesNone
unfolding act checked admitted arrival answer
group-reaches-none t network f out s = go (ltb slots_most (length t)) (ltb 1 network) (read_of f)
  where
    go : (a b : Bool) (x : Said Tag) → (n : ℕ) × (answer t (cond a (refuse TABLE) (cond b (refuse NETWORK) (arrival t network f out (admitted f x)))) ≡ refused n)
    go true b x = (TABLE, refl)
    go false true x = (NETWORK, refl)
    go false false (refused k) = (k, refl)
    go false false (answers g) = (GROUP, rw s)

pub group-refused : GroupRefused
unfolding arrival answer
group-refused t network f out g m k e s = rw (past t network f out m k, e, admits-none f g s)
