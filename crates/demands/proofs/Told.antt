-- What the answer to a call tells of it. Assumes nothing.
use Prim.Native.Nat.{ℕ, ◌-◌, ◌≤◌}
use mathlib.Core.Path.{◌≡◌, refl, ap, sym, ◌∙◌}
use mathlib.Core.Bool.{Bool, true, false, not}
use mathlib.Core.List.{List}
use native.Mathlib.Omega.{arith}
use lib.Dec.{leb, ltb}
use lib.ListN.{length, set}
use borrow.Author.Tests.{leb-false, not-false}
use Rattle.refusal.specs.Checks.{Said}
use Rattle.refusal.specs.Checks.Said.{refused, answers}
use Rattle.refusal.specs.Numbers.{TABLE, NETWORK, LONG, SHORT, GROUP, UNKNOWN, DAMAGED, ROOM}
use Rattle.std.specs.Prelude.{if◌then◌else◌}
use Rattle.record.specs.declared.Stream.{Stream}
use Rattle.record.specs.Sizes.{slots_most, frame_most, link_rule}
use Rattle.frame.specs.Frame.{Tag, number_in, read_of, header_of, rank_of, dest_of, group_source, untagged, unranked}
use Rattle.frame.specs.Link.{link_least, link_of, last_byte, but_last}
use Rattle.frame.specs.declared.Header.{Header}
use Rattle.frame.specs.declared.Rank.{Rank}
use Rattle.frame.proofs.Heads.{tag_of}
use Rattle.stream.specs.Record.{lawful}
use Rattle.stream.specs.Decisions.{verdict}
use Rattle.stream.proofs.Logic.{tests}
use Rattle.stream.proofs.Law.{law}
use Rattle.calls.specs.Table.{Table, at, search, of_links, hears}
use Rattle.calls.specs.Calls.{arriving, linking, Act, refuse, arrive, opens, closes, resets, ticks, admitted, arrival_at, arrival, link_arrival, checked, act, after, answer, Verdict, arrived, verdict_with}
use Rattle.calls.proofs.Admits.{admits}
use Rattle.index.proofs.Search.{found}
use Rattle.demands.specs.Receiver.{Receiver, MeetsContract, the_receiver}
use Rattle.demands.specs.Seen.{told}
use Rattle.demands.specs.Demand2.{ArrivalsRecovered, LinksRecovered}
use Rattle.demands.proofs.Alike.{carried}
use Rattle.demands.proofs.Slot.{told_with}
use Rattle.demands.proofs.Forward.{link-decides}

-- An arrival that is answered: the act is one, with what the answer tells.
pub record Arrived (t : Table) (a : Act) (i n : ℕ) (x : Rank) (v : Verdict) : Type 0 where
  pub network : ℕ
  pub bare : List ℕ
  pub act : a ≡ arrive i n network x bare
  pub verdict : told v ≡ verdict (at t i) n

pub answered-arrival : (t : Table) (a : Act) (i n : ℕ) (x : Rank) (v : Verdict) → answer t a ≡ answers (arrived i n x v) → Arrived t a i n x v
unfolding answer
answered-arrival t (refuse r) i n x v e = absurd (let z : ◌≡◌ {A = ℕ} 0 1 = cc in omega arith)
answered-arrival t (arrive j m w y bare) i n x v e =
    let p : j ≡ i = cc in
    let q : m ≡ n = cc in
    let r : verdict_with (length bare) (verdict (at t j) m) ≡ v = cc in
    record {
      network = w;
      bare = bare;
      act = cc;
      verdict = ap told (sym r) ∙ told_with (length bare) (verdict (at t j) m) ∙ cc;
    }
answered-arrival t (opens j s) i n x v e = absurd (let z : ◌≡◌ {A = ℕ} 0 1 = cc in omega arith)
answered-arrival t (closes j) i n x v e = absurd (let z : ◌≡◌ {A = ℕ} 0 1 = cc in omega arith)
answered-arrival t (resets j) i n x v e = absurd (let z : ◌≡◌ {A = ℕ} 0 1 = cc in omega arith)
answered-arrival t ticks i n x v e = absurd (let z : ◌≡◌ {A = ℕ} 0 1 = cc in omega arith)

-- What is known of an arrival that is not refused: of its slot, its number, its network and its priority.
abbrev Of : ((i n w : ℕ) → Rank → Type 0) → Act → Type 0
Of P (refuse n) = Unit {0}
Of P (arrive i n w x bare) = P i n w x
Of P (opens i s) = Unit {0}
Of P (closes i) = Unit {0}
Of P (resets i) = Unit {0}
Of P ticks = Unit {0}

record Fits (P : (i n w : ℕ) → Rank → Type 0) (a : Act) : Type 0 where
  fact : Of P a

module _ (P : (i n w : ℕ) → Rank → Type 0) where
  no : (n : ℕ) → Fits P (refuse n)
  no n = record { fact = tt }

  branch : (b : Bool) {x y : Act} → Fits P x → (b ≡ false → Fits P y) → Fits P (if b then x else y)
  branch true p q = p
  branch false p q = q refl

  -- its slot hears it, and is lawful
  slot-fits : (t : Table) (key : Stream → Bool) (number network : ℕ) (rank : Rank) (need : ℕ) (bare out : List ℕ)
      → (key (at t (search key t)) ≡ true → lawful (at t (search key t)) ≡ true → P (search key t) number network rank)
      → Fits P (arrival_at t (search key t) number network rank need bare out)
  unfolding arrival_at
  slot-fits t key number network rank need bare out h =
      let j : ℕ = search key t in
      branch (leb (length t) j) (no UNKNOWN) (λ e.
      branch (not (lawful (at t j))) (no DAMAGED) (λ l.
      branch (ltb (length out) need) (no ROOM) (λ r.
      record { fact = h (found key t (leb-false (length t) j e)) (not-false _ l) })))

-- ---- the number in the tag, on the network that it came by, and the VLAN tag's priority
module _ (t : Table) (network : ℕ) (f out : List ℕ) where
  abbrev Tagged : (i n w : ℕ) → Rank → Type 0
  Tagged i n w x = (n ≡ number_in f) × (w ≡ network) × (x ≡ rank_of f)

  arrival-fits : (r : Said Tag) → ((g : Tag) → r ≡ answers g → (g.number ≡ number_in f) × (g.header.rank ≡ rank_of f)) → Fits Tagged (arrival t network f out r)
  unfolding arrival
  arrival-fits (refused n) h = no Tagged n
  arrival-fits (answers g) h = slot-fits Tagged t (hears false g.header.dest g.header.vlan) g.number network g.header.rank (length f - 6) (untagged f) out (λ k l. ((h g refl).0, refl, (h g refl).1))

  act-fits : Fits Tagged (act t (arriving network f out))
  unfolding act checked header_of
  act-fits =
      branch Tagged (ltb slots_most (length t)) (no Tagged TABLE) (λ e.
      branch Tagged (ltb 1 network) (no Tagged NETWORK) (λ w.
      arrival-fits (admitted f (read_of f)) (λ g e. let k = tag_of f g (admits f (read_of f) e).1 in (k.number, ap (λ (x : Header). x.rank) k.same))))

recovered : ArrivalsRecovered the_receiver
unfolding the_receiver after
recovered t network f out i n x v e =
    let a = answered-arrival t (act t (arriving network f out)) i n x v e in
    let o : Fits (Tagged t network f out) (arrive i n a.network x a.bare) = rw a.act at (act-fits t network f out) in
    record {
      number = o.fact.0;
      rank = o.fact.2;
      verdict = a.verdict;
      records = rw (a.act, o.fact.1);
    }

-- ---- of a virtual link the last byte, and its slot has rule 3 (order 10)
heard-rule : (dest : ℕ) (s : Stream) → hears true dest 0 s ≡ true → s.rule ≡ link_rule
unfolding hears of_links
heard-rule dest s e = (simp tests at e).1

module _ (t : Table) (network : ℕ) (f out : List ℕ) where
  abbrev Linked : (i n w : ℕ) → Rank → Type 0
  Linked i n w x = (n ≡ last_byte f) × (w ≡ network) × (x ≡ unranked) × ((at t i).rule ≡ link_rule) × (lawful (at t i) ≡ true)

  link_fits : Fits Linked (link_arrival t network f out (link_of f))
  unfolding link_arrival link_of
  link_fits = go (ltb frame_most (length f)) (ltb (length f) link_least) (group_source f)
    where
      go : (a b c : Bool) → Fits Linked (link_arrival t network f out (if a then refused LONG else if b then refused SHORT else if c then refused GROUP else answers (record { dest = dest_of f; number = last_byte f })))
      go true b c = no Linked LONG
      go false true c = no Linked SHORT
      go false false true = no Linked GROUP
      go false false false =
          slot-fits Linked t (hears true (dest_of f) 0) (last_byte f) network unranked (length f - 1) (but_last f) out (λ k l. (refl, refl, refl, heard-rule (dest_of f) _ k, l))

  link-act-fits : Fits Linked (act t (linking network f out))
  unfolding act checked
  link-act-fits = branch Linked (ltb slots_most (length t)) (no Linked TABLE) (λ e. branch Linked (ltb 1 network) (no Linked NETWORK) (λ w. link_fits))

last-most : (f : List ℕ) → last_byte f ≤ 255
unfolding last_byte
last-most f = omega arith

link-recovered : LinksRecovered the_receiver
unfolding the_receiver after
link-recovered t network f out i n x v e =
    let a = answered-arrival t (act t (linking network f out)) i n x v e in
    let o : Fits (Linked t network f out) (arrive i n a.network x a.bare) = rw a.act at (link-act-fits t network f out) in
    let b : n ≡ last_byte f = o.fact.0 in
    let l : n ≤ 255 = let m = last-most f in omega (arith, b, m) in
    let d = link-decides (at t i) (law o.fact.4) o.fact.3 n network l in
    record {
      rule = o.fact.3;
      number = b;
      rank = o.fact.2;
      verdict = a.verdict ∙ d.0;
      records = rw (a.act, o.fact.1) (ap (set t i) d.1);
    }

pub links-recovered : {receive : Receiver} → MeetsContract receive → LinksRecovered receive
links-recovered m = carried LinksRecovered link-recovered m

pub arrivals-recovered : {receive : Receiver} → MeetsContract receive → ArrivalsRecovered receive
arrivals-recovered m = carried ArrivalsRecovered recovered m
