-- A copy reaches the stream of its key. Assumes nothing.
use Prim.Native.Nat.{ℕ, zero, suc, ◌+◌, ◌-◌, ◌≤◌}
use mathlib.Core.Path.{◌≡◌, refl, sym, ap, ◌∙◌}
use mathlib.Core.Logic.{◌⊎◌, inl, inr}
use mathlib.Core.Bool.{true, false}
use mathlib.Core.Option.{some}
use mathlib.Core.List.{List, [], ◌∷◌, ◌++◌, append_assoc}
use native.Mathlib.Omega.{arith}
use lib.Dec.{ltb}
use lib.ListN.{length, take, drop}
use borrow.Author.Tests.{eq-eqb, le-ltb, lt-leb}
use Rattle.refusal.specs.Checks.{Said}
use Rattle.refusal.specs.Checks.Said.{refused, answers}
use Rattle.record.specs.Sizes.{slots_most}
use Rattle.frame.specs.Frame.{dest_of, vlan_of, type_at, is_tagged, group_source, read_of, untagged, tag_bytes, tag_at, tagged, rank_of}
use Rattle.frame.proofs.Heads.{type-least}
use Rattle.frame.proofs.Words.{same_source}
use Rattle.frame.proofs.Writes.{tag-length, wrote-is}
use Rattle.stream.specs.Record.{lawful}
use Rattle.calls.specs.Table.{Table, at, hears as hears_key}
use Rattle.calls.specs.Calls.{Call, arriving, arrive, arrival, arrival_at, checked, act, answer}
use Rattle.calls.proofs.Admits.{admits-all}
use Rattle.calls.proofs.Lowest.{lowest-found}
use Rattle.demands.specs.Receiver.{Receiver, MeetsContract, the_receiver, run}
use Rattle.demands.specs.Seen.{answered, seen_of, log, numbers}
use Rattle.demands.specs.Demand3.{number_of}
use Rattle.demands.proofs.Alike.{carried}
use Rattle.demands.proofs.Three.{inside}
use Rattle.sender.specs.declared.Sender.{Sender}
use Rattle.sender.specs.Sender.{Numbered}
use Rattle.sender.specs.Runs as sends
use Rattle.sender.specs.Runs.{sending, resetting, Side, MeetsSide, Pair, pair_of, sent, nth, Carries}
use Rattle.sender.proofs.Laws.{send-done-is}
use Rattle.sender.proofs.Numbers.{sent-from}
use Rattle.end_to_end.specs.Bytes.{Ours, Called, CopiesAreHeard}
use Rattle.end_to_end.proofs.Ours.{lives-on, Held, found-there, held_on}

-- ---- what was sent, the writer had accepted

-- A frame with a type field, no tag and a source that is no group.
pub record Accepted (f : List ℕ) : Type 0 where
  pub room : type_at f + 2 ≤ length f
  pub plain : is_tagged f ≡ false
  pub source : group_source f ≡ false

-- its source is no group's with a tag either
tagged-too : (f : List ℕ) (n : ℕ) → Accepted f → group_source (tagged f n) ≡ false
unfolding tag_at
tagged-too f n d =
    let o : ℕ = type_at f in
    ap group_source (append_assoc (take o f) (tag_bytes n) (drop o f)) ∙ same_source o f _ (type-least f).0 (omega arith) ∙ d.source

pub accepted : (side : Side) → MeetsSide side → (s : Sender) (calls : List sends.Call) (k : ℕ) (p : Pair)
    → nth (sent side s calls) k ≡ some p → Accepted p.given
unfolding sent pair_of nth
accepted side m s [] k p e = absurd (let z : ◌≡◌ {A = ℕ} 0 1 = cc in omega arith)
accepted side m s (resetting ∷ cs) k p e = accepted side m (side.reset s) cs k p e
accepted side m s (sending f out0 out1 ∷ cs) k p e =
    go (side.send s f out0 out1).said refl k e (λ j q. accepted side m (side.send s f out0 out1).sender cs j p q)
  where
    rest : List Pair
    rest = sent side (side.send s f out0 out1).sender cs

    first : Numbered → Pair
    first a = record { given = f; copy0 = take a.length (side.send s f out0 out1).out0; copy1 = take a.length (side.send s f out0 out1).out1 }

    here : (a : Numbered) → (side.send s f out0 out1).said ≡ answers a → Accepted f
    here a q =
        let w = wrote-is f s.next (send-done-is s f out0 out1 a (ap (λ x. x.said) (sym (m.send s f out0 out1)) ∙ q)).wrote in
        record { room = w.room; plain = w.plain; source = w.remains }

    go : (x : Said Numbered) → (side.send s f out0 out1).said ≡ x → (k : ℕ)
        → nth (pair_of f (side.send s f out0 out1) x ++ rest) k ≡ some p
        → ((j : ℕ) → nth rest j ≡ some p → Accepted p.given) → Accepted p.given
    go (refused n) q k e later = later k e
    go (answers a) q zero e later = let z : first a ≡ p = cc in rw (ap (λ (x : Pair). x.given) z) at (here a q)
    go (answers a) q (suc k) e later = later k e

-- Both copies are the given frame with its tag.
pub same_copy : {p : Pair} {n : ℕ} {f : List ℕ} → Carries p n → (f ≡ p.copy0) ⊎ (f ≡ p.copy1) → f ≡ tagged p.given n
same_copy y (inl q) = q ∙ y.copy0
same_copy y (inr q) = q ∙ y.copy1

-- ---- it is heard

-- What the reader finds in a frame with its tag.
abbrev ReadAs : (given : List ℕ) (n : ℕ) → Type 0
ReadAs given n =
    read_of (tagged given n)
    ≡ answers (record { header = record { dest = dest_of given; vlan = vlan_of given; at = type_at given; tagged = true; rank = rank_of given }; number = n })

-- A call with a tagged frame, where nothing refuses it.
module _ (given : List ℕ) (n : ℕ) (t : Table) (i network : ℕ) (out : List ℕ) where
  abbrev frame : List ℕ
  frame = tagged given n

  abbrev call : Call
  call = arriving network frame out

  -- The tag is six bytes, and these are not written to the output.
  room_for : Accepted given → length given ≤ length out → ltb (length out) (length frame - 6) ≡ false
  room_for d h =
      let l = tag-length given (type_at given) n (omega (arith, d.room)) in
      le-ltb (length out) (length frame - 6) (omega (arith, l, h))

  -- It reaches the stream,
  reaches : Accepted given → ReadAs given n → Held (dest_of given) (vlan_of given) t i → Called t network given out
      → act t call ≡ arrive i n network (rank_of given) (untagged frame)
  unfolding act checked arrival arrival_at
  reaches d r h c =
      let tag = admits-all frame (read_of frame) (tagged-too given n d) ∙ r in
      rw (
        le-ltb slots_most (length t) c.slots,
        le-ltb 1 network c.network,
        tag,
        found-there (dest_of given) (vlan_of given) h,
        lt-leb (length t) i h.within,
        h.lawful,
        room_for d c.room,
      )

  -- and the stream hears its number.
  hears : act t call ≡ arrive i n network (rank_of given) (untagged frame) → numbers (log the_receiver i t (call ∷ [])) ≡ n ∷ []
  unfolding log numbers the_receiver answer seen_of answered
  hears e = rw (e, eq-eqb i i refl)

-- The start of the run.
held-at-first : (given : List ℕ) (t : Table) (i : ℕ) → Ours t i given → lawful (at t i) ≡ true → Held (dest_of given) (vlan_of given) t i
held-at-first given t i o l =
    let f = lowest-found (hears_key false (dest_of given) (vlan_of given)) t o.some in
    record { within = inside t i l; lawful = l; has = rw o.lowest at f.1; below = rw o.lowest at f.2 }

heard-so : {side : Side} → MeetsSide side → CopiesAreHeard the_receiver side
heard-so {side} m s sendings k p t i calls es network f out w e c o l alive called =
    let n : ℕ = number_of (s.next + k) in
    let y : Carries p n = sent-from side m s sendings k p w e in
    let z : f ≡ tagged p.given n = same_copy y c in
    let h = held_on (dest_of p.given) (vlan_of p.given) t i calls (held-at-first p.given t i o l)
    (lives-on (log the_receiver i t calls) es alive) in
    let u : Table = run the_receiver t calls in
    rw z (hears p.given n u i network out (reaches p.given n u i network out (accepted side m s sendings k p e) y.read h called))

pub copies-are-heard : {receive : Receiver} → MeetsContract receive → {side : Side} → MeetsSide side → CopiesAreHeard receive side
copies-are-heard r {side} m = carried (λ receive. CopiesAreHeard receive side) (heard-so m) r
