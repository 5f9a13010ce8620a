-- Each arrival of a stream is seen by it or refused, and then with 1, 2, 7 or 8. Assumes nothing.
use Prim.Native.Nat.{ℕ, ◌-◌}
use mathlib.Core.Path.{◌≡◌, refl, ap, sym, ◌∙◌}
use mathlib.Core.Bool.{Bool, true, false, not}
use mathlib.Core.List.{List, [], ◌∷◌, ◌++◌, nil≢cons, append-eq-nil_iff}
use native.Mathlib.Omega.{arith}
use lib.Dec.{eqb, leb, ltb}
use lib.ListN.{length}
use borrow.Author.Tests.{lt-ltb, le-ltb, leb-true, leb-false}
use Rattle.refusal.specs.Checks.{Said}
use Rattle.refusal.specs.Checks.Said.{refused, answers}
use Rattle.refusal.specs.Numbers.{TABLE, NETWORK, UNKNOWN, DAMAGED, ROOM, SETTING, TAKEN, FULL, SLOT}
use Rattle.record.specs.declared.Stream.{Stream}
use Rattle.std.specs.Prelude.{if◌then◌else◌}
use Rattle.record.specs.Sizes.{slots_most}
use Rattle.frame.specs.Frame.{Tag, dest_of, read_of, untagged, unranked}
use Rattle.frame.specs.Link.{Link, link_of, but_last}
use Rattle.frame.specs.declared.Rank.{Rank}
use Rattle.stream.specs.Record.{settled, lawful, opened}
use Rattle.stream.specs.Decisions.{verdict}
use Rattle.calls.specs.Table.{Table, at, search, some_slot, has_key, hears, is_free}
use Rattle.calls.specs.Calls.{Call, arriving, linking, opening, closing, resetting, ticking, Act, refuse, arrive, admitted, arrival_at, arrival, link_arrival, in_use, open-call, checked, act, answer, Answer, Result, verdict_with}
use Rattle.calls.specs.Calls as calls
use Rattle.demands.specs.Receiver.{Receiver, MeetsContract, the_receiver}
use Rattle.demands.specs.Seen.{Seen, arrived, tick, ended, nothing, told, heard, answered, seen_of, seen, log, numbers}
use Rattle.demands.specs.Unlimited.{elem}
use Rattle.demands.specs.Missed.{if_lowest, number_for, link_number_for, arrival_of, turned_away, arrivals, refused_arrivals, SeenOrRefused, refusals, RefusedWith}
use Rattle.demands.proofs.Alike.{carried}
use Rattle.demands.proofs.Slot.{result_of}

module _ (i : ℕ) (t : Table) where
  -- The call c comes to a.
  record Tells (c : Call) (a : Act) : Type 0 where
    fits : arrival_of i t c ≡ numbers (seen i t c (result_of t c a) ∷ []) ++ turned_away i t c (answer t a)
    refuses : (number n : ℕ) → arrival_of i t c ≡ number ∷ [] → answer t a ≡ refused n → elem n refusals ≡ true

  branch : {c : Call} (b : Bool) {x y : Act} → (b ≡ true → Tells c x) → (b ≡ false → Tells c y) → Tells c (if b then x else y)
  branch true f g = f refl
  branch false f g = g refl

  -- a refusal with one of the four,
  of_four : {c : Call} (k : ℕ) → elem k refusals ≡ true → Tells c (refuse k)
  unfolding answer seen_of numbers
  of_four k e = record { fits = refl; refuses = λ number n s r. (let z : k ≡ n = cc in ap (λ (m : ℕ). elem m refusals) (sym z) ∙ e) }

  -- and one of a call that is no arrival of this stream.
  not-sent : {c : Call} (k : ℕ) → arrival_of i t c ≡ [] → Tells c (refuse k)
  unfolding answer seen_of numbers
  not-sent k e = record { fits = refl; refuses = λ number n s r. absurd (nil≢cons (sym e ∙ s)) }

  -- an arrival of either family
  module _ (c : Call) (h : (r : Result) (a : Answer) → answered i t c r a ≡ heard i a) (key : Stream → Bool) (n : ℕ) (e : arrival_of i t c ≡ if_lowest i t key n) where
    arrives : (w : ℕ) (rank : Rank) (bare : List ℕ) → ltb (search key t) (length t) ≡ true → Tells c (arrive (search key t) n w rank bare)
    unfolding answer seen_of numbers some_slot
    arrives w rank bare b = record {
      fits = rw (e, h (result_of t c (arrive (search key t) n w rank bare)) (calls.arrived (search key t) n rank v)) (go (eqb (search key t) i) refl);
      refuses = λ number m s r. absurd (let z : ◌≡◌ {A = ℕ} 0 1 = cc in omega arith);
    }
      where
        v : calls.Verdict
        v = verdict_with (length bare) (verdict (at t (search key t)) n)

        go : (x : Bool) → eqb (search key t) i ≡ x → if_lowest i t key n ≡ numbers ((if eqb (search key t) i then arrived n (told v) else nothing) ∷ []) ++ []
        go true q = rw (b, q)
        go false q = rw (b, q)

    slot-tells : (network : ℕ) (rank : Rank) (need : ℕ) (bare out : List ℕ) → Tells c (arrival_at t (search key t) n network rank need bare out)
    unfolding arrival_at elem some_slot
    slot-tells network rank need bare out =
        let j : ℕ = search key t in
        branch (leb (length t) j) (λ q. not-sent UNKNOWN (rw (e, le-ltb j (length t) (leb-true (length t) j q)))) (λ q.
        branch (not (lawful (at t j))) (λ _. of_four DAMAGED refl) (λ _.
        branch (ltb (length out) need) (λ _. of_four ROOM refl) (λ _.
        arrives network rank bare (lt-ltb j (length t) (omega (arith, leb-false (length t) j q))))))

  module _ (network : ℕ) (f out : List ℕ) where
    arrival-tells : (r : Said Tag) → admitted f (read_of f) ≡ r → Tells (arriving network f out) (arrival t network f out r)
    unfolding arrival answered number_for
    arrival-tells (refused n) e = not-sent n (rw e)
    arrival-tells (answers g) e =
        slot-tells (arriving network f out) (λ r a. refl) (hears false g.header.dest g.header.vlan) g.number (rw e) network g.header.rank (length f - 6) (untagged f) out

    link-tells : (r : Said Link) → link_of f ≡ r → Tells (linking network f out) (link_arrival t network f out r)
    unfolding link_arrival answered link_number_for
    link-tells (refused n) e = not-sent n (rw e)
    link-tells (answers g) e =
        slot-tells (linking network f out) (λ r a. refl) (hears true g.dest 0) g.number (rw e) network unranked (length f - 1) (but_last f) out

  -- A close or a reset is no arrival, whichever slot it is for.
  unheard : (b : Bool) → ◌≡◌ {A = List ℕ} [] (numbers ((if b then ended else nothing) ∷ []) ++ [])
  unfolding numbers
  unheard true = refl
  unheard false = refl

  -- Of the calls, an arrival alone is one.
  checked-tells : (c : Call) → Tells c (checked t c)
  unfolding checked open-call answer seen_of answered numbers elem
  checked-tells (arriving network f out) =
      branch (ltb 1 network) (λ _. of_four NETWORK refl) (λ _. arrival-tells network f out (admitted f (read_of f)) refl)
  checked-tells (linking network f out) =
      branch (ltb 1 network) (λ _. of_four NETWORK refl) (λ _. link-tells network f out (link_of f) refl)
  checked-tells (opening dest vlan rule window time) =
      let s : Stream = opened (dest_of dest) vlan rule window time in
      branch (not (settled s)) (λ _. not-sent SETTING refl) (λ _.
      branch (some_slot (has_key s.dest s.vlan) t) (λ _. not-sent TAKEN refl) (λ _.
      branch (not (some_slot is_free t)) (λ _. not-sent FULL refl) (λ _.
      record { fits = refl; refuses = λ number n s r. absurd (nil≢cons s) })))
  checked-tells (closing j) = branch (in_use t j) (λ _. record { fits = unheard (eqb j i); refuses = λ number n s r. absurd (nil≢cons s) }) (λ _. not-sent SLOT refl)
  checked-tells (resetting j) =
      branch (not (in_use t j)) (λ _. not-sent SLOT refl) (λ _.
      branch (not (settled (at t j))) (λ _. not-sent DAMAGED refl) (λ _.
      record { fits = unheard (eqb j i); refuses = λ number n s r. absurd (nil≢cons s) }))
  checked-tells ticking = record { fits = refl; refuses = λ number n s r. absurd (nil≢cons s) }

  act-tells : (c : Call) → Tells c (act t c)
  unfolding act elem
  act-tells c = branch (ltb slots_most (length t)) (λ _. of_four TABLE refl) (λ _. checked-tells c)

seen-or-so : SeenOrRefused the_receiver
unfolding the_receiver
seen-or-so t i c = (act-tells i t c).fits

pub seen-or-refused : {receive : Receiver} → MeetsContract receive → SeenOrRefused receive
seen-or-refused m = carried SeenOrRefused seen-or-so m

with-so : RefusedWith the_receiver
unfolding the_receiver
with-so t i c number n s r = (act-tells i t c).refuses number n s r

pub refused-with : {receive : Receiver} → MeetsContract receive → RefusedWith receive
refused-with m = carried RefusedWith with-so m

-- ---- over a run

joined : (s : Seen) (es : List Seen) → (numbers (s ∷ []) ++ []) ++ numbers es ≡ numbers (s ∷ es)
unfolding numbers
joined (arrived n v) es = refl
joined (tick b) es = refl
joined ended es = refl
joined nothing es = refl

-- Where none is refused a stream sees all its arrivals.
pub all_seen : (t : Table) (i : ℕ) (cs : List Call) → refused_arrivals the_receiver i t cs ≡ []
    → arrivals the_receiver i t cs ≡ numbers (log the_receiver i t cs)
unfolding refused_arrivals arrivals log numbers
all_seen t i [] e = refl
all_seen t i (c ∷ cs) e =
    let u : Table = (the_receiver t c).table in
    let s : Seen = seen i t c (the_receiver t c) in
    let p = (append-eq-nil_iff {p = turned_away i t c (the_receiver t c).said} {q = refused_arrivals the_receiver i u cs}).0 e in
    let q : arrival_of i t c ≡ numbers (s ∷ []) ++ [] = seen-or-so t i c ∙ ap (λ (ns : List ℕ). numbers (s ∷ []) ++ ns) p.0 in
    (λ j. q j ++ all_seen u i cs p.1 j) ∙ joined s (log the_receiver i u cs)
