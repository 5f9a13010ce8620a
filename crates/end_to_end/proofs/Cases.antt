-- What a call comes to: what is shown of each case holds of the call. Assumes nothing.
use Prim.Native.Nat.{ℕ, ◌-◌}
use mathlib.Core.Path.{◌≡◌, refl}
use mathlib.Core.Bool.{Bool, true, false, not}
use mathlib.Core.List.{List}
use lib.Dec.{leb, ltb}
use lib.ListN.{length}
use Rattle.refusal.specs.Checks.{Said}
use Rattle.refusal.specs.Checks.Said.{refused, answers}
use Rattle.refusal.specs.Numbers.{TABLE, NETWORK, UNKNOWN, DAMAGED, ROOM, SETTING, TAKEN, FULL, SLOT}
use Rattle.record.specs.declared.Stream.{Stream}
use Rattle.std.specs.Prelude.{if◌then◌else◌}
use Rattle.record.specs.Sizes.{slots_most}
use Rattle.frame.specs.Frame.{Tag, dest_of, read_of, untagged, unranked}
use Rattle.frame.specs.Link.{Link, link_of, but_last}
use Rattle.stream.specs.Record.{settled, lawful, opened}
use Rattle.calls.specs.Table.{Table, at, search, some_slot, has_key, hears, is_free}
use Rattle.calls.specs.Calls.{Call, arriving, linking, opening, closing, resetting, ticking, Act, refuse, arrive, opens, closes, resets, ticks, admitted, arrival_at, arrival, link_arrival, in_use, open-call, checked, act}
use Rattle.calls.proofs.Admits.{admits}

branch : (P : Act → Type 0) (b : Bool) {x y : Act} → (b ≡ true → P x) → (b ≡ false → P y) → P (if b then x else y)
branch P true p q = p refl
branch P false p q = q refl

module _ (t : Table) where
  -- An arrival has a frame that is read, an open a key that no slot has.
  pub record Each (P : Call → Act → Type 0) : Type 0 where
    pub refuses : (c : Call) (n : ℕ) → P c (refuse n)
    pub arrives : (network : ℕ) (f out : List ℕ) (g : Tag) (i : ℕ) → read_of f ≡ answers g → P (arriving network f out) (arrive i g.number network g.header.rank (untagged f))
    pub links : (network : ℕ) (f out : List ℕ) (g : Link) (i : ℕ) → link_of f ≡ answers g → P (linking network f out) (arrive i g.number network unranked (but_last f))
    pub opens : (dest : List ℕ) (vlan rule window time i : ℕ) → some_slot (has_key (dest_of dest) vlan) t ≡ false
        → P (opening dest vlan rule window time) (opens i (opened (dest_of dest) vlan rule window time))
    pub closes : (i : ℕ) → P (closing i) (closes i)
    pub resets : (i : ℕ) → P (resetting i) (resets i)
    pub ticks : P ticking ticks

  module _ {P : Call → Act → Type 0} (each : Each P) where
    arrival-case : (network : ℕ) (f out : List ℕ) (r : Said Tag) → admitted f (read_of f) ≡ r → P (arriving network f out) (arrival t network f out r)
    unfolding arrival arrival_at
    arrival-case network f out (refused n) e = each.refuses _ n
    arrival-case network f out (answers g) e =
        let c : Call = arriving network f out in
        let i : ℕ = search (hears false g.header.dest g.header.vlan) t in
        branch (P c) (leb (length t) i) (λ _. each.refuses c UNKNOWN) (λ _.
        branch (P c) (not (lawful (at t i))) (λ _. each.refuses c DAMAGED) (λ _.
        branch (P c) (ltb (length out) (length f - 6)) (λ _. each.refuses c ROOM) (λ _.
        each.arrives network f out g i (admits f (read_of f) e).1)))

    link-case : (network : ℕ) (f out : List ℕ) (r : Said Link) → link_of f ≡ r → P (linking network f out) (link_arrival t network f out r)
    unfolding link_arrival arrival_at
    link-case network f out (refused n) e = each.refuses _ n
    link-case network f out (answers g) e =
        let c : Call = linking network f out in
        let i : ℕ = search (hears true g.dest 0) t in
        branch (P c) (leb (length t) i) (λ _. each.refuses c UNKNOWN) (λ _.
        branch (P c) (not (lawful (at t i))) (λ _. each.refuses c DAMAGED) (λ _.
        branch (P c) (ltb (length out) (length f - 1)) (λ _. each.refuses c ROOM) (λ _.
        each.links network f out g i e)))

    checked-case : (c : Call) → P c (checked t c)
    unfolding checked open-call
    checked-case (arriving network f out) =
        let c : Call = arriving network f out in
        branch (P c) (ltb 1 network) (λ _. each.refuses c NETWORK) (λ _. arrival-case network f out (admitted f (read_of f)) refl)
    checked-case (linking network f out) =
        let c : Call = linking network f out in
        branch (P c) (ltb 1 network) (λ _. each.refuses c NETWORK) (λ _. link-case network f out (link_of f) refl)
    checked-case (opening dest vlan rule window time) =
        let c : Call = opening dest vlan rule window time in
        let s : Stream = opened (dest_of dest) vlan rule window time in
        branch (P c) (not (settled s)) (λ _. each.refuses c SETTING) (λ _.
        branch (P c) (some_slot (has_key s.dest s.vlan) t) (λ _. each.refuses c TAKEN) (λ e.
        branch (P c) (not (some_slot is_free t)) (λ _. each.refuses c FULL) (λ _.
        each.opens dest vlan rule window time (search is_free t) e)))
    checked-case (closing i) = branch (P (closing i)) (in_use t i) (λ _. each.closes i) (λ _. each.refuses _ SLOT)
    checked-case (resetting i) =
        branch (P (resetting i)) (not (in_use t i)) (λ _. each.refuses _ SLOT) (λ _.
        branch (P (resetting i)) (not (settled (at t i))) (λ _. each.refuses _ DAMAGED) (λ _. each.resets i))
    checked-case ticking = each.ticks

    pub act-case : (c : Call) → P c (act t c)
    unfolding act
    act-case c = branch (P c) (ltb slots_most (length t)) (λ _. each.refuses c TABLE) (λ _. checked-case c)
