-- A call moves each record of the table as its slot sees it, and leaves every other as it is. Assumes nothing.
use Prim.Native.Nat.{ℕ, ◌<◌}
use mathlib.Core.Path.{◌≡◌, refl, ap, sym, ◌∙◌}
use mathlib.Core.Bool.{Bool, true, false, not, false≢true}
use mathlib.Core.List.{List, [], ◌∷◌}
use lib.Dec.{eqb, leb, ltb}
use lib.ListN.{length, set}
use lib.Seq.{get_or-set_same}
use borrow.Author.Tests.{eqb-true, not-false}
use Rattle.refusal.specs.Checks.{Said}
use Rattle.refusal.specs.Checks.Said.{refused, answers}
use Rattle.refusal.specs.Numbers.{TABLE, NETWORK, UNKNOWN, DAMAGED, ROOM, SETTING, TAKEN, FULL, SLOT}
use Rattle.record.specs.declared.Stream.{Stream}
use Rattle.std.specs.Prelude.{if◌then◌else◌}
use Rattle.record.specs.Words.{yes}
use Rattle.record.specs.Sizes.{slots_most}
use Rattle.frame.specs.Frame.{Tag, dest_of}
use Rattle.frame.specs.Link.{Link}
use Rattle.frame.specs.declared.Rank.{Rank}
use Rattle.stream.specs.Record.{settled, lawful, opened}
use Rattle.stream.specs.Decisions.{Verdict, up, duplicate, rogue, verdict, decided}
use Rattle.stream.proofs.Logic.{not_iff}
use Rattle.calls.specs.Table.{Table, at, search, some_slot, has_key, is_free}
use Rattle.calls.specs.Calls.{Call, arriving, linking, opening, closing, resetting, ticking, Act, refuse, arrive, opens, closes, resets, ticks, arrival_at, arrival, link_arrival, in_use, open-call, checked, act, after, answer, output, out_of, Answer, Result, verdict_with}
use Rattle.calls.specs.Calls as calls
use Rattle.calls.proofs.Kept.{length-kept, other}
use Rattle.calls.proofs.Lowest.{lowest-found}
use Rattle.calls.proofs.Sound.{at-ticked}
use Rattle.demands.specs.Receiver.{the_receiver, run}
use Rattle.demands.specs.Seen.{arrived, ended, nothing, told, heard, answered, seen_of, seen, log}
use Rattle.demands.proofs.Moves.{Moves, Trace}

pub at_set : (t : Table) (i : ℕ) (u : Stream) → i < length t → at (set t i u) i ≡ u
at_set t i u b = get_or-set_same t i u _ b

-- What the call c leaves of a table t where it comes to a.
abbrev pub result_of : Table → Call → Act → Result
result_of t c a = record { said = answer t a; table = after t a; output = output t (out_of c) a }

pub told_with : (l : ℕ) (v : Verdict) → told (verdict_with l v) ≡ v
told_with l up = refl
told_with l duplicate = refl
told_with l rogue = refl

module _ (i : ℕ) (t : Table) (within : i < length t) where
  pub record Sound (c : Call) (a : Act) : Type 0 where
    pub moves : Moves (at t i) (seen i t c (result_of t c a)) (at (after t a) i)

  branch : {c : Call} (b : Bool) {x y : Act} → (b ≡ true → Sound c x) → (b ≡ false → Sound c y) → Sound c (if b then x else y)
  branch true f g = f refl
  branch false f g = g refl

  -- one rule for each act
  refuses : {c : Call} (n : ℕ) → Sound c (refuse n)
  unfolding answer after seen_of
  refuses n = record { moves = λ u. refl }

  -- an arrival of either family, which the stream sees as the answer tells
  arrives : (c : Call) → ((r : Result) (a : Answer) → answered i t c r a ≡ heard i a) → (j n w : ℕ) (rank : Rank) (bare : List ℕ) → Sound c (arrive j n w rank bare)
  unfolding answer after seen_of
  arrives c h j n w rank bare = record { moves = rw (h (result_of t c (arrive j n w rank bare)) (calls.arrived j n rank (verdict_with (length bare) (verdict (at t j) n)))) (go (eqb j i) refl) }
    where
      go : (v : Bool) → eqb j i ≡ v
          → Moves (at t i) (if eqb j i then arrived n (told (verdict_with (length bare) (verdict (at t j) n))) else nothing)
          (at (set t j (decided (at t j) n w)) i)
      go true e =
          let q : j ≡ i = eqb-true j i e in
          rw e (told_with (length bare) (verdict (at t j) n) ∙ ap (λ (k : ℕ). verdict (at t k) n) q, (w, rw q (at_set t i _ within)))
      go false e = rw e (λ u. other t j i _ e)

  -- An open takes a slot that is free.
  fills : (dest : List ℕ) (vlan rule window time j : ℕ) (s : Stream) → is_free (at t j) ≡ true
      → Sound (opening dest vlan rule window time) (opens j s)
  unfolding answer after seen_of answered is_free
  fills dest vlan rule window time j s f = record { moves = λ u. other t j i s (go (eqb j i) refl u) }
    where
      go : (v : Bool) → eqb j i ≡ v → yes (at t i).used ≡ true → eqb j i ≡ false
      go true e u = absurd (false≢true (sym (rw (eqb-true j i e) at ((not_iff (yes (at t j).used)).0 f)) ∙ u))
      go false e u = e

  shuts : (j : ℕ) → Sound (closing j) (closes j)
  unfolding answer after seen_of answered
  shuts j = record { moves = go (eqb j i) refl }
    where
      go : (v : Bool) → eqb j i ≡ v → Moves (at t i) (if eqb j i then ended else nothing) (at (after t (closes j)) i)
      go true e = rw e tt
      go false e = rw e (λ u. other t j i _ e)

  mends : (j : ℕ) → Sound (resetting j) (resets j)
  unfolding answer after seen_of answered
  mends j = record { moves = go (eqb j i) refl }
    where
      go : (v : Bool) → eqb j i ≡ v → Moves (at t i) (if eqb j i then ended else nothing) (at (after t (resets j)) i)
      go true e = rw e tt
      go false e = rw e (λ u. other t j i _ e)

  ages : Sound ticking ticks
  unfolding answer after seen_of answered
  ages = record { moves = (refl, at-ticked t i) }

  -- the checks, in their order
  slot-sound : (c : Call) → ((r : Result) (a : Answer) → answered i t c r a ≡ heard i a) → (j n network : ℕ) (rank : Rank) (need : ℕ) (bare out : List ℕ) → Sound c (arrival_at t j n network rank need bare out)
  unfolding arrival_at
  slot-sound c h j n network rank need bare out =
      branch (leb (length t) j) (λ e. refuses UNKNOWN) (λ e.
      branch (not (lawful (at t j))) (λ e. refuses DAMAGED) (λ e.
      branch (ltb (length out) need) (λ e. refuses ROOM) (λ e.
      arrives c h j n network rank bare)))

  arrival-sound : (network : ℕ) (f out : List ℕ) (r : Said Tag) → Sound (arriving network f out) (arrival t network f out r)
  unfolding arrival answered
  arrival-sound network f out (refused n) = refuses n
  arrival-sound network f out (answers g) = slot-sound (arriving network f out) (λ r a. refl) _ _ _ _ _ _ _

  link-sound : (network : ℕ) (f out : List ℕ) (r : Said Link) → Sound (linking network f out) (link_arrival t network f out r)
  unfolding link_arrival answered
  link-sound network f out (refused n) = refuses n
  link-sound network f out (answers g) = slot-sound (linking network f out) (λ r a. refl) _ _ _ _ _ _ _

  open-sound : (dest : List ℕ) (vlan rule window time : ℕ) (s : Stream) → Sound (opening dest vlan rule window time) (open-call t s)
  unfolding open-call
  open-sound dest vlan rule window time s =
      branch (not (settled s)) (λ e. refuses SETTING) (λ e.
      branch (some_slot (has_key s.dest s.vlan) t) (λ e. refuses TAKEN) (λ e.
      branch (not (some_slot is_free t)) (λ e. refuses FULL) (λ e.
      fills dest vlan rule window time (search is_free t) s (lowest-found is_free t (not-false (some_slot is_free t) e)).1)))

  checked-sound : (c : Call) → Sound c (checked t c)
  unfolding checked
  checked-sound (arriving network f out) =
      branch (ltb 1 network) (λ e. refuses NETWORK) (λ e. arrival-sound network f out _)
  checked-sound (linking network f out) =
      branch (ltb 1 network) (λ e. refuses NETWORK) (λ e. link-sound network f out _)
  checked-sound (opening dest vlan rule window time) =
      open-sound dest vlan rule window time (opened (dest_of dest) vlan rule window time)
  checked-sound (closing j) = branch (in_use t j) (λ e. shuts j) (λ e. refuses SLOT)
  checked-sound (resetting j) =
      branch (not (in_use t j)) (λ e. refuses SLOT) (λ e.
      branch (not (settled (at t j))) (λ e. refuses DAMAGED) (λ e. mends j))
  checked-sound ticking = ages

  pub act-sound : (c : Call) → Sound c (act t c)
  unfolding act
  act-sound c = branch (ltb slots_most (length t)) (λ e. refuses TABLE) (λ e. checked-sound c)

-- Over a whole run: its record moves as slot i sees it.
pub traced : (t : Table) (i : ℕ) (cs : List Call) → i < length t
    → Trace (at t i) (log the_receiver i t cs) (at (run the_receiver t cs) i)
unfolding log run the_receiver
traced t i [] b = refl
traced t i (c ∷ cs) b = (
  at (after t (act t c)) i,
  (act-sound i t b c).moves,
  traced (after t (act t c)) i cs (rw (length-kept t c) b),
)

pub run_length : (t : Table) (cs : List Call) → length (run the_receiver t cs) ≡ length t
unfolding run the_receiver
run_length t [] = refl
run_length t (c ∷ cs) = run_length (after t (act t c)) cs ∙ length-kept t c
