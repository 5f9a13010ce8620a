-- From bytes to bytes. Assumes nothing.
use Prim.Native.Nat.{ℕ, ◌+◌}
use mathlib.Core.Path.{◌≡◌, refl, sym, ap, ap₂, ◌∙◌}
use mathlib.Core.Logic.{◌⊎◌, inl, inr}
use mathlib.Core.Bool.{Bool, true, false, ◌||◌, not}
use mathlib.Core.Option.{some}
use mathlib.Core.List.{List, [], ◌∷◌, map}
use native.Mathlib.Omega.{arith}
use lib.Dec.{eqb}
use borrow.Author.Tests.{eqb-true, eqb-false, eq-eqb, ne_eqb}
use Rattle.std.specs.Prelude.{if◌then◌else◌}
use Rattle.frame.specs.Frame.{untagged}
use Rattle.stream.specs.Decisions.{Verdict, up, duplicate}
use Rattle.calls.specs.Table.{Table}
use Rattle.calls.specs.Calls.{Call}
use Rattle.demands.specs.Receiver.{Receiver, MeetsContract, run}
use Rattle.demands.specs.Seen.{log, verdicts}
use Rattle.demands.specs.Unlimited.{elem}
use Rattle.demands.specs.Demand3.{number_of}
use Rattle.demands.specs.Missed.{firsts}
use Rattle.sender.specs.declared.Sender.{Sender}
use Rattle.sender.specs.Runs as sends
use Rattle.sender.specs.Runs.{Side, MeetsSide, Pair, sent, nth, WithoutReset}
use Rattle.sender.proofs.Numbers.{sent-from}
use Rattle.both_sides.specs.Copies.{frames_heard, CopiesOf, FromSender, counted_from}
use Rattle.both_sides.proofs.Theorems as both-sides
use Rattle.delays.specs.Line.{came}
use Rattle.delays.specs.OnceEach.{Timed, up_at_first, OnceEach}
use Rattle.delays.proofs.Restart.{fresh-after-silence, no-sooner}
use Rattle.end_to_end.specs.Bytes.{given_of, given_at, got, once_each, BytesToBytes, BytesToBytesRestarted}
use Rattle.both_sides.proofs.Heard.{copies-filled}
use Rattle.end_to_end.proofs.Got.{picked, got-are-picked}

-- ---- places and their indices

-- the indices of two places are the same exactly if the places are
shifted : (n x k : ℕ) → eqb (n + x) (n + k) ≡ eqb x k
shifted n x k = go (eqb x k) refl
  where
    go : (b : Bool) → eqb x k ≡ b → eqb (n + x) (n + k) ≡ eqb x k
    go true e = rw e (eq-eqb (n + x) (n + k) (omega (arith, eqb-true x k e)))
    go false e = rw e (ne_eqb (n + x) (n + k) (λ q. eqb-false x k e (omega arith)))

-- A list of indices has those of a list of places, and of no other.
abbrev Same : (next : ℕ) (indices places : List ℕ) → Type 0
Same next hs bs = (x : ℕ) → elem (next + x) hs ≡ elem x bs

one_more : (next k : ℕ) (hs bs : List ℕ) → Same next hs bs → Same next ((next + k) ∷ hs) (k ∷ bs)
unfolding elem
one_more next k hs bs e x = ap₂ ◌||◌ (shifted next x k) (e x)

-- one that was there before
once_more : (next k : ℕ) (hs bs : List ℕ) → Same next hs bs → elem k bs ≡ true → Same next ((next + k) ∷ hs) bs
unfolding elem
once_more next k hs bs e i x = go (eqb x k) refl
  where
    go : (b : Bool) → eqb x k ≡ b → eqb (next + x) (next + k) || elem (next + x) hs ≡ elem x bs
    go true q = rw (shifted next x k, q) (sym i ∙ ap (λ (y : ℕ). elem y bs) (sym (eqb-true x k q)))
    go false q = rw (shifted next x k, q) (e x)

-- ---- from verdicts to bytes

abbrev by_first : Bool → Verdict
by_first first = if first then up else duplicate

module _ {side : Side} (m : MeetsSide side) (s : Sender) (calls : List sends.Call) (w : WithoutReset s calls) where
  -- A copy without its tag is the frame that was given.
  bare-copy : (k : ℕ) (p : Pair) (f : List ℕ) → nth (sent side s calls) k ≡ some p → (f ≡ p.copy0) ⊎ (f ≡ p.copy1) → untagged f ≡ p.given
  bare-copy k p f q (inl e) = let c = sent-from side m s calls k p w q in ap (λ (x : List ℕ). untagged x) (e ∙ c.copy0) ∙ c.bare
  bare-copy k p f q (inr e) = let c = sent-from side m s calls k p w q in ap (λ (x : List ℕ). untagged x) (e ∙ c.copy1) ∙ c.bare

  -- The first copy of each send is picked.
  first-copies : (hs bs : List ℕ) → Same s.next hs bs → (ks : List ℕ) (fs : List (List ℕ)) → CopiesOf (sent side s calls) ks fs
      → picked (map by_first (firsts hs (counted_from s ks))) fs ≡ given_at (sent side s calls) (once_each bs ks)
  unfolding CopiesOf picked firsts once_each given_of given_at
  first-copies hs bs e [] [] x = refl
  first-copies hs bs e [] (f ∷ fs) x = absurd x
  first-copies hs bs e (k ∷ ks) [] x = absurd x
  first-copies hs bs e (k ∷ ks) (f ∷ fs) ((p, q, c), rest) =
      go (elem k bs) refl (λ i. first-copies ((s.next + k) ∷ hs) bs (once_more s.next k hs bs e i) ks fs rest)
      (first-copies ((s.next + k) ∷ hs) (k ∷ bs) (one_more s.next k hs bs e) ks fs rest)
    where
      -- the verdicts on those behind it
      behind : List Verdict
      behind = map by_first (firsts ((s.next + k) ∷ hs) (counted_from s ks))

      go : (b : Bool) → elem k bs ≡ b
          → (elem k bs ≡ true → picked behind fs ≡ given_at (sent side s calls) (once_each bs ks))
          → picked behind fs ≡ given_at (sent side s calls) (once_each (k ∷ bs) ks)
          → picked (by_first (not (elem (s.next + k) hs)) ∷ behind) (f ∷ fs)
          ≡ given_at (sent side s calls) (if elem k bs then once_each bs ks else k ∷ once_each (k ∷ bs) ks)
      go true i again first = rw (e k, i) (again i)
      go false i again first = rw (e k, i, q) (ap₂ (λ (x : List ℕ) (l : List (List ℕ)). x ∷ l) (bare-copy k p f q c) first)

pub from-verdicts : {receive : Receiver} → MeetsContract receive → {side : Side} → MeetsSide side
    → (s : Sender) (calls : List sends.Call) (t : Table) (i : ℕ) (later : List Call) (places : List ℕ)
    → FromSender receive side s calls t i later places
    → verdicts (log receive i t later) ≡ up_at_first (counted_from s places)
    → got receive i t later ≡ given_at (sent side s calls) (once_each [] places)
unfolding elem
from-verdicts {receive} k {side} m s calls t i later places h v =
    got-are-picked k i t later (copies-filled side m s calls h.sends places (frames_heard receive i t later) h.copies)
    ∙ ap (λ (vs : List Verdict). picked vs (frames_heard receive i t later)) v
    ∙ first-copies m s calls h.sends [] [] (λ x. refl) places (frames_heard receive i t later) h.copies

-- ---- the theorems

module _ {receive : Receiver} (k : MeetsContract receive) (once : OnceEach (log receive)) {side : Side} (m : MeetsSide side) where
  pub bytes-to-bytes : BytesToBytes receive side
  bytes-to-bytes line b still before es s sending t i calls places fresh h =
      let numbered = ((both-sides.theorems).both receive k side m).sent-are-numbered s sending t i calls places h.from-sender in
      let timed : Timed (log receive) t i calls es = record { order = h.order; numbered = numbered ∙ ap (map number_of) (sym h.counted) } in
      from-verdicts k m s sending t i calls places h.from-sender
      (once line b still before es t i calls fresh timed h.sends h.keeps h.loses h.window h.time ∙ ap up_at_first h.counted)

  -- A silence leaves the stream fresh when the first copy of the new count comes.
  pub bytes-to-bytes-restarted : BytesToBytesRestarted receive side
  bytes-to-bytes-restarted line b still start last x a was es s sending t i old new places silence apart h =
      let renewed = fresh-after-silence k line start last x a was t i old silence apart (no-sooner line x a es h.keeps) in
      bytes-to-bytes line b still [] (came x a ∷ es) s sending (run receive t old) i new places renewed.0 h
