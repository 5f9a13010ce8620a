-- What a stream hears of a sender's frames are the indices of the sends, modulo 65536. Assumes nothing.
use mathlib.Core.Path.{◌≡◌, refl, sym, ap, ap₂, ◌∙◌}
use Prim.Native.Nat.{ℕ, ◌+◌}
use native.Mathlib.Omega.{arith}
use mathlib.Core.Logic.{◌⊎◌, inl, inr}
use mathlib.Core.Bool.{Bool, true, false}
use mathlib.Core.List.{List, [], ◌∷◌, ◌++◌, map}
use lib.Dec.{eqb}
use Rattle.refusal.specs.Checks.{Said}
use Rattle.refusal.specs.Checks.Said.{refused, answers}
use Rattle.std.specs.Prelude.{if◌then◌else◌}
use Rattle.frame.specs.Frame.{Tag, number_in, tagged, read_of, head_short, has_vlan}
use Rattle.frame.proofs.Heads.{tag_of}
use Rattle.stream.specs.Decisions.{Verdict}
use Rattle.frame.specs.declared.Rank.{Rank}
use Rattle.calls.specs.Table.{Table}
use Rattle.calls.specs.Calls.{Call, arriving, linking, opening, closing, resetting, ticking, Answer, placed, done, swept}
use Rattle.calls.specs.Calls as calls
use Rattle.demands.specs.Receiver.{Receiver}
use Rattle.demands.specs.Seen.{Seen, arrived, tick, ended, nothing, told, answered, seen_of, seen, log, numbers}
use Rattle.demands.specs.Demand2.{ArrivalsRecovered}
use Rattle.demands.specs.Demand3.{number_of}
use Rattle.sender.specs.declared.Sender.{Sender}
use Rattle.sender.specs.Sender.{sender_at_first}
use Rattle.sender.specs.Runs as sends
use Rattle.sender.specs.Runs.{Side, MeetsSide, Pair, sent, WithoutReset, Carries}
use Rattle.sender.proofs.Numbers.{sent-from}
use Rattle.both_sides.specs.Copies.{frame_of, is_arrival, frames_heard, CopiesOf, counted_from, SentAreNumbered, SentAtFirstAreNumbered}

-- ---- one call

-- what the stream hears of a call: nothing, or the number in the tag of its frame
data Hears (i : ℕ) (t : Table) (c : Call) (e : Seen) : Type 0 where
  other : is_arrival e ≡ false → Hears i t c e
  hears : (v : Verdict) → e ≡ arrived (number_in (frame_of c)) v → Hears i t c e
  link : frame_of c ≡ [] → is_arrival e ≡ true → Hears i t c e

hears-of : (receive : Receiver) → ArrivalsRecovered receive → (i : ℕ) (t : Table) (c : Call) → Hears i t c (seen i t c (receive t c))
unfolding seen_of answered
hears-of receive recovered i t c = go c (receive t c).said refl
  where
    -- an arrival of this stream or of another
    own : (network : ℕ) (f out : List ℕ) (j n : ℕ) (x : Rank) (v : calls.Verdict) → (receive t (arriving network f out)).said ≡ answers (calls.arrived j n x v)
        → (b : Bool) → Hears i t (arriving network f out) (if b then arrived n (told v) else nothing)
    own network f out j n x v e true = hears (told v) (ap (λ (m : ℕ). arrived m (told v)) (recovered t network f out j n x v e).number)
    own network f out j n x v e false = other refl

    own-link : (network : ℕ) (f out : List ℕ) (n : ℕ) (v : Verdict) (b : Bool) → Hears i t (linking network f out) (if b then arrived n v else nothing)
    own-link network f out n v true = link refl refl
    own-link network f out n v false = other refl

    -- a close or a reset of this stream or of another
    ends : (c : Call) (b : Bool) → Hears i t c (if b then ended else nothing)
    ends c true = other refl
    ends c false = other refl

    go : (c : Call) (x : Said Answer) → (receive t c).said ≡ x → Hears i t c (seen_of i t c (receive t c) x)
    go c (refused n) e = other refl
    go (arriving network f out) (answers (calls.arrived j n x v)) e = own network f out j n x v e (eqb j i)
    go (arriving network f out) (answers (placed j)) e = other refl
    go (arriving network f out) (answers done) e = other refl
    go (arriving network f out) (answers (swept streams records)) e = other refl
    go (linking network f out) (answers (calls.arrived j n x v)) e = own-link network f out n (told v) (eqb j i)
    go (linking network f out) (answers (placed j)) e = other refl
    go (linking network f out) (answers done) e = other refl
    go (linking network f out) (answers (swept streams records)) e = other refl
    go (opening dest vlan rule window time) (answers a) e = other refl
    go (closing j) (answers a) e = ends (closing j) (eqb j i)
    go (resetting j) (answers a) e = ends (resetting j) (eqb j i)
    go ticking (answers a) e = other refl

-- ---- a run

-- what is no arrival has no number
unheard : (e : Seen) (es : List Seen) → is_arrival e ≡ false → numbers (e ∷ es) ≡ numbers es
unfolding numbers
unheard (arrived n v) es h = absurd (let z : ◌≡◌ {A = ℕ} 0 1 = cc in omega arith)
unheard (tick b) es h = refl
unheard ended es h = refl
unheard nothing es h = refl

-- no frame without a byte
unfoldable pub Filled : List (List ℕ) → Type 0
Filled [] = Unit {0}
Filled (f ∷ fs) = (f ≡ [] → ⊥) × Filled fs

-- the numbers that a stream hears are those in the tags of the frames that it heard
heard-numbers : (receive : Receiver) → ArrivalsRecovered receive → (i : ℕ) (t : Table) (later : List Call)
    → Filled (frames_heard receive i t later)
    → numbers (log receive i t later) ≡ map number_in (frames_heard receive i t later)
unfolding numbers log frames_heard Filled
heard-numbers receive recovered i t [] z = refl
heard-numbers receive recovered i t (c ∷ cs) z = go (seen i t c (receive t c)) (hears-of receive recovered i t c) (heard-numbers receive recovered i (receive t c).table cs) z
  where
    es : List Seen
    es = log receive i (receive t c).table cs

    fs : List (List ℕ)
    fs = frames_heard receive i (receive t c).table cs

    go : (e : Seen) → Hears i t c e → (Filled fs → numbers es ≡ map number_in fs) → Filled ((if is_arrival e then frame_of c ∷ [] else []) ++ fs) → numbers (e ∷ es) ≡ map number_in ((if is_arrival e then frame_of c ∷ [] else []) ++ fs)
    go e (link n h) rest z = absurd ((rw h at z).0 n)
    go e (other h) rest z = unheard e es h ∙ rest (rw h at z) ∙ ap (λ (b : Bool). map number_in ((if b then frame_of c ∷ [] else []) ++ fs)) (sym h)
    go e (hears v h) rest z =
        ap (λ (x : Seen). numbers (x ∷ es)) h
        ∙ ap (λ (ns : List ℕ). number_in (frame_of c) ∷ ns) (rest (rw h at z).1)
        ∙ ap (λ (x : Seen). map number_in ((if is_arrival x then frame_of c ∷ [] else []) ++ fs)) (sym h)

-- ---- of a sender's frames

-- a copy of what carries a number has it in its tag
copy-number : (p : Pair) (n : ℕ) → Carries p n → (f : List ℕ) → (f ≡ p.copy0) ⊎ (f ≡ p.copy1) → number_in f ≡ n
copy-number p n c f x = ap number_in (go x) ∙ sym (tag_of (tagged p.given n) _ c.read).number
  where
    go : (f ≡ p.copy0) ⊎ (f ≡ p.copy1) → f ≡ tagged p.given n
    go (inl e) = e ∙ c.copy0
    go (inr e) = e ∙ c.copy1

-- and it has bytes
copy-filled : (p : Pair) (n : ℕ) → Carries p n → (f : List ℕ) → (f ≡ p.copy0) ⊎ (f ≡ p.copy1) → f ≡ [] → ⊥
unfolding read_of head_short has_vlan
copy-filled p n c f x z =
    let r : ◌≡◌ {A = Said Tag} (read_of []) (answers _) = ap read_of (sym z ∙ go x) ∙ c.read in
    let y : ◌≡◌ {A = ℕ} 0 1 = cc in omega arith
  where
    go : (f ≡ p.copy0) ⊎ (f ≡ p.copy1) → f ≡ tagged p.given n
    go (inl e) = e ∙ c.copy0
    go (inr e) = e ∙ c.copy1

module _ (side : Side) (m : MeetsSide side) (s : Sender) (calls : List sends.Call) (w : WithoutReset s calls) where
  copies-numbers : (ks : List ℕ) (fs : List (List ℕ)) → CopiesOf (sent side s calls) ks fs → map number_in fs ≡ map number_of (counted_from s ks)
  unfolding CopiesOf
  copies-numbers [] [] x = refl
  copies-numbers [] (f ∷ fs) x = absurd x
  copies-numbers (k ∷ ks) [] x = absurd x
  copies-numbers (k ∷ ks) (f ∷ fs) ((p, q, e), rest) =
      ap₂ (λ (n : ℕ) (ns : List ℕ). n ∷ ns) (copy-number p (number_of (s.next + k)) (sent-from side m s calls k p w q) f e) (copies-numbers ks fs rest)

  pub copies-filled : (ks : List ℕ) (fs : List (List ℕ)) → CopiesOf (sent side s calls) ks fs → Filled fs
  unfolding CopiesOf Filled
  copies-filled [] [] x = tt
  copies-filled [] (f ∷ fs) x = absurd x
  copies-filled (k ∷ ks) [] x = absurd x
  copies-filled (k ∷ ks) (f ∷ fs) ((p, q, e), rest) = (copy-filled p (number_of (s.next + k)) (sent-from side m s calls k p w q) f e, copies-filled ks fs rest)

module _ (receive : Receiver) (recovered : ArrivalsRecovered receive) (side : Side) (m : MeetsSide side) where
  pub sent-are-numbered : SentAreNumbered receive side
  sent-are-numbered s calls t i later indices h =
      heard-numbers receive recovered i t later (copies-filled side m s calls h.sends indices _ h.copies) ∙ copies-numbers side m s calls h.sends indices _ h.copies

  pub sent-at-first-are-numbered : SentAtFirstAreNumbered receive side
  sent-at-first-are-numbered calls t i later indices h = sent-are-numbered sender_at_first calls t i later indices h ∙ ap (map number_of) (plain indices)
    where
      plain : (ks : List ℕ) → counted_from sender_at_first ks ≡ ks
      plain [] = refl
      plain (k ∷ ks) = ap₂ (λ (n : ℕ) (ns : List ℕ). n ∷ ns) (omega arith) (plain ks)
