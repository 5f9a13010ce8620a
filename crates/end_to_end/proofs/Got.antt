-- What the application gets: of the frames that the stream heard, those that it handed up, without their tags. Assumes nothing.
use Prim.Native.Nat.{ℕ}
use mathlib.Core.Path.{◌≡◌, refl, ap, ap₂, ◌∙◌}
use mathlib.Core.Bool.{Bool, true, false, false≢true}
use mathlib.Core.List.{List, [], ◌∷◌, ◌++◌}
use lib.Dec.{eqb}
use lib.ListN.{length}
use Rattle.refusal.specs.Checks.Said.{answers}
use Rattle.std.specs.Prelude.{if◌then◌else◌}
use Rattle.frame.specs.Frame.{untagged, unranked}
use Rattle.frame.specs.Link.{but_last}
use Rattle.frame.specs.declared.Rank.{Rank}
use Rattle.frame.proofs.Bytes.{overlay-front}
use Rattle.stream.specs.Decisions.{Verdict, up, duplicate, rogue, is_up, verdict}
use Rattle.calls.specs.Table.{Table, at}
use Rattle.calls.specs.Calls.{Call, arriving, linking, Act, arrive, after, answer, verdict_with, written_for, out_of, output, Result}
use Rattle.calls.specs.Calls as calls
use Rattle.demands.specs.Receiver.{Receiver, MeetsContract, the_receiver}
use Rattle.demands.specs.Seen.{Seen, arrived, tick, ended, nothing, told, answered, seen_of, seen, log, verdicts}
use Rattle.demands.proofs.Alike.{carried}
use Rattle.both_sides.specs.Copies.{frame_of, is_arrival, frames_heard}
use Rattle.both_sides.proofs.Heard.{Filled}
use Rattle.end_to_end.specs.Bytes.{got_of, got}
use Rattle.end_to_end.proofs.Cases.{Each, act-case}

-- Of the frames heard, those whose verdict is up, without their tags.
unfoldable pub picked : List Verdict → List (List ℕ) → List (List ℕ)
picked [] fs = []
picked (v ∷ vs) [] = []
picked (v ∷ vs) (f ∷ fs) = if is_up v then untagged f ∷ picked vs fs else picked vs fs

-- ---- one call

-- what is handed up of one call with this frame
abbrev bares : Seen → List ℕ → List (List ℕ)
bares (arrived n v) f = if is_up v then untagged f ∷ [] else []
bares (tick b) f = []
bares ended f = []
bares nothing f = []

-- what the call c leaves where it comes to a
abbrev leaves : Table → Call → Act → Result
leaves t c a = record { said = answer t a; table = after t a; output = output t (out_of c) a }

module _ (i : ℕ) (t : Table) where
  -- unless it is heard without a frame, as an arrival of a virtual link
  record Gives (c : Call) (a : Act) : Type 0 where
    fact : (is_arrival (seen i t c (leaves t c a)) ≡ true → frame_of c ≡ [] → ⊥) → got_of i (answer t a) (output t (out_of c) a) ≡ bares (seen i t c (leaves t c a)) (frame_of c)

  -- As many bytes as the answer tells are the frame without its tag.
  arrives : (network : ℕ) (f out : List ℕ) (j n w : ℕ) (x : Rank) → Gives (arriving network f out) (arrive j n w x (untagged f))
  unfolding answer output got_of seen_of answered
  arrives network f out j n w x = record { fact = λ z. go (verdict (at t j) n) (eqb j i) refl }
    where
      go : (v : Verdict) (b : Bool) → eqb j i ≡ b
          → got_of i (answers (calls.arrived j n x (verdict_with (length (untagged f)) v))) (written_for v (untagged f) out)
          ≡ bares (if eqb j i then arrived n (told (verdict_with (length (untagged f)) v)) else nothing) f
      go up true e = rw e (ap (λ (x : List ℕ). x ∷ []) (overlay-front (untagged f) out refl))
      go up false e = rw e
      go duplicate true e = rw e
      go duplicate false e = rw e
      go rogue true e = rw e
      go rogue false e = rw e

  links : (network : ℕ) (f out : List ℕ) (j n w : ℕ) (x : Rank) → Gives (linking network f out) (arrive j n w x (but_last f))
  unfolding answer output got_of seen_of answered
  links network f out j n w x = record { fact = go (verdict (at t j) n) (eqb j i) refl }
    where
      go : (v : Verdict) (b : Bool) → eqb j i ≡ b
          → (is_arrival (if eqb j i then arrived n (told (verdict_with (length (but_last f)) v)) else nothing) ≡ true → ◌≡◌ {A = List ℕ} [] [] → ⊥)
          → got_of i (answers (calls.arrived j n x (verdict_with (length (but_last f)) v))) (written_for v (but_last f) out)
          ≡ bares (if eqb j i then arrived n (told (verdict_with (length (but_last f)) v)) else nothing) []
      go v true e z = absurd (z (rw e refl) refl)
      go up false e z = rw e
      go duplicate false e z = rw e
      go rogue false e z = rw e

  -- A close or a reset gives nothing, whichever slot it is for.
  silent : (b : Bool) → ◌≡◌ {A = List (List ℕ)} [] (bares (if b then ended else nothing) [])
  silent true = refl
  silent false = refl

  each : Each t Gives
  unfolding answer output got_of seen_of answered
  each = record {
    refuses = λ c n. record { fact = λ z. refl };
    arrives = λ network f out g j e. arrives network f out j g.number network g.header.rank;
    links = λ network f out g j e. links network f out j g.number network unranked;
    opens = λ dest vlan rule window time j e. record { fact = λ z. refl };
    closes = λ j. record { fact = λ z. silent (eqb j i) };
    resets = λ j. record { fact = λ z. silent (eqb j i) };
    ticks = record { fact = λ z. refl };
  }

-- ---- a run

joined : (e : Seen) (es : List Seen) (f : List ℕ) (fs : List (List ℕ))
    → bares e f ++ picked (verdicts es) fs ≡ picked (verdicts (e ∷ es)) ((if is_arrival e then f ∷ [] else []) ++ fs)
unfolding verdicts picked
joined (arrived n up) es f fs = refl
joined (arrived n duplicate) es f fs = refl
joined (arrived n rogue) es f fs = refl
joined (tick b) es f fs = refl
joined ended es f fs = refl
joined nothing es f fs = refl

-- Where no frame heard is empty: so none is a virtual link's, which hands up all but the last byte.
abbrev pub GotArePicked : Receiver → Type 0
GotArePicked receive =
    (i : ℕ) (t : Table) (cs : List Call) → Filled (frames_heard receive i t cs)
    → got receive i t cs ≡ picked (verdicts (log receive i t cs)) (frames_heard receive i t cs)

first-filled : (b : Bool) (f : List ℕ) (fs : List (List ℕ)) → Filled ((if b then f ∷ [] else []) ++ fs) → (b ≡ true → f ≡ [] → ⊥) × Filled fs
unfolding Filled
first-filled true f fs z = (λ e. z.0, z.1)
first-filled false f fs z = (λ e. absurd (false≢true e), z)

of-run : GotArePicked the_receiver
unfolding got log frames_heard verdicts picked the_receiver
of-run i t [] z = refl
of-run i t (c ∷ cs) z =
    let u : Table = (the_receiver t c).table in
    let y = first-filled (is_arrival (seen i t c (the_receiver t c))) (frame_of c) (frames_heard the_receiver i u cs) z in
    ap₂ (λ (a b : List (List ℕ)). a ++ b) ((act-case t (each i t) c).fact y.0) (of-run i u cs y.1)
    ∙ joined (seen i t c (the_receiver t c)) (log the_receiver i u cs) (frame_of c) (frames_heard the_receiver i u cs)

pub got-are-picked : {receive : Receiver} → MeetsContract receive → GotArePicked receive
got-are-picked m = carried GotArePicked of-run m
