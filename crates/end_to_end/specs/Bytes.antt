-- From bytes to bytes: our sender (order 6), two networks that lose, delay, repeat and reorder its frames, and our receiver with L and
-- R by the formulas. Assumes nothing.
use Rattle.std.specs.Prelude.{ℕ, ◌+◌, ◌≤◌, ◌<◌, ◌≡◌, ◌⊎◌, true, false, List, [], ◌∷◌, ◌++◌, map, eqb, length, take}
use Rattle.std.proofs.Math.Option.{Option, none, some}
use Rattle.refusal.specs.Checks.{Said}
use Rattle.refusal.specs.Checks.Said.{refused, answers}
use Rattle.std.specs.Prelude.{if◌then◌else◌}
use Rattle.record.specs.Sizes.{slots_most}
use Rattle.frame.specs.Frame.{dest_of, vlan_of}
use Rattle.stream.specs.Record.{lawful}
use Rattle.calls.specs.Table.{Table, at, search, some_slot, hears}
use Rattle.calls.specs.Calls.{Call, arriving, Answer, arrived, placed, done, swept, handed_up, duplicate, rogue}
use Rattle.demands.specs.Receiver.{Receiver, run}
use Rattle.demands.specs.Seen.{log, numbers}
use Rattle.demands.specs.Unlimited.{elem}
use Rattle.demands.specs.Demand3.{number_of}
use Rattle.demands.specs.Missed.{FreshVector}
use Rattle.sender.specs.declared.Sender.{Sender}
use Rattle.sender.specs.Runs as sends
use Rattle.sender.specs.Runs.{Side, Pair, sent, nth, WithoutReset}
use Rattle.both_sides.specs.Copies.{FromSender, counted_from}
use Rattle.delays.specs.Formulas.{least_time, span}
use Rattle.delays.specs.Line.{Known, J, Sends, Event, came, indices, Keeps, Loses}
use Rattle.delays.specs.OnceEach.{kinds, kind_of, window_for, Silence}

-- ---- what goes in and what comes out

-- The frames that were given to the sender, by the places of their sends.
unfoldable pub given_of : Option Pair → List (List ℕ)
given_of none = []
given_of (some p) = p.given ∷ []

unfoldable pub given_at : List Pair → (places : List ℕ) → List (List ℕ)
given_at pairs [] = []
given_at pairs (k ∷ ks) = given_of (nth pairs k) ++ given_at pairs ks

-- What the application gets from the stream in slot i: of each arrival that is handed up, as many bytes of the output buffer as the
-- answer tells.
unfoldable pub got_of : (slot : ℕ) → Said Answer → (out : List ℕ) → List (List ℕ)
got_of i (refused n) out = []
got_of i (answers (arrived j n x (handed_up length))) out = if eqb j i then take length out ∷ [] else []
got_of i (answers (arrived j n x duplicate)) out = []
got_of i (answers (arrived j n x rogue)) out = []
got_of i (answers (placed j)) out = []
got_of i (answers done) out = []
got_of i (answers (swept streams records)) out = []

unfoldable pub got : Receiver → (slot : ℕ) → Table → List Call → List (List ℕ)
got receive i t [] = []
got receive i t (c ∷ cs) = got_of i (receive t c).said (receive t c).output ++ got receive i (receive t c).table cs

-- Each once, in the order in which they first stand.
unfoldable pub once_each : (before : List ℕ) → List ℕ → List ℕ
once_each before [] = []
once_each before (k ∷ ks) = if elem k before then once_each before ks else k ∷ once_each (k ∷ before) ks

-- ---- the theorem

-- Between both ends, of one count: what was sent (from the sender s on, without a reset), what was called, and which copies came, by
-- the places of their sends. The k-th send has the index next + k.
pub record Between (receive : Receiver) (side : Side) (k : Known) (b : ℕ) (still : List ℕ) (before es : List Event) (s : Sender) (sending : List sends.Call) (t : Table) (i : ℕ) (calls : List Call) (places : List ℕ) : Type 0 where
  -- each frame that the stream hears is an unchanged copy of one that was sent: nobody else sends to its key;
  pub from-sender : FromSender receive side s sending t i calls places
  -- the copies and the ticks, with their times,
  pub order : kinds (log receive i t calls) ≡ map kind_of es
  pub counted : indices es ≡ counted_from s places
  -- keep to what is known of the line;
  pub sends : Sends k (J k) b
  pub keeps : Keeps k 0 (before ++ es)
  pub loses : Loses k still (before ++ es)
  -- and L and R are large enough.
  pub window : window_for before b k.m ≤ (at t i).window
  pub time : least_time (J k) k.tau ≤ (at t i).time

-- What the application gets, in the order of hand-ups, is each sent frame of which a copy arrived, byte for byte as it was given to
-- the sender, exactly once.
abbrev pub BytesToBytes : Receiver → Side → Type 0
BytesToBytes receive side =
    (k : Known) (b : ℕ) (still : List ℕ) (before es : List Event) (s : Sender) (sending : List sends.Call) (t : Table) (i : ℕ) (calls : List Call) (places : List ℕ)
    → FreshVector (at t i)
    → Between receive side k b still before es s sending t i calls places
    → got receive i t calls ≡ given_at (sent side s sending) (once_each [] places)

-- The same of a sender that was reset, from the first copy of its new count on, if it was silent for longer than R tau_most + J.
abbrev pub BytesToBytesRestarted : Receiver → Side → Type 0
BytesToBytesRestarted receive side =
    (k : Known) (b : ℕ) (still : List ℕ) (start last x a : ℕ) (was es : List Event) (s : Sender) (sending : List sends.Call) (t : Table) (i : ℕ) (old new : List Call) (places : List ℕ)
    → Silence (log receive) k start last x a was t i old
    → last + span (at t i).time k.tau_most (J k) < k.sent x
    → Between receive side k b still [] (came x a ∷ es) s sending (run receive t old) i new places
    → got receive i (run receive t old) new ≡ given_at (sent side s sending) (once_each [] places)

-- ---- copies reach the stream

-- "Every frame given to the sender has the stream's key": slot i is the lowest with the key of this one, virtual
-- links left aside.
pub record Ours (t : Table) (i : ℕ) (given : List ℕ) : Type 0 where
  pub some : some_slot (hears false (dest_of given) (vlan_of given)) t ≡ true
  pub lowest : search (hears false (dest_of given) (vlan_of given)) t ≡ i

-- What the host sees to: a table of at most 64 slots, a network that there is, and room for the frame.
pub record Called (t : Table) (net : ℕ) (given out : List ℕ) : Type 0 where
  pub slots : length t ≤ slots_most
  pub network : net ≤ 1
  pub room : length given ≤ length out

-- Then at any point of a run in which the stream is neither closed nor reset by call, from a lawful record on, every copy that is called
-- is heard by the stream, with the number of its send: none that comes is left out. (Without one of these it is refused, with 1, 2, 7
-- or 8: `SeenOrRefused`, `RefusedWith` of `demands`. A copy that is refused did not arrive.)
abbrev pub CopiesAreHeard : Receiver → Side → Type 0
CopiesAreHeard receive side =
    (s : Sender) (sending : List sends.Call) (k : ℕ) (p : Pair) (t : Table) (i : ℕ) (calls : List Call) (es : List Event) (network : ℕ) (f out : List ℕ)
    → WithoutReset s sending → nth (sent side s sending) k ≡ some p → (f ≡ p.copy0) ⊎ (f ≡ p.copy1)
    → Ours t i p.given → lawful (at t i) ≡ true → kinds (log receive i t calls) ≡ map kind_of es
    → Called (run receive t calls) network p.given out
    → numbers (log receive i (run receive t calls) (arriving network f out ∷ [])) ≡ number_of (s.next + k) ∷ []
