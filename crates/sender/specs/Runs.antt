-- Document 02, order 6: "Show that frames sent without a reset carry their index modulo 65536." The runs of a sending side, what
-- they send, and that statement. Assumes nothing.
use Rattle.std.specs.Prelude.{ℕ, zero, suc, ◌+◌, ◌%◌, ◌<◌, ◌≡◌, Bool, true, false, List, [], ◌∷◌, ◌++◌, length, take}
use Rattle.std.proofs.Math.Option.{Option, none, some}
use Rattle.refusal.specs.Checks.{Said}
use Rattle.refusal.specs.Checks.Said.{refused, answers}
use Rattle.frame.specs.Frame.{dest_of, vlan_of, type_at, read_of, untagged, tagged, rank_of}
use Rattle.sender.specs.declared.Sender.{Sender}
use Rattle.sender.specs.Sender.{Numbered, Sends, sender_at_first, reset_of, send_of}

-- ---- runs

-- A program makes these calls.
pub data Call : Type 0 where
  sending : (frame out0 out1 : List ℕ) → Call
  resetting : Call

-- A sending side: any two functions of these types are one, right or wrong.
pub record Side : Type 0 where
  pub send : Sender → (frame out0 out1 : List ℕ) → Sends
  pub reset : Sender → Sender

-- It meets the order if each call on each sender does.
pub record MeetsSide (side : Side) : Type 0 where
  pub send : (s : Sender) (f out0 out1 : List ℕ) → side.send s f out0 out1 ≡ send_of s f out0 out1
  pub reset : (s : Sender) → side.reset s ≡ reset_of s

-- The sending side that the definitions give.
unfoldable pub the_side : Side
the_side = record { send = send_of; reset = reset_of }

-- The sender after a run of calls.
unfoldable pub ran : Side → Sender → List Call → Sender
ran side s [] = s
ran side s (sending f out0 out1 ∷ cs) = ran side (side.send s f out0 out1).sender cs
ran side s (resetting ∷ cs) = ran side (side.reset s) cs

-- ---- what is sent

-- A frame that was sent: as it was given, and as many bytes of each output as the answer tells.
pub record Pair : Type 0 where
  pub given : List ℕ
  pub copy0 : List ℕ
  pub copy1 : List ℕ

-- A refused frame is not sent.
unfoldable pub pair_of : (f : List ℕ) → Sends → Said Numbered → List Pair
pair_of f r (refused n) = []
pair_of f r (answers a) = record { given = f; copy0 = take a.length r.out0; copy1 = take a.length r.out1 } ∷ []

-- What a run sends, in its order.
unfoldable pub sent : Side → Sender → List Call → List Pair
sent side s [] = []
sent side s (sending f out0 out1 ∷ cs) =
    pair_of f (side.send s f out0 out1) (side.send s f out0 out1).said ++ sent side (side.send s f out0 out1).sender cs
sent side s (resetting ∷ cs) = sent side (side.reset s) cs

-- The one at a place of a list, counted from 0.
unfoldable pub nth : {A : Type 0} → List A → ℕ → Option A
nth [] k = none
nth (x ∷ xs) zero = some x
nth (x ∷ xs) (suc k) = nth xs k

-- ---- what a program gets

-- From a send what it comes to, from a reset the sender.
pub data SideGot : Type 0 where
  sent_so : Sends → SideGot
  reset_so : Sender → SideGot

abbrev pub sender_left : SideGot → Sender
sender_left (sent_so r) = r.sender
sender_left (reset_so s) = s

-- What the public calls ensure to a program that makes these calls, each with the sender that the call before it left.
abbrev pub EnsuredCall : Sender → Call → SideGot → Type 0
EnsuredCall s (sending f out0 out1) (sent_so r) = r ≡ send_of s f out0 out1
EnsuredCall s (sending f out0 out1) (reset_so u) = ⊥
EnsuredCall s resetting (sent_so r) = ⊥
EnsuredCall s resetting (reset_so u) = u ≡ reset_of s

unfoldable pub EnsuredCalls : Sender → List Call → List SideGot → Type 0
EnsuredCalls s [] [] = Unit {0}
EnsuredCalls s [] (g ∷ gs) = ⊥
EnsuredCalls s (c ∷ cs) [] = ⊥
EnsuredCalls s (c ∷ cs) (g ∷ gs) = EnsuredCall s c g × EnsuredCalls (sender_left g) cs gs

-- What a sending side gives to it.
abbrev pub side_gives : Side → Sender → Call → SideGot
side_gives side s (sending f out0 out1) = sent_so (side.send s f out0 out1)
side_gives side s resetting = reset_so (side.reset s)

unfoldable pub side_gives_all : Side → Sender → List Call → List SideGot
side_gives_all side s [] = []
side_gives_all side s (c ∷ cs) = side_gives side s c ∷ side_gives_all side (sender_left (side_gives side s c)) cs

-- There is nothing else to get than what the definitions' side gives. So what is shown of it, and of every side that meets the order,
-- holds of the runs of every such program.
abbrev pub SendRunsCoincide : Type 0
SendRunsCoincide = (s : Sender) (calls : List Call) (gs : List SideGot) → EnsuredCalls s calls gs → gs ≡ side_gives_all the_side s calls

-- What was sent, read from what the program got: it is what the side sends.
unfoldable pub sent_in : List Call → List SideGot → List Pair
sent_in [] gs = []
sent_in (c ∷ cs) [] = []
sent_in (sending f out0 out1 ∷ cs) (sent_so r ∷ gs) = pair_of f r r.said ++ sent_in cs gs
sent_in (sending f out0 out1 ∷ cs) (reset_so u ∷ gs) = sent_in cs gs
sent_in (resetting ∷ cs) (g ∷ gs) = sent_in cs gs

abbrev pub SentIsRead : Side → Type 0
SentIsRead side = (s : Sender) (calls : List Call) → sent_in calls (side_gives_all side s calls) ≡ sent side s calls

-- ---- their numbers

-- no call is a reset
unfoldable pub unbroken : List Call → Bool
unbroken [] = true
unbroken (sending f out0 out1 ∷ cs) = unbroken cs
unbroken (resetting ∷ cs) = false

-- Both copies are the frame that was given with n in its tag. So the reader finds n, and the key and the type field of that
-- frame; and without its tag it is that frame.
pub record Carries (p : Pair) (n : ℕ) : Type 0 where
  pub copy0 : p.copy0 ≡ tagged p.given n
  pub copy1 : p.copy1 ≡ tagged p.given n
  pub read : read_of (tagged p.given n)
      ≡ answers (record { header = record { dest = dest_of p.given; vlan = vlan_of p.given; at = type_at p.given; tagged = true; rank = rank_of p.given }; number = n })
  pub bare : untagged (tagged p.given n) ≡ p.given

-- "Frames sent without a reset", from a sender on: its next number has 16 bits, as each value of the code's type has.
pub record WithoutReset (s : Sender) (calls : List Call) : Type 0 where
  pub sixteen : s.next < 65536
  pub whole : unbroken calls ≡ true

-- They "carry their index modulo 65536": the k-th frame that was sent, refused ones not counted, carries the next number plus k.
abbrev pub SentFrom : Side → Type 0
SentFrom side =
    (s : Sender) (calls : List Call) (k : ℕ) (p : Pair) → WithoutReset s calls
    → nth (sent side s calls) k ≡ some p → Carries p ((s.next + k) % 65536)

-- So from a sender at first it carries k,
abbrev pub SentAtFirst : Side → Type 0
SentAtFirst side =
    (calls : List Call) (k : ℕ) (p : Pair) → unbroken calls ≡ true → nth (sent side sender_at_first calls) k ≡ some p → Carries p (k % 65536)

-- and from each reset on.
abbrev pub SentAfterReset : Side → Type 0
SentAfterReset side =
    (s : Sender) (before after : List Call) (k : ℕ) (p : Pair) → unbroken after ≡ true
    → nth (sent side (ran side s (before ++ resetting ∷ [])) after) k ≡ some p → Carries p (k % 65536)

-- A run in two parts sends what the parts send.
abbrev pub SentInParts : Side → Type 0
SentInParts side =
    (s : Sender) (before after : List Call) → sent side s (before ++ after) ≡ sent side s before ++ sent side (ran side s before) after

-- "A refused frame uses up no number": the next number has risen by as many as were sent, modulo 65536.
abbrev pub NextRises : Side → Type 0
NextRises side =
    (s : Sender) (calls : List Call) → WithoutReset s calls
    → (ran side s calls).next ≡ (s.next + length (sent side s calls)) % 65536

-- Sends that are 65536 apart carry one number: of the same frame they are the same bytes.
abbrev pub SameBytes : Side → Type 0
SameBytes side =
    (s : Sender) (calls : List Call) (k : ℕ) (p q : Pair) → WithoutReset s calls
    → nth (sent side s calls) k ≡ some p → nth (sent side s calls) (k + 65536) ≡ some q → p.given ≡ q.given → p ≡ q

-- All of it, of every sending side that meets the order.
pub record SentNumbered (side : Side) : Type 0 where
  pub sent-from : SentFrom side
  pub sent-at-first : SentAtFirst side
  pub sent-after-reset : SentAfterReset side
  pub sent-in-parts : SentInParts side
  pub next-rises : NextRises side
  pub same_bytes : SameBytes side

abbrev pub SidesNumber : Type 0
SidesNumber = (side : Side) → MeetsSide side → SentNumbered side
