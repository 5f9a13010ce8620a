-- Against vacuity, and against premises that are too weak: runs with numbers, of the sending side that the definitions give.
-- Assumes nothing.
use Rattle.std.specs.Prelude.{ℕ, ◌/◌, ◌%◌, ◌≡◌, false, List, [], ◌∷◌, ◌++◌, replicate}
use Rattle.refusal.specs.Checks.Said.{answers}
use Rattle.refusal.specs.Numbers.{LONG, SHORT, ROOM, TAGGED, GROUP}
use Rattle.sender.specs.declared.Sender.{Sender}
use Rattle.sender.specs.Sender.{sender_at_first, refuses, send_of}
use Rattle.sender.specs.Runs.{Call, sending, resetting, the_side, ran, Pair, sent, unbroken, WithoutReset, Carries}

-- A frame of 14 bytes with no VLAN tag, and what it is with a number in its tag.
unfoldable pub plain : List ℕ
plain = 2 ∷ 0 ∷ 0 ∷ 0 ∷ 0 ∷ 1 ∷ 2 ∷ 0 ∷ 0 ∷ 0 ∷ 0 ∷ 9 ∷ 8 ∷ 0 ∷ []

unfoldable pub numbered : ℕ → List ℕ
numbered n = 2 ∷ 0 ∷ 0 ∷ 0 ∷ 0 ∷ 1 ∷ 2 ∷ 0 ∷ 0 ∷ 0 ∷ 0 ∷ 9 ∷ 0xF1 ∷ 0xC1 ∷ 0 ∷ 0 ∷ n / 256 ∷ n % 256 ∷ 8 ∷ 0 ∷ []

unfoldable pub pair : ℕ → Pair
pair n = record { given = plain; copy0 = numbered n; copy1 = numbered n }

-- Outputs of so many bytes.
unfoldable pub room0 : ℕ → List ℕ
room0 m = replicate m 7

unfoldable pub room1 : ℕ → List ℕ
room1 m = replicate m 8

unfoldable pub into : (m n : ℕ) → Call
into m n = sending plain (room0 m) (room1 n)

-- ---- over the wrap

-- Four are sent. Between them are refused: one whose first output is a byte too small, one whose second is, one that carries a
-- tag already, and one with no output at all.
unfoldable pub near : Sender
near = record { next = 65534 }

unfoldable pub over_wrap : List Call
over_wrap =
    into 20 20
    ∷ into 21 24
    ∷ into 19 20
    ∷ into 20 19
    ∷ sending (numbered 7) (room0 40) (room1 40)
    ∷ into 0 0
    ∷ into 20 20
    ∷ into 30 20
    ∷ []

pub record WrapSends : Type 0 where
  pub premises : WithoutReset near over_wrap
  pub sent : sent the_side near over_wrap ≡ pair 65534 ∷ pair 65535 ∷ pair 0 ∷ pair 1 ∷ []
  pub left : ran the_side near over_wrap ≡ record { next = 2 }
  -- the number and the length are told, bytes behind the frame keep their values, and the two outputs need not have the same
  -- length
  pub told : (send_of near plain (room0 21) (room1 24)).said ≡ answers (record { number = 65534; length = 20 })
  pub behind : ((send_of near plain (room0 21) (room1 24)).out0 ≡ numbered 65534 ++ room0 1) × ((send_of near plain (room0 21) (room1 24)).out1 ≡ numbered 65534 ++ room1 4)

-- ---- each refusal, and its place among them

-- A frame with a group source; one with a group source that carries a tag, and one that is short behind 8100; and a frame of 14
-- bytes and more.
unfoldable pub reflected : List ℕ
reflected = 2 ∷ 0 ∷ 0 ∷ 0 ∷ 0 ∷ 1 ∷ 3 ∷ 0 ∷ 0 ∷ 0 ∷ 0 ∷ 9 ∷ 8 ∷ 0 ∷ []

unfoldable pub twofold : List ℕ
twofold = 2 ∷ 0 ∷ 0 ∷ 0 ∷ 0 ∷ 1 ∷ 3 ∷ 0 ∷ 0 ∷ 0 ∷ 0 ∷ 9 ∷ 0xF1 ∷ 0xC1 ∷ 0 ∷ 0 ∷ 0 ∷ 7 ∷ 8 ∷ 0 ∷ []

unfoldable pub cut : List ℕ
cut = 2 ∷ 0 ∷ 0 ∷ 0 ∷ 0 ∷ 1 ∷ 3 ∷ 0 ∷ 0 ∷ 0 ∷ 0 ∷ 9 ∷ 0x81 ∷ 0 ∷ 0 ∷ 1 ∷ 8 ∷ []

unfoldable pub padded : (behind : ℕ) → List ℕ
padded behind = plain ++ replicate behind 0

abbrev pub Refused : (f out0 out1 : List ℕ) → (number : ℕ) → Type 0
Refused f out0 out1 n = send_of near f out0 out1 ≡ refuses near out0 out1 n

pub record RefusesEach : Type 0 where
  pub long : Refused (padded 1981) (room0 0) (room1 2001) LONG
  pub short : Refused cut (room0 0) (room1 40) SHORT
  pub tagged : Refused (numbered 3) (room0 40) (room1 0) TAGGED
  pub tagged-before-group : Refused twofold (room0 40) (room1 40) TAGGED
  pub long-before-both : Refused (twofold ++ replicate 1975 0) (room0 2001) (room1 2001) LONG
  pub group : Refused reflected (room0 40) (room1 0) GROUP
  pub first : Refused plain (room0 19) (room1 20) ROOM
  pub second : Refused plain (room0 20) (room1 19) ROOM
  pub longest : Refused (padded 1980) (room0 2000) (room1 1999) ROOM

-- ---- the premises

pub record SentPremisesNeeded : Type 0 where
  -- the greatest next number meets them, and carries itself
  pub widest : WithoutReset (record { next = 65535 }) (into 20 20 ∷ []) × (sent the_side (record { next = 65535 }) (into 20 20 ∷ []) ≡ pair 65535 ∷ [])
  -- with a reset between them both carry 0
  pub reset : (unbroken (into 20 20 ∷ resetting ∷ into 20 20 ∷ []) ≡ false) × (sent the_side sender_at_first (into 20 20 ∷ resetting ∷ into 20 20 ∷ []) ≡ pair 0 ∷ pair 0 ∷ []) × (Carries (pair 0) 1 → ⊥)
  -- one more, which no sender has
  pub wide : (sent the_side (record { next = 65536 }) (into 20 20 ∷ []) ≡ pair 65536 ∷ []) × (Carries (pair 65536) 0 → ⊥)
