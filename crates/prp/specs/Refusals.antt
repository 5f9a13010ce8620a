-- Document 02, order 7: the condition of each refusal number of the two calls, in the order's words, and each call's list of
-- numbers in its order. They do not mention the calls. Assumes nothing.
use Rattle.std.specs.Prelude.{ℕ, ◌+◌, ◌-◌, ◌≤◌, ◌<◌, ◌≡◌, ◌↔◌, Bool, true, ◌&&◌, ◌||◌, not, List, [], ◌∷◌, ◌++◌, length, ltb, Result}
use Rattle.refusal.specs.Checks.{Check, First}
use Rattle.refusal.specs.declared.Refusal.{Refusal}
use Rattle.refusal.specs.Checks.Said.{refused}
use Rattle.refusal.specs.Numbers.{NETWORK, LONG, SHORT, UNTAGGED, ROOM, TAGGED, GROUP, TRAILER}
use Rattle.record.specs.Sizes.{frame_most}
use Rattle.frame.specs.Bytes.{Bytes}
use Rattle.frame.specs.Frame.{has_vlan, type_at, head_short, untagged}
use Rattle.frame.specs.Refusals.{too_long, short, no_tag, too_small, carries_tag}
use Rattle.frame.specs.TagCalls.{Outcome}
use Rattle.prp.specs.declared.Turned.{Turned}
use Rattle.prp.specs.Prp.{Trailer, Told, width_of, trailer_bytes, after_type, lan_of, wears, from_prp, to_prp, said_turned}

-- 4: "shorter than its header and trailer together"; the header has 14 bytes, and 18 if 8100 stands at 12
abbrev pub prp_short : Trailer → (f : List ℕ) → Bool
prp_short k f = ltb (length f) (14 + width_of k) || (has_vlan f && ltb (length f) (18 + width_of k))

-- 16: "no trailer of the set kind with a fitting size and a LAN of A or B". It has one if its bytes end so:
pub record Wears (k : Trailer) (f : List ℕ) : Type 0 where
  pub body : List ℕ
  pub number : ℕ
  pub network : ℕ
  pub known : network ≤ 1
  pub twelve : after_type f < 4096
  pub same : f ≡ body ++ trailer_bytes k number (lan_of network) (after_type f)

abbrev pub TrailerWords : Type 0
TrailerWords = (k : Trailer) (f : List ℕ) → Bytes f → type_at f + 2 + width_of k ≤ length f → (wears k f ≡ true) ↔ Wears k f

-- From PRP: 3 (the trailer goes, and the 6 bytes of a tag come: above 2000), 4, 13, 16, 8.
unfoldable pub from_checks : Trailer → (f out : List ℕ) → List Check
from_checks k f out =
    record { number = LONG; holds = too_long (frame_most - 6 + width_of k) f }
    ∷ record { number = SHORT; holds = prp_short k f }
    ∷ record { number = TAGGED; holds = carries_tag f }
    ∷ record { number = TRAILER; holds = not (wears k f) }
    ∷ record { number = ROOM; holds = too_small (length f + 6 - width_of k) out }
    ∷ []

-- To PRP: 2, 3, 4, 5, 4 again, 8.
unfoldable pub to_checks : Trailer → (network : ℕ) (f out : List ℕ) → List Check
to_checks k network f out =
    record { number = NETWORK; holds = ltb 1 network }
    ∷ record { number = LONG; holds = too_long frame_most f }
    ∷ record { number = SHORT; holds = short f }
    ∷ record { number = UNTAGGED; holds = no_tag f }
    ∷ record { number = SHORT; holds = head_short (untagged f) }
    ∷ record { number = ROOM; holds = too_small (length f - 6 + width_of k) out }
    ∷ []

-- A call is refused with n exactly if n is the first number of its list whose condition holds.
abbrev pub FromRefusedExactly : Type 0
FromRefusedExactly = (k : Trailer) (f out : List ℕ) (n : ℕ) → ((from_prp k f out).said ≡ refused n) ↔ First n (from_checks k f out)

abbrev pub ToRefusedExactly : Type 0
ToRefusedExactly = (k : Trailer) (network : ℕ) (f out : List ℕ) (n : ℕ) → ((to_prp k network f out).said ≡ refused n) ↔ First n (to_checks k network f out)

-- A refused call changes no byte of the output.
abbrev pub FromRefusedKeeps : Type 0
FromRefusedKeeps = (k : Trailer) (f out : List ℕ) (n : ℕ) → (from_prp k f out).said ≡ refused n → (from_prp k f out).bytes ≡ out

abbrev pub ToRefusedKeeps : Type 0
ToRefusedKeeps = (k : Trailer) (network : ℕ) (f out : List ℕ) (n : ℕ) → (to_prp k network f out).said ≡ refused n → (to_prp k network f out).bytes ≡ out

-- Two outcomes that meet a contract coincide: answer and output bytes.
abbrev pub TurnsCoincide : Type 0
TurnsCoincide =
    (o : Outcome Told) (r s : Result Turned Refusal) (x y : List ℕ)
    → (said_turned r ≡ o.said) × (x ≡ o.bytes) → (said_turned s ≡ o.said) × (y ≡ o.bytes) → (r ≡ s) × (x ≡ y)

-- 14 is in neither list: a group source passes both ways.
abbrev pub NeverGroup : Type 0
NeverGroup =
    (k : Trailer) (network : ℕ) (f out : List ℕ)
    → ((from_prp k f out).said ≡ refused GROUP → ⊥) × ((to_prp k network f out).said ≡ refused GROUP → ⊥)
