-- Document 02, order 7: what turning a frame one way and then the other gives, as statements over every kind of trailer.
-- Assumes nothing.
use Rattle.std.specs.Prelude.{ℕ, ◌+◌, ◌≤◌, ◌<◌, ◌≡◌, ◌↔◌, true, false, List, length, take, ltb}
use Rattle.refusal.specs.Checks.Said.{refused, answers}
use Rattle.refusal.specs.Numbers.{TAGGED, TRAILER}
use Rattle.std.specs.Prelude.{if◌then◌else◌}
use Rattle.record.specs.Sizes.{frame_most}
use Rattle.frame.specs.Bytes.{word, overlay, Bytes}
use Rattle.frame.specs.Frame.{dest_of, has_vlan, vlan_of, type_at, is_tagged, reserved_of, former_of, read_of, untagged, tagged, rank_of}
use Rattle.prp.specs.declared.Kind.{Kind}
use Rattle.prp.specs.Prp.{Trailer, first, of2012, trailer_of, width_of, end_at, number_at, lan_at, lan_of, after_type, Turn, Told, body_of, from_of, to_of, from_prp, to_prp}

-- ---- from PRP, and back

-- "The round trip from PRP and back, for every accepted frame": the same bytes, network and number. (That every element is a byte
-- is needed: `BytesNeeded`.)
abbrev pub FromThenTo : Type 0
FromThenTo =
    (k : Trailer) (f : List ℕ) (t : Turn) → Bytes f → from_of k f ≡ answers t
    → to_of k t.network t.frame ≡ answers (record { network = t.network; number = t.number; frame = f })

-- The same of the two calls, with any buffers that have room: what the one wrote, the other turns back.
abbrev pub FromThenToCalls : Type 0
FromThenToCalls =
    (k : Trailer) (f out back : List ℕ) (a : Told) → Bytes f → (from_prp k f out).said ≡ answers a → length f ≤ length back
    → to_prp k a.network (take a.length (from_prp k f out).bytes) back
    ≡ record { said = answers (record { network = a.network; number = a.number; length = length f }); bytes = overlay f back }

-- What from PRP makes, the tag reader reads with the number, key and type field of the PRP frame; and without its tag it is the
-- PRP frame without its trailer.
pub record ReadAs (k : Trailer) (f : List ℕ) (t : Turn) : Type 0 where
  pub network : (t.network ≤ 1) × (lan_at f (end_at k f) ≡ lan_of t.network)
  pub number : t.number ≡ number_at f (end_at k f)
  pub read : read_of t.frame ≡ answers (record { header = record { dest = dest_of f; vlan = vlan_of f; at = type_at f; tagged = true; rank = rank_of f }; number = t.number })
  pub type : former_of t.frame ≡ word f (type_at f)
  pub bare : untagged t.frame ≡ body_of k f

abbrev pub FromIsRead : Type 0
FromIsRead = (k : Trailer) (f : List ℕ) (t : Turn) → Bytes f → from_of k f ≡ answers t → ReadAs k f t

-- "the line's setting says which is in use": no frame is accepted under both.
abbrev pub NotBoth : Type 0
NotBoth = (f : List ℕ) (t u : Turn) → from_of first f ≡ answers t → from_of of2012 f ≡ answers u → ⊥

-- ---- to PRP, and back

-- The frame without its tag decides: 13 if F1C1 stands at its type field, 16 if its size needs more than 12 bits, else network and
-- number come back, and that frame with a tag put in.
abbrev pub ToThenFromIs : Type 0
ToThenFromIs =
    (k : Trailer) (network : ℕ) (f : List ℕ) (t : Turn) → to_of k network f ≡ answers t
    → from_of k t.frame
    ≡ (if is_tagged (untagged f) then refused TAGGED
    else if ltb 4095 (after_type (untagged f) + width_of k) then refused TRAILER
    else answers (record { network = network; number = t.number; frame = tagged (untagged f) t.number }))

-- So it is the same frame exactly if its reserved bytes were zero, the former type is neither F1C1 nor, in a frame with no VLAN
-- tag, 8100, and the size has 12 bits.
abbrev pub ToThenFrom : Type 0
ToThenFrom =
    (k : Trailer) (network : ℕ) (f : List ℕ) (t : Turn) → Bytes f → to_of k network f ≡ answers t
    → (from_of k t.frame ≡ answers (record { network = network; number = t.number; frame = f }))
    ↔ ((reserved_of f ≡ 0) × (former_of f ≡ 0xF1C1 → ⊥) × (has_vlan f ≡ false → former_of f ≡ 0x8100 → ⊥) × (after_type (untagged f) + width_of k < 4096))

-- The size has 12 bits under both trailers (so that the last condition always holds), and no frame comes to more than 2000 bytes,
-- either way.
abbrev pub SizesFit : Type 0
SizesFit =
    ((k : Trailer) (f : List ℕ) (t : Turn) → from_of k f ≡ answers t → length t.frame ≤ frame_most)
    × ((k : Kind) (network : ℕ) (f : List ℕ) (t : Turn) → to_of (trailer_of k) network f ≡ answers t
    → (after_type (untagged f) + width_of (trailer_of k) < 4096) × (length t.frame ≤ frame_most))

-- ---- the premise is needed

abbrev pub BytesNeeded : Type 0
BytesNeeded = ((k : Trailer) (f : List ℕ) (t : Turn) → from_of k f ≡ answers t → to_of k t.network t.frame ≡ answers (record { network = t.network; number = t.number; frame = f })) → ⊥
