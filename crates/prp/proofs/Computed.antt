-- The worked examples and the edges, by computation, and that a byte is needed for the round trip. Assumes nothing.
use mathlib.Core.Path.{◌≡◌, refl, ap}
use Prim.Native.Nat.{ℕ}
use native.Mathlib.Omega.{arith}
use mathlib.Core.List.{List, [], ◌∷◌}
use lib.ListN.{get_or}
use Rattle.refusal.proofs.Checks.{same-value}
use Rattle.frame.specs.Bytes.{overlay}
use Rattle.frame.specs.Frame.{type_at, has_vlan, vlan_of, is_tagged, head_short, tag_short, header_of, read_of, cut_at, tag_at}
use Rattle.prp.specs.Prp.{Turn, first, width_of, trailer_bytes, same, lan_of, network_of, is_lan, after_type, wears, body_of, from_of, trailed, to_as_read, to_of, turn_into, from_prp, to_prp}
use Rattle.prp.specs.RoundTrips.{BytesNeeded}
use Rattle.prp.specs.Example.{head, head_vlan, payload, tag, new0, new1, old0, old1, with, before, group, Worked, FromEdges, ToEdges, GroupPasses}

pub worked : Worked
unfolding head head_vlan payload tag new0 new1 old0 old1 type_at has_vlan vlan_of is_tagged head_short tag_short header_of read_of cut_at tag_at width_of trailer_bytes same lan_of network_of is_lan after_type wears body_of from_of trailed to_as_read to_of turn_into from_prp to_prp overlay
worked = record {
  new-a = record { from = refl; to = refl };
  new-b = record { from = refl; to = refl };
  new-vlan = record { from = refl; to = refl };
  old-a = record { from = refl; to = refl };
  old-b = record { from = refl; to = refl };
  old-vlan = record { from = refl; to = refl };
  new-wide = record { from = refl; to = refl };
  told = refl;
  behind = refl;
}

pub from-edges : FromEdges
unfolding head head_vlan payload tag new0 old0 with type_at has_vlan vlan_of is_tagged head_short tag_short header_of read_of cut_at tag_at width_of trailer_bytes same lan_of network_of is_lan after_type wears body_of from_of trailed to_as_read to_of turn_into from_prp to_prp overlay
from-edges = record {
  long-new = (refl, refl);
  long-old = (refl, refl);
  none = (refl, refl);
  short-new = (refl, refl);
  short-old = (refl, refl);
  short-vlan = (refl, refl);
  short-vlan-old = (refl, refl);
  short-carries = refl;
  carries = refl;
  other = (refl, refl);
  lan = (refl, refl);
  size = (refl, refl);
  size-data = refl;
  mark = (refl, refl);
  room = refl;
}

pub to-edges : ToEdges
unfolding head payload tag before type_at has_vlan vlan_of is_tagged head_short tag_short header_of read_of cut_at tag_at width_of trailer_bytes same lan_of network_of is_lan after_type wears body_of from_of trailed to_as_read to_of turn_into from_prp to_prp overlay
to-edges = record {
  network = (refl, refl);
  long = (refl, refl);
  short = (refl, refl);
  bare = (refl, refl);
  twofold = (refl, refl);
  room = refl;
}

pub group-passes : GroupPasses
unfolding group payload tag new0 type_at has_vlan vlan_of is_tagged head_short tag_short header_of read_of cut_at tag_at width_of trailer_bytes same lan_of network_of is_lan after_type wears body_of from_of trailed to_as_read to_of
group-passes = record { from = refl; to = refl }

-- a number whose low byte is no byte comes back as two other bytes
abbrev no_byte : List ℕ
no_byte = 2 ∷ 0 ∷ 0 ∷ 0 ∷ 0 ∷ 1 ∷ 2 ∷ 0 ∷ 0 ∷ 0 ∷ 0 ∷ 9 ∷ 8 ∷ 0 ∷ 0 ∷ 256 ∷ 0xA0 ∷ 4 ∷ []

pub bytes-needed : BytesNeeded
unfolding type_at has_vlan vlan_of is_tagged head_short tag_short header_of read_of cut_at tag_at width_of trailer_bytes same lan_of network_of is_lan after_type wears body_of from_of trailed to_as_read to_of
bytes-needed all =
    let e = all first no_byte _ refl in
    let z : ◌≡◌ {A = ℕ} 1 0 = ap (λ (t : Turn). get_or t.frame 14 0) (same-value e) in
    omega arith
