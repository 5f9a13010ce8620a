-- The runs with numbers compute. Assumes nothing.
use mathlib.Core.Path.{refl, ap}
use native.Mathlib.Omega.{arith}
use mathlib.Core.List.{[], ◌∷◌}
use lib.Dec.{lit≤}
use Rattle.frame.specs.Frame.{group_source, has_vlan, vlan_of, type_at, is_tagged, head_short, number_in, place_of, put_at, tag_at, write_of}
use Rattle.frame.specs.Bytes.{overlay}
use Rattle.frame.specs.TagCalls.{write_into, write_tag}
use Rattle.sender.specs.Sender.{Sends, sender_at_first, following, send_into, send_of}
use Rattle.sender.specs.Runs.{the_side, ran, pair_of, sent, nth, unbroken}
use Rattle.sender.specs.Wrong.{risen, rises_on_refusal, second_gets_next, first_too_soon, wraps_to_one, RuledOut}
use Rattle.sender.specs.Example.{plain, numbered, pair, room0, room1, into, near, over_wrap, reflected, twofold, cut, padded, WrapSends, RefusesEach, SentPremisesNeeded}

-- One name for all that they compute with.
unfoldable pub computing : Unit {0}
unfolding group_source has_vlan vlan_of type_at is_tagged head_short place_of put_at tag_at write_of overlay following send_into send_of the_side ran pair_of sent unbroken plain numbered pair room0 room1 into near over_wrap reflected twofold cut padded
computing = tt

pub wrap-sends : WrapSends
unfolding computing
wrap-sends = record { premises = record { sixteen = lit≤ tt; whole = refl }; sent = refl; left = refl; told = refl; behind = (refl, refl) }

pub refuses-each : RefusesEach
unfolding computing
refuses-each = record { long = refl; short = refl; tagged = refl; tagged-before-group = refl; long-before-both = refl; group = refl; first = refl; second = refl; longest = refl }

pub sent-premises-needed : SentPremisesNeeded
unfolding computing
sent-premises-needed = record {
  widest = (record { sixteen = lit≤ tt; whole = refl }, refl);
  reset = (refl, refl, λ c. let e = ap number_in c.copy0 in omega (arith, e));
  wide = (refl, λ c. let e = ap number_in c.copy0 in omega (arith, e));
}

pub ruled_out : RuledOut
unfolding computing nth write_tag write_into risen rises_on_refusal second_gets_next first_too_soon wraps_to_one
ruled_out = record {
  rises-on-refusal = λ h. let e = ap number_in (h sender_at_first (into 19 20 ∷ into 20 20 ∷ []) 0 (pair 1) (record { sixteen = lit≤ tt; whole = refl }) refl).copy0 in omega (arith, e);
  second-gets-next = λ h. let e = ap number_in (h sender_at_first (into 20 20 ∷ []) 0 (record { given = plain; copy0 = numbered 0; copy1 = numbered 1 }) (record { sixteen = lit≤ tt; whole = refl }) refl).copy1 in omega (arith, e);
  first-too-soon = λ h. let e = ap (λ (r : Sends). number_in r.out0) (h near plain (room0 20) (room1 19) 8 refl) in omega (arith, e);
  wraps-to-one = λ h. let e = ap number_in (h near (into 20 20 ∷ into 20 20 ∷ into 20 20 ∷ []) 2 (pair 1) (record { sixteen = lit≤ tt; whole = refl }) refl).copy0 in omega (arith, e);
}
