-- What the writer makes, an arrival hands up. Assumes nothing.
use Prim.Native.Nat.{◌+◌, ◌-◌, ◌≤◌, ◌<◌}
use mathlib.Core.Path.{◌≡◌, refl, sym, ap, ◌∙◌}
use native.Mathlib.Omega.{arith}
use lib.ListN.{length}
use borrow.Author.Tests.{le-ltb, lt-leb}
use Rattle.frame.specs.Frame.{type_at}
use Rattle.frame.proofs.Writes.{wrote-is, tag-length}
use Rattle.frame.proofs.PutThenTake.{put-then-take, no-group-written}
use Rattle.stream.specs.Decisions.{case_of, verdict}
use Rattle.calls.specs.Calls.{admitted, arrival_at, arrival, checked, act, answer, output}
use Rattle.calls.specs.Laws.{HalvesFit}
use Rattle.calls.proofs.Places.{some-place}

pub halves-fit : HalvesFit
unfolding act checked admitted arrival arrival_at answer output verdict case_of
halves-fit t network f number g out i few net small wrote some place law any room =
    let r = put-then-take f number g small wrote in
    let k = wrote-is f number wrote in
    let l : length g ≡ length f + 6 = ap length k.same ∙ tag-length f (type_at f) number (omega (arith, k.room)) in
    let fits : length g - 6 ≤ length out = omega arith in
    let inside : i < length t = rw place (some-place _ t some) in
    let remains = (no-group-written f number g wrote).1 in
    simp (le-ltb _ _ few, le-ltb _ _ net, r.0, remains, sym place, lt-leb _ _ inside, law, le-ltb _ _ fits, r.1, any) (refl, refl)
