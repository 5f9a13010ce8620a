-- A copy of a sent frame that is turned to PRP and back is that copy. Assumes nothing.
use Prim.Native.Nat.{ℕ, ◌+◌, ◌≤◌}
use mathlib.Core.Path.{◌≡◌, refl, ap, ◌∙◌}
use mathlib.Core.Logic.{inl}
use mathlib.Core.List.{List}
use native.Mathlib.Omega.{arith}
use lib.Dec.{lit≤}
use lib.ListN.{length, take, get_or}
use borrow.Author.Tests.{le-ltb}
use Rattle.refusal.specs.Checks.Said.{answers}
use Rattle.frame.specs.Bytes.{overlay}
use Rattle.frame.specs.Frame.{type_at, untagged, tagged}
use Rattle.frame.proofs.Bytes.{overlay-front}
use Rattle.frame.proofs.Heads.{head-whole}
use Rattle.frame.proofs.Writes.{tag-length}
use Rattle.demands.specs.Demand3.{number_of}
use Rattle.sender.specs.Runs.{Side, MeetsSide, the_side, Pair, Carries, WithoutReset}
use Rattle.sender.proofs.Numbers.{sent-from, the-side-meets}
use Rattle.prp.specs.declared.Kind.{Kind}
use Rattle.prp.specs.Prp.{Trailer, trailer_of, Told, width_of, trailer_bytes, same, lan_of, network_of, is_lan, after_type, wears, body_of, from_of, trailed, to_as_read, to_of, turn_into, from_prp, to_prp}
use Rattle.prp.proofs.Trailers.{width_is}
use Rattle.prp.proofs.Turns.{to_turn, trailed-length}
use Rattle.prp.proofs.ToThenFrom.{to-then-from-is, sizes-fit}
use Rattle.end_to_end.specs.Runs.{on_way, near, seven_sent}
use Rattle.end_to_end.specs.PrpLines.{SentOverPrp, SentOverPrpCalls, on_line, foreign, PrpRun}
use Rattle.end_to_end.proofs.Runs.{computing}
use Rattle.end_to_end.proofs.Heard.{Accepted, accepted, same_copy}

-- A copy with its tag, of a frame that the writer accepts.
module _ (kind : Kind) (p : Pair) (n w : ℕ) (y : Carries p n) (d : Accepted p.given) (known : w ≤ 1) where
  abbrev k : Trailer
  k = trailer_of kind

  abbrev f : List ℕ
  f = tagged p.given n

  turned-to : to_of k w f ≡ answers (to_turn k w n f)
  unfolding to_of to_as_read
  turned-to = rw (y.read, le-ltb 1 w known, y.bare, head-whole p.given d.room)

  turned-back : from_of k (to_turn k w n f).frame ≡ answers (record { network = w; number = n; frame = f })
  turned-back =
      let s = (sizes-fit.1 kind w f (to_turn k w n f) turned-to).0 in
      let t = to-then-from-is k w f (to_turn k w n f) turned-to in
      t ∙ rw (y.bare, d.plain, le-ltb 4095 (after_type p.given + width_of k) (omega (arith, rw y.bare at s)))

  -- with buffers: the first has room for what is turned, as a trailer is no longer than a tag
  line-fits : length (to_turn k w n f).frame ≤ length f
  line-fits =
      let l = trailed-length k w n (untagged f) in
      let b = ap length y.bare in
      let t = tag-length p.given (type_at p.given) n (omega (arith, d.room)) in
      omega (arith, l, b, t, width_is kind)

  abbrev told : Told
  told = record { network = w; number = n; length = length (to_turn k w n f).frame }

  call-to : (out : List ℕ) → length f ≤ length out → to_prp k w f out ≡ record { said = answers told; bytes = overlay (to_turn k w n f).frame out }
  unfolding to_prp turn_into
  call-to out h =
      let e : length (to_turn k w n f).frame ≤ length out = omega (arith, h, line-fits) in
      rw turned-to (simp (le-ltb _ _ e))

  call_back : (back : List ℕ) → length f ≤ length back
      → from_prp k (to_turn k w n f).frame back ≡ record { said = answers (record { network = w; number = n; length = length f }); bytes = overlay f back }
  unfolding from_prp turn_into
  call_back back h = rw turned-back (simp (le-ltb _ _ h))

  both-calls : (out back : List ℕ) → length f ≤ length out → length f ≤ length back
      → (a : Told) × ((to_prp k w f out).said ≡ answers a)
      × (from_prp k (take a.length (to_prp k w f out).bytes) back ≡ record { said = answers (record { network = w; number = n; length = length f }); bytes = overlay f back })
  both-calls out back o b =
      let line : List ℕ = (to_turn k w n f).frame in
      let t = call-to out o in
      (told, ap (λ x. x.said) t, ap (λ x. from_prp k (take (length line) x.bytes) back) t ∙ ap (λ (g : List ℕ). from_prp k g back) (overlay-front line out refl) ∙ call_back back b)

module _ (side : Side) (m : MeetsSide side) where
  pub sent-over-prp : SentOverPrp side
  sent-over-prp s sending k f kind w r (p, e, c) h =
      let n : ℕ = number_of (s.next + k) in
      let y = sent-from side m s sending k p r e in
      let d = accepted side m s sending k p e in
      rw (same_copy y c) (to_turn (trailer_of kind) w n (tagged p.given n), turned-to kind p n w y d h, turned-back kind p n w y d h)

  pub sent-over-prp-calls : SentOverPrpCalls side
  sent-over-prp-calls s sending k f kind w out back r (p, e, c) h o b =
      let y = sent-from side m s sending k p r e in
      let z = same_copy y c in
      rw z (both-calls kind p (number_of (s.next + k)) w y (accepted side m s sending k p e) h out back (rw z at o) (rw z at b))

-- ---- by number

unfoldable turning : Unit {0}
unfolding computing width_of trailer_bytes same lan_of network_of is_lan after_type wears body_of from_of trailed to_as_read to_of turn_into from_prp to_prp on_line foreign
turning = tt

numbered : WithoutReset near seven_sent
unfolding turning
numbered = record { sixteen = lit≤ tt; whole = refl }

pub prp-run : PrpRun
unfolding turning
prp-run = record {
  copy = (_, refl, inl refl);
  to = refl;
  from = refl;
  enough = refl;
  room_out = refl;
  room_back = refl;
  turns = λ kind w h. sent-over-prp the_side the-side-meets near seven_sent 2 (on_way 2 65535) kind w numbered (_, refl, inl refl) h;
  calls = λ kind w out back h o b. sent-over-prp-calls the_side the-side-meets near seven_sent 2 (on_way 2 65535) kind w out back numbered (_, refl, inl refl) h o b;
  network = refl;
  stranger = (refl, λ e. let z : ◌≡◌ {A = ℕ} 1 0 = ap (λ (g : List ℕ). get_or g 15 0) e in omega arith);
}
