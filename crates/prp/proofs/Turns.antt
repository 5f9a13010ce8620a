-- What the two calls come to, by the tests that the code makes. Assumes nothing.
use mathlib.Core.Path.{◌≡◌, refl, sym, ap, ◌∙◌}
use Prim.Native.Nat.{ℕ, ◌+◌, ◌-◌, ◌≤◌, ◌<◌}
use native.Mathlib.Omega.{arith}
use mathlib.Core.Bool.{true, false, cond}
use mathlib.Core.List.{List, ◌++◌, append_assoc}
use lib.ListN.{length, take, drop, length-append, length-drop, take-append-drop}
use lib.Seq.{length-take-le, drop_at}
use lib.Dec.{eqb}
use borrow.Author.Tests.{lt-ltb, le-ltb, ltb-true}
use borrow.Rule.Slice.PartMut.{mid_of, put_mid}
use Rattle.refusal.specs.Checks.{Said}
use Rattle.refusal.specs.Checks.Said.{refused, answers}
use Rattle.refusal.specs.declared.Refusal.{Refusal}
use Rattle.std.specs.Prelude.{Result, Err}
use Rattle.refusal.specs.Numbers.{number_of, NETWORK, LONG, SHORT, ROOM, TAGGED, TRAILER}
use Rattle.record.specs.Sizes.{frame_most}
use Rattle.frame.specs.Bytes.{overlay}
use Rattle.frame.specs.declared.Tag.{Tag}
use Rattle.frame.specs.Frame.{type_at, has_vlan, is_tagged, head_short, read_of, cut_at, untagged, tag_at, tagged}
use Rattle.frame.specs.TagCalls.{said_read, written_with, written_without}
use Rattle.frame.specs.declared.Header.{Header}
use Rattle.frame.proofs.Bytes.{tail-over}
use Rattle.frame.proofs.Heads.{type-least, head-short, head-cut, head-whole, HeadIs, TagIs, tag_of}
use Rattle.frame.proofs.Words.{word-take, Place, plain, vlan, place}
use Rattle.frame.proofs.TakeThenPut.{cut-length}
use Rattle.frame.proofs.Writes.{type-place, with-fits, without-fits, tag-length}
use Rattle.prp.specs.Prp.{Trailer, Turn, width_of, trailer_bytes, end_at, number_at, lan_at, lan_of, network_of, after_type, wears, body_of, from_of, trailed, to_as_read, to_of, turn_into, from_prp, to_prp}

-- ---- a frame without its trailer has the header that it had

module _ (o : ℕ) (f : List ℕ) where
  pub type-front : 14 ≤ o → type_at (take o f) ≡ type_at f
  unfolding type_at has_vlan
  type-front h = ap (λ (w : ℕ). cond (eqb w 0x8100) 16 12) (word-take o f 12 h)

  pub tagged-front : type_at f + 2 ≤ o → is_tagged (take o f) ≡ is_tagged f
  unfolding is_tagged
  tagged-front h =
      let t = type-least f in
      rw (type-front (omega arith)) (ap (λ (w : ℕ). eqb w 0xF1C1) (word-take o f (type_at f) h))

-- where a type field can stand
pub type-other : (f : List ℕ) → (type_at f ≡ 12 → ⊥) → type_at f ≡ 16
type-other f n = go (place f)
  where
    go : Place f → type_at f ≡ 16
    go (plain p q v) = absurd (n q)
    go (vlan p q v) = q

-- so what is read of it is read of the frame
pub body-head : (k : Trailer) (f : List ℕ) {e : ℕ} (h : Header) → e ≡ length f - width_of k → 14 + width_of k ≤ length f → HeadIs (take e f) h
    → (type_at f + 2 + width_of k ≤ length f) × (h.at ≡ type_at f) × (h.tagged ≡ is_tagged f)
body-head k f {e} h p r i =
    let l : length (take e f) ≡ e = length-take-le e f (omega arith) in
    let t = type-front e f (omega arith) in
    let room : type_at f + 2 ≤ e = omega (arith, i.room) in
    (omega arith, i.at ∙ t, i.tagged ∙ tagged-front e f room)

-- ---- what is turned goes into the output

module _ (out : List ℕ) {x : Said Turn} (t : Turn) (e : x ≡ answers t) where
  pub turn_small : length out < length t.frame → (refused ROOM ≡ (turn_into out x).said) × (out ≡ (turn_into out x).bytes)
  unfolding turn_into
  turn_small h = rw e (simp (lt-ltb _ _ h) (refl, refl))

  pub turn-done : {new : List ℕ} → length t.frame ≤ length out → new ≡ overlay t.frame out
      → (answers (record { network = t.network; number = t.number; length = length t.frame }) ≡ (turn_into out x).said) × (new ≡ (turn_into out x).bytes)
  unfolding turn_into
  turn-done h w = rw e (simp (le-ltb _ _ h) (refl, w))

pub turn-refused : (out : List ℕ) {x : Said Turn} (n : ℕ) → x ≡ refused n → (refused n ≡ (turn_into out x).said) × (out ≡ (turn_into out x).bytes)
unfolding turn_into
turn-refused out n e = rw e (refl, refl)

-- ---- from PRP

-- the frame as it is turned
abbrev pub from_turn : Trailer → List ℕ → Turn
from_turn k f = record { network = network_of (lan_at f (end_at k f)); number = number_at f (end_at k f); frame = tagged (body_of k f) (number_at f (end_at k f)) }

module _ (k : Trailer) (f : List ℕ) where
  pub from-long : frame_most < length f - width_of k + 6 → from_of k f ≡ refused LONG
  unfolding from_of
  from-long h = simp (lt-ltb _ _ h)

  module _ (few : length f - width_of k + 6 ≤ frame_most) where
    pub from-short : length f < type_at f + 2 + width_of k → from_of k f ≡ refused SHORT
    unfolding from_of
    from-short h = simp (le-ltb _ _ few, lt-ltb _ _ h)

    -- the frame without its trailer is short
    pub from_cut : {e : ℕ} → e ≡ length f - width_of k → 14 + width_of k ≤ length f → head_short (take e f) ≡ true → from_of k f ≡ refused SHORT
    from_cut {e} p r h =
        let l : length (take e f) ≡ e = length-take-le e f (omega arith) in
        let s : length (take e f) < type_at (take e f) + 2 = ltb-true _ _ (sym (head-short (take e f)) ∙ h) in
        from-short (omega (arith, type-front e f (omega arith)))

    module _ (room : type_at f + 2 + width_of k ≤ length f) where
      pub from-tagged : is_tagged f ≡ true → from_of k f ≡ refused TAGGED
      unfolding from_of
      from-tagged t = simp (le-ltb _ _ few, le-ltb _ _ room, t)

      module _ (bare : is_tagged f ≡ false) where
        pub from-none : wears k f ≡ false → from_of k f ≡ refused TRAILER
        unfolding from_of
        from-none h = simp (le-ltb _ _ few, le-ltb _ _ room, bare, h)

        pub from_is : wears k f ≡ true → from_of k f ≡ answers (from_turn k f)
        unfolding from_of
        from_is h = simp (le-ltb _ _ few, le-ltb _ _ room, bare, h)

  -- its tagged frame
  module _ (room : type_at f + 2 + width_of k ≤ length f) where
    pub body-length : length (body_of k f) ≡ length f - width_of k
    unfolding body_of
    body-length = length-take-le (end_at k f) f (omega arith)

    pub body-type : type_at (body_of k f) ≡ type_at f
    unfolding body_of
    body-type = type-front (end_at k f) f (omega (arith, type-least f))

    pub from-length : (n : ℕ) → length (tagged (body_of k f) n) ≡ length f - width_of k + 6
    from-length n =
        tag-length (body_of k f) (type_at (body_of k f)) n (omega (arith, body-length, body-type))
        ∙ ap (λ (l : ℕ). l + 6) body-length

    pub from-written : (n : ℕ) (out : List ℕ) → length f - width_of k + 6 ≤ frame_most → length f - width_of k + 6 ≤ length out
        → written_with (body_of k f) (type_at f) n out ≡ overlay (tagged (body_of k f) n) out
    from-written n out few h =
        with-fits (body_of k f) (type_at f) out (type-place f) n (omega (arith, body-length)) (omega (arith, body-length)) (omega (arith, body-length))
        ∙ ap (λ (o : ℕ). overlay (tag_at (body_of k f) o n) out) (sym body-type)

module _ (k : Trailer) (f out : List ℕ) where
  pub from-refused : (n : ℕ) → from_of k f ≡ refused n → (refused n ≡ (from_prp k f out).said) × (out ≡ (from_prp k f out).bytes)
  unfolding from_prp
  from-refused n e = turn-refused out n e

  module _ (few : length f - width_of k + 6 ≤ frame_most) (room : type_at f + 2 + width_of k ≤ length f) (bare : is_tagged f ≡ false) (has : wears k f ≡ true) where
    pub from-small : length out < length f - width_of k + 6 → (refused ROOM ≡ (from_prp k f out).said) × (out ≡ (from_prp k f out).bytes)
    unfolding from_prp
    from-small h = turn_small out (from_turn k f) (from_is k f few room bare has) (omega (arith, from-length k f room (from_turn k f).number))

    pub from-done : {e o m n l : ℕ} {new : List ℕ} → e ≡ end_at k f → o ≡ type_at f → m ≡ network_of (lan_at f (end_at k f)) → n ≡ number_at f (end_at k f) → l ≡ e + 6
        → l ≤ length out → new ≡ written_with (take e f) o n out
        → (answers (record { network = m; number = n; length = l }) ≡ (from_prp k f out).said) × (new ≡ (from_prp k f out).bytes)
    unfolding from_prp body_of
    from-done pe po pm pn pl h w =
        let long = from-length k f room (from_turn k f).number in
        let fits : length f - width_of k + 6 ≤ length out = omega arith in
        let d = turn-done out (from_turn k f) (from_is k f few room bare has) (omega arith) refl in
        (rw (pm, pn, pl, pe, ← long) d.0, w ∙ rw (pe, po, pn) (from-written k f room (from_turn k f).number out few fits) ∙ d.1)

-- ---- to PRP

pub trailer-length : (k : Trailer) (n l s : ℕ) → length (trailer_bytes k n l s) ≡ width_of k
unfolding trailer_bytes width_of
trailer-length k n l s = omega arith

-- what is written over a front of the same length keeps what follows it
over-front : (g p x d : List ℕ) → length g ≡ length p → overlay g (overlay (p ++ x) d) ≡ overlay (g ++ x) d
unfolding overlay
over-front g p x d e =
    let r : drop (length g) ((p ++ x) ++ drop (length (p ++ x)) d) ≡ x ++ drop (length (p ++ x)) d = rw (append_assoc p x (drop (length (p ++ x)) d)) (drop_at p _ (length g) (sym e)) in
    let s : length (p ++ x) ≡ length (g ++ x) = simp length-append (omega arith) in
    rw (r, s) (sym (append_assoc g x (drop (length (g ++ x)) d)))

abbrev pub to_turn : Trailer → (network number : ℕ) → List ℕ → Turn
to_turn k w n f = record { network = w; number = n; frame = trailed k w n (untagged f) }

pub trailed-length : (k : Trailer) (w n : ℕ) (g : List ℕ) → length (trailed k w n g) ≡ length g + width_of k
unfolding trailed
trailed-length k w n g = simp length-append (ap (λ (l : ℕ). length g + l) (trailer-length k n (lan_of w) (after_type g + width_of k)))

module _ (k : Trailer) (w : ℕ) (f : List ℕ) where
  pub to-network : 1 < w → to_of k w f ≡ refused NETWORK
  unfolding to_of
  to-network h = simp (lt-ltb _ _ h)

  module _ (known : w ≤ 1) where
    pub to-refused : {r : Result Tag Refusal} {refusal : Refusal} → said_read r ≡ read_of f → r ≡ Err refusal → to_of k w f ≡ refused (number_of refusal)
    unfolding to_of to_as_read
    to-refused p q = rw (sym p ∙ ap said_read q) (simp (le-ltb _ _ known))

    module _ {t : Tag} (tag : read_of f ≡ answers t) where
      is : TagIs f t.header t.number
      is = tag_of f t tag

      pub bare-length : length (untagged f) ≡ length f - 6
      bare-length = let i = is in cut-length f (type_at f) (omega arith)

      pub to-short : length f - 6 < type_at (untagged f) + 2 → to_of k w f ≡ refused SHORT
      unfolding to_of to_as_read
      to-short s = rw tag (simp (le-ltb _ _ known, head-cut (untagged f) (omega (arith, bare-length))))

      module _ (room : type_at (untagged f) + 2 ≤ length f - 6) where
        pub to_is : to_of k w f ≡ answers (to_turn k w t.number f)
        unfolding to_of to_as_read
        to_is = rw tag (simp (le-ltb _ _ known, head-whole (untagged f) (omega (arith, bare-length))))

        pub to-length : length (trailed k w t.number (untagged f)) ≡ length f - 6 + width_of k
        to-length = trailed-length k w t.number (untagged f) ∙ ap (λ (l : ℕ). l + width_of k) bare-length

        -- the trailer is written behind the room for the bare frame, then the frame before it
        pub to-written : {o s b : ℕ} (out : List ℕ) {y z : List ℕ} → o ≡ t.header.at → b ≡ length f - 6 → s ≡ length f - 6 + width_of k - (type_at (untagged f) + 2) → length f - 6 + width_of k ≤ length out
            → y ≡ overlay (trailer_bytes k t.number (lan_of w) s) (mid_of b (length out - b) out) → z ≡ written_without f o (put_mid b (length out - b) out y)
            → z ≡ overlay (trailed k w t.number (untagged f)) out
        unfolding trailed after_type overlay
        to-written {o} {s} {b} out {y} {z} at len size fits g e =
            let i = is in
            let tr : List ℕ = trailer_bytes k t.number (lan_of w) (length (untagged f) - (type_at (untagged f) + 2) + width_of k) in
            let x : List ℕ = put_mid b (length out - b) out y in
            let p : length (take b out) ≡ b = length-take-le b out (omega arith) in
            let q : s ≡ length (untagged f) - (type_at (untagged f) + 2) + width_of k = omega (arith, bare-length) in
            let d : out ≡ overlay (take b out) out = sym (rw p (take-append-drop b out)) in
            let over : x ≡ overlay (take b out ++ tr) out = tail-over b (take b out) tr out p d (g ∙ ap (λ (m : ℕ). overlay (trailer_bytes k t.number (lan_of w) m) (mid_of b (length out - b) out)) q) in
            let l : length x ≡ length out = ap length over ∙ simp (length-append, length-drop) (omega (arith, p, trailer-length k t.number (lan_of w) (length (untagged f) - (type_at (untagged f) + 2) + width_of k))) in
            let u : written_without f (type_at f) x ≡ overlay (cut_at f (type_at f)) x = without-fits f (type_at f) x (type-place f) (omega arith) i.few (omega arith) in
            e ∙ ap (λ (m : ℕ). written_without f m x) (at ∙ i.at) ∙ u ∙ ap (overlay (untagged f)) over ∙ over-front (untagged f) (take b out) tr out (bare-length ∙ sym len ∙ sym p)

module _ (k : Trailer) (w : ℕ) (f out : List ℕ) where
  pub to-refuses : (n : ℕ) → to_of k w f ≡ refused n → (refused n ≡ (to_prp k w f out).said) × (out ≡ (to_prp k w f out).bytes)
  unfolding to_prp
  to-refuses n e = turn-refused out n e

  pub to-small : (t : Turn) → to_of k w f ≡ answers t → length out < length t.frame → (refused ROOM ≡ (to_prp k w f out).said) × (out ≡ (to_prp k w f out).bytes)
  unfolding to_prp
  to-small t e h = turn_small out t e h

  pub to-done : (t : Turn) {l : ℕ} {new : List ℕ} → to_of k w f ≡ answers t → l ≡ length t.frame → l ≤ length out → new ≡ overlay t.frame out
      → (answers (record { network = t.network; number = t.number; length = l }) ≡ (to_prp k w f out).said) × (new ≡ (to_prp k w f out).bytes)
  unfolding to_prp
  to-done t e p h q = rw p (turn-done out t e (omega arith) q)
