-- From PRP, and back: the same bytes, what the tag reader reads, and no frame under both settings. Assumes nothing.
use mathlib.Core.Path.{◌≡◌, refl, sym, ap, ap₂, ◌∙◌}
use Prim.Native.Nat.{ℕ, ◌+◌, ◌-◌, ◌*◌, ◌/◌, ◌%◌, ◌≤◌, ◌<◌}
use native.Mathlib.Omega.{arith}
use mathlib.Core.Bool.{Bool, true, false, cond, not, ◌&&◌}
use mathlib.Core.List.{List, [], ◌∷◌, ◌++◌}
use lib.ListN.{length, get_or, take, drop, length-drop, take-append-drop}
use lib.Seq.{get_or-drop, length-take-le, drop-drop}
use lib.Dec.{ltb, eqb}
use borrow.Author.Tests.{le-ltb, eq-eqb, ne_eqb, ltb-false, eqb-true, not-false}
use Rattle.refusal.specs.Checks.{Said}
use Rattle.refusal.specs.Checks.Said.{refused, answers}
use Rattle.refusal.specs.Numbers.{LONG, SHORT, TAGGED, TRAILER}
use Rattle.refusal.proofs.Checks.{passed, same-value}
use Rattle.record.specs.Sizes.{frame_most}
use Rattle.frame.specs.Bytes.{word, overlay, Bytes}
use Rattle.frame.specs.Frame.{dest_of, has_vlan, vlan_of, type_at, is_tagged, former_of, read_of, untagged, tagged, tag_bytes, rank_of, unranked}
use Rattle.frame.proofs.Bytes.{overlay-front}
use Rattle.frame.proofs.Heads.{type-least, head-whole, tag_of}
use Rattle.frame.proofs.Words.{word-take, word-drop, Place, plain, vlan, place}
use Rattle.frame.proofs.PutThenTake.{inside, untag-tag, read-tagged}
use Rattle.frame.proofs.Writes.{picks}
use Rattle.prp.specs.Prp.{Trailer, Turn, Told, first, of2012, width_of, trailer_bytes, end_at, number_at, lan_at, same, lan_of, network_of, after_type, wears, body_of, from_of, trailed, to_as_read, to_of, turn_into, from_prp, to_prp}
use Rattle.prp.specs.RoundTrips.{FromThenTo, FromThenToCalls, FromIsRead, NotBoth}
use Rattle.prp.proofs.Trailers.{WearsIs, wears-is, width-last}
use Rattle.prp.proofs.Turns.{from_turn, type-front, body-length, body-type}

-- ---- what an accepted PRP frame is

pub record FromIs (k : Trailer) (f : List ℕ) (t : Turn) : Type 0 where
  pub few : length f - width_of k + 6 ≤ frame_most
  pub room : type_at f + 2 + width_of k ≤ length f
  pub bare : is_tagged f ≡ false
  pub has : WearsIs k f
  pub same : t ≡ from_turn k f

pub from-of : (k : Trailer) (f : List ℕ) {t : Turn} → from_of k f ≡ answers t → FromIs k f t
unfolding from_of
from-of k f e =
    let a = passed (ltb frame_most (length f - width_of k + 6)) LONG (sym e) in
    let b = passed (ltb (length f) (type_at f + 2 + width_of k)) SHORT a.1 in
    let c = passed (is_tagged f) TAGGED b.1 in
    let d = passed (not (wears k f)) TRAILER c.1 in
    record { few = ltb-false _ _ a.0; room = ltb-false _ _ b.0; bare = c.0; has = wears-is k f (not-false _ d.0); same = same-value d.1 }

-- ---- its trailer is the trailer that its number, network and size make

pub same_bytes : (x y : List ℕ) → same x y ≡ true → x ≡ y
unfolding same
same_bytes [] [] e = refl
same_bytes [] (b ∷ y) e = absurd (let z : ◌≡◌ {A = ℕ} 0 1 = cc in omega arith)
same_bytes (a ∷ x) [] e = absurd (let z : ◌≡◌ {A = ℕ} 0 1 = cc in omega arith)
same_bytes (a ∷ x) (b ∷ y) e = go (eqb a b) refl e (same_bytes x y)
  where
    go : (t : Bool) → eqb a b ≡ t → t && same x y ≡ true → (same x y ≡ true → x ≡ y) → a ∷ x ≡ b ∷ y
    go true p q rest = ap₂ (λ (i : ℕ) (l : List ℕ). i ∷ l) (eqb-true _ _ p) (rest q)
    go false p q rest = absurd (let z : ◌≡◌ {A = ℕ} 0 1 = cc in omega arith)

pub bytes_same : (x : List ℕ) → same x x ≡ true
unfolding same
bytes_same [] = refl
bytes_same (a ∷ x) = simp (eq-eqb a a refl) (bytes_same x)

four : (l : List ℕ) → 4 ≤ length l → l ≡ get_or l 0 0 ∷ get_or l 1 0 ∷ get_or l 2 0 ∷ get_or l 3 0 ∷ drop 4 l
four [] h = absurd (omega arith)
four (a ∷ []) h = absurd (omega arith)
four (a ∷ b ∷ []) h = absurd (omega arith)
four (a ∷ b ∷ c ∷ []) h = absurd (omega arith)
four (a ∷ b ∷ c ∷ d ∷ l) h = refl

module _ (k : Trailer) (f : List ℕ) (b : Bytes f) (room : type_at f + 2 + width_of k ≤ length f) (h : WearsIs k f) where
  pub end-trailer : drop (end_at k f) f ≡ trailer_bytes k (number_at f (end_at k f)) (lan_of (network_of (lan_at f (end_at k f)))) (after_type f)
  unfolding trailer_bytes lan_of network_of
  end-trailer =
      let e : ℕ = end_at k f in
      let l : List ℕ = drop e f in
      let long : 4 ≤ length l = simp length-drop (omega (arith, room, width-last k)) in
      let small : (j : ℕ) → get_or l j 0 < 256 = λ j. rw get_or-drop (b (e + j)) in
      let w0 : word l 0 ≡ word f e = word-drop e f 0 ∙ ap (word f) (omega arith) in
      let w2 : word l 2 ≡ word f (e + 2) = word-drop e f 2 in
      let v : word f (e + 2) ≡ (10 + (word f (e + 2) / 4096 - 10)) * 4096 + after_type f = omega (arith, h.least, h.size) in
      let e0 : get_or l 0 0 ≡ word f e / 256 = omega (arith, small 0, small 1) in
      let e1 : get_or l 1 0 ≡ word f e % 256 = omega (arith, small 0, small 1) in
      let e2 : get_or l 2 0 ≡ word f (e + 2) / 256 = omega (arith, small 2, small 3) in
      let e3 : get_or l 3 0 ≡ word f (e + 2) % 256 = omega (arith, small 2, small 3) in
      let r : drop 4 l ≡ k.last = drop-drop 4 e f ∙ same_bytes _ _ h.last in
      four l long ∙ rw (e0, e1, e2, e3, r, ← v) refl

module _ (k : Trailer) (f : List ℕ) (t : Turn) (b : Bytes f) (read : from_of k f ≡ answers t) where
  is : FromIs k f t
  is = from-of k f read

  -- with it, the frame without its trailer is the frame
  body : List ℕ
  body = body_of k f

  number : ℕ
  number = number_at f (end_at k f)

  network : ℕ
  network = network_of (lan_at f (end_at k f))

  whole_again : trailed k network number body ≡ f
  unfolding body number network body_of trailed after_type
  whole_again =
      let i = is in
      let s : length (take (end_at k f) f) - (type_at (take (end_at k f) f) + 2) + width_of k ≡ length f - (type_at f + 2) =
      omega (arith, i.room, length-take-le (end_at k f) f (omega arith), type-front (end_at k f) f (omega (arith, i.room, type-least f))) in
      rw s (ap (λ (l : List ℕ). take (end_at k f) f ++ l) (sym (end-trailer k f b i.room i.has)) ∙ take-append-drop (end_at k f) f)

  -- the tagged frame is read, and turned back
  body-room : type_at body + 2 ≤ length body
  unfolding body
  body-room = let i = is in omega (arith, i.room, body-length k f i.room, body-type k f i.room)

  network-small : network ≤ 1
  unfolding network network_of
  network-small = let h = is.has in omega (arith, h.most)

  read-of : read_of (tagged body number)
      ≡ answers (record { header = record { dest = dest_of body; vlan = vlan_of body; at = type_at body; tagged = true; rank = rank_of body }; number = number })
  unfolding body number
  read-of =
      let i = is in
      read-tagged body number body-room (omega (arith, i.few, body-length k f i.room)) (omega (arith, b (end_at k f), b (end_at k f + 1)))

  bare_of : untagged (tagged body number) ≡ body
  bare_of = untag-tag body number body-room

  back-again : to_of k network (tagged body number) ≡ answers (record { network = network; number = number; frame = f })
  unfolding to_of to_as_read
  back-again = rw (read-of, bare_of, whole_again) (simp (le-ltb _ _ network-small, head-whole body body-room))

  -- what is read of it is read of the PRP frame
  same_key : (dest_of body ≡ dest_of f) × (vlan_of body ≡ vlan_of f) × (type_at body ≡ type_at f)
  unfolding body body_of vlan_of has_vlan
  same_key =
      let i = is in
      let e : ℕ = end_at k f in
      let t = type-least f in
      let long : 14 ≤ e = omega (arith, i.room) in
      let v : cond (eqb (word (take e f) 12) 0x8100) (word (take e f) 14 % 4096) 0 ≡ cond (eqb (word f 12) 0x8100) (word f 14 % 4096) 0 = rw (word-take e f 12 (omega arith)) (go (place f) i.room) in
      (rw (word-take e f 0 (omega arith), word-take e f 2 (omega arith), word-take e f 4 (omega arith)) refl, v, type-front e f long)
    where
      go : Place f → type_at f + 2 + width_of k ≤ length f → cond (eqb (word f 12) 0x8100) (word (take (end_at k f) f) 14 % 4096) 0 ≡ cond (eqb (word f 12) 0x8100) (word f 14 % 4096) 0
      go (plain h t v) r = rw (ne_eqb _ _ h) refl
      go (vlan h t v) r = ap (λ (w : ℕ). cond (eqb (word f 12) 0x8100) (w % 4096) 0) (word-take (end_at k f) f 14 (omega arith))

  same_rank : rank_of body ≡ rank_of f
  unfolding body body_of rank_of has_vlan
  same_rank =
      let i = is in
      let t = type-least f in
      rw (word-take (end_at k f) f 12 (omega (arith, i.room, t))) (go (place f) i.room)
    where
      go : Place f → type_at f + 2 + width_of k ≤ length f → cond (eqb (word f 12) 0x8100) (record { priority = word (take (end_at k f) f) 14 / 8192; vlantag = 1 }) unranked ≡ cond (eqb (word f 12) 0x8100) (record { priority = word f 14 / 8192; vlantag = 1 }) unranked
      go (plain h t v) r = rw (ne_eqb _ _ h) refl
      go (vlan h t v) r = ap (λ (w : ℕ). cond (eqb (word f 12) 0x8100) (record { priority = w / 8192; vlantag = 1 }) unranked) (word-take (end_at k f) f 14 (omega arith))

  same-type : former_of (tagged body number) ≡ word f (type_at f)
  unfolding body body_of
  same-type =
      let i = is in
      let at : type_at body ≡ type_at (tagged body number) = (tag_of (tagged body number) _ read-of).at in
      let a : word (tagged body number) (type_at body + 6) ≡ word (tag_bytes number ++ drop (type_at body) body) 6 = inside body number body-room (type_at body + 6) 6 refl in
      let d : word (drop (type_at body) body) 0 ≡ word body (type_at body) = word-drop (type_at body) body 0 ∙ ap (word body) (omega arith) in
      ap (λ (o : ℕ). word (tagged body number) (o + 6)) (sym at) ∙ a ∙ d ∙ ap (word body) same_key.2 ∙ word-take (end_at k f) f (type_at f) (omega (arith, i.room))

pub from-then-to : FromThenTo
unfolding body number network
from-then-to k f t b read = rw (from-of k f read).same (back-again k f t b read)

pub from-is-read : FromIsRead
unfolding body number network lan_of network_of
from-is-read k f t b read =
    let i = from-of k f read in
    let key = same_key k f t b read in
    rw i.same (record {
      network = (network-small k f t b read, omega (arith, i.has.least));
      number = refl;
      read = read-of k f t b read ∙ rw (key.0, key.1, key.2, same_rank k f t b read) refl;
      type = same-type k f t b read;
      bare = bare_of k f t b read;
    })

-- ---- the two calls

-- a call that answered wrote a frame of that length
turned : (out : List ℕ) (x : Said Turn) {a : Told} → (turn_into out x).said ≡ answers a
    → (t : Turn) × (x ≡ answers t) × (a ≡ record { network = t.network; number = t.number; length = length t.frame }) × ((turn_into out x).bytes ≡ overlay t.frame out)
unfolding turn_into
turned out (refused n) e = absurd (let z : ◌≡◌ {A = ℕ} 0 1 = cc in omega arith)
turned out (answers t) {a} e = go (ltb (length out) (length t.frame)) e
  where
    says : Told
    says = record { network = t.network; number = t.number; length = length t.frame }

    go : (s : Bool) → (picks s says out (overlay t.frame out)).said ≡ answers a
        → (u : Turn) × (answers t ≡ answers u) × (a ≡ record { network = u.network; number = u.number; length = length u.frame }) × ((picks s says out (overlay t.frame out)).bytes ≡ overlay u.frame out)
    go true w = absurd (let z : ◌≡◌ {A = ℕ} 0 1 = cc in omega arith)
    go false w = (t, refl, sym (same-value w), refl)

-- the frame is turned back into a buffer that has room
turned-back : (k : Trailer) (f back : List ℕ) (t : Turn) → Bytes f → from_of k f ≡ answers t → length f ≤ length back
    → to_prp k t.network t.frame back ≡ record { said = answers (record { network = t.network; number = t.number; length = length f }); bytes = overlay f back }
unfolding to_prp turn_into
turned-back k f back t b e h = rw (from-then-to k f t b e) (simp (le-ltb _ _ h))

pub from-then-to-calls : FromThenToCalls
unfolding from_prp
from-then-to-calls k f out back a b e h =
    let w = turned out (from_of k f) e in
    let t : Turn = w.0 in
    let c : take a.length (turn_into out (from_of k f)).bytes ≡ t.frame =
    ap (take a.length) w.3 ∙ overlay-front t.frame out (ap (λ x. x.length) w.2) in
    let m : a.network ≡ t.network = ap (λ x. x.network) w.2 in
    let n : a.number ≡ t.number = ap (λ x. x.number) w.2 in
    ap₂ (λ (v : ℕ) (x : List ℕ). to_prp k v x back) m c
    ∙ turned-back k f back t b w.1 h
    ∙ ap₂ (λ (v m : ℕ). record { said = answers (record { network = v; number = m; length = length f }); bytes = overlay f back }) (sym m) (sym n)

-- ---- no frame is accepted under both settings: 88FB read as LAN and size has LAN 8

pub not-both : NotBoth
unfolding width_of
not-both f t u p q =
    let i = from-of first f p in
    let j = from-of of2012 f q in
    let l : drop (length f - 6 + 4) f ≡ 0x88 ∷ 0xFB ∷ [] = same_bytes _ _ j.has.last in
    let w : word f (length f - 6 + 4) ≡ 0x88FB = ap (word f) (omega arith) ∙ sym (word-drop (length f - 6 + 4) f 0) ∙ ap (λ (x : List ℕ). word x 0) l in
    let s : word f (length f - 4 + 2) ≡ word f (length f - 6 + 4) = ap (word f) (omega (arith, j.room)) in
    omega (arith, i.has.least)
