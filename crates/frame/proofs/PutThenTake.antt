-- Putting a tag in and taking it out gives the frame and the number back, and no frame with a group source gets one.
-- Assumes nothing.
use mathlib.Core.Path.{◌≡◌, refl, sym, ap, ◌∙◌}
use Prim.Native.Nat.{ℕ, ◌+◌, ◌-◌, ◌*◌, ◌/◌, ◌%◌, ◌≤◌, ◌<◌}
use native.Mathlib.Omega.{arith}
use mathlib.Core.Bool.{Bool, true, false, cond}
use mathlib.Core.List.{List, ◌++◌, append_assoc}
use lib.ListN.{length, take, drop, length-append, take-append-drop}
use lib.Seq.{length-take-le, take_at, drop_at}
use lib.Dec.{ltb, eqb}
use borrow.Author.Tests.{le-ltb, eq-eqb, ne_eqb}
use Rattle.refusal.specs.Checks.{Said}
use Rattle.refusal.specs.Checks.Said.{refused, answers}
use Rattle.refusal.specs.Numbers.{ROOM}
use Rattle.record.specs.Sizes.{untagged_most}
use Rattle.frame.specs.Bytes.{word, overlay}
use Rattle.frame.specs.Frame.{type_at, group_source, has_vlan, is_tagged, header_of, rank_of, unranked, dest_of, vlan_of, read_of, tag_bytes, cut_at, tag_at, untagged, tagged, write_of}
use Rattle.frame.specs.TagCalls.{Outcome, write_into, write_tag, take_from, take_tag}
use Rattle.frame.specs.RoundTrips.{PutThenTake, NoGroupWritten, WriteThenTake}
use Rattle.frame.proofs.Bytes.{overlay-front}
use Rattle.frame.proofs.Heads.{type-vlan, type-plain, type-least, read_is}
use Rattle.frame.proofs.Writes.{tag-length, wrote-is}
use Rattle.frame.proofs.Words.{word-front, word_at, word-take, same_source, Place, plain, vlan, place}

-- ---- put, then take

cut-tag : (f : List ℕ) (o n : ℕ) → o ≤ length f → cut_at (tag_at f o n) o ≡ f
unfolding cut_at tag_at
cut-tag f o n h =
    let p : length (take o f) ≡ o = length-take-le o f h in
    let q : length (take o f ++ tag_bytes n) ≡ o + 6 = simp length-append (omega arith) in
    let a : take o (take o f ++ tag_bytes n ++ drop o f) ≡ take o f = rw (append_assoc (take o f) (tag_bytes n) (drop o f)) (take_at (take o f) _ o p) in
    let b : drop (o + 6) (take o f ++ tag_bytes n ++ drop o f) ≡ drop o f = drop_at (take o f ++ tag_bytes n) (drop o f) (o + 6) q in
    rw (a, b) (take-append-drop o f)

module _ (f : List ℕ) (n : ℕ) (room : type_at f + 2 ≤ length f) where
  head-length : length (take (type_at f) f) ≡ type_at f
  head-length = length-take-le (type_at f) f (omega arith)

  -- the words before the tag, and those of the tag
  pub front : (i : ℕ) → i + 2 ≤ type_at f → word (tagged f n) i ≡ word f i
  unfolding tag_at
  front i h =
      rw (append_assoc (take (type_at f) f) (tag_bytes n) (drop (type_at f) f))
      (word-front (take (type_at f) f) _ i (omega (arith, head-length)) ∙ word-take (type_at f) f i h)

  pub inside : (i j : ℕ) → type_at f + j ≡ i → word (tagged f n) i ≡ word (tag_bytes n ++ drop (type_at f) f) j
  unfolding tag_at
  inside i j h =
      rw (append_assoc (take (type_at f) f) (tag_bytes n) (drop (type_at f) f))
      (word_at (take (type_at f) f) _ i j (omega (arith, head-length)))

  -- the tag stands at the frame's own type field, and the key is the frame's
  same_place : (type_at (tagged f n) ≡ type_at f) × (has_vlan (tagged f n) ≡ has_vlan f)
  unfolding has_vlan
  same_place = go (place f)
    where
      go : Place f → (type_at (tagged f n) ≡ type_at f) × (eqb (word (tagged f n) 12) 0x8100 ≡ eqb (word f 12) 0x8100)
      go (plain h t v) =
          let w : word (tagged f n) 12 ≡ 0xF1C1 = inside 12 0 (omega arith) in
          let ne : word (tagged f n) 12 ≡ 0x8100 → ⊥ = omega arith in
          (type-plain (tagged f n) ne ∙ sym t, ne_eqb _ _ ne ∙ sym v)
      go (vlan h t v) =
          let w : word (tagged f n) 12 ≡ word f 12 = front 12 (omega arith) in
          (type-vlan (tagged f n) (w ∙ h) ∙ sym t, ap (λ (k : ℕ). eqb k 0x8100) w)

  same-dest : dest_of (tagged f n) ≡ dest_of f
  same-dest =
      let t = type-least f in
      rw (front 0 (omega arith), front 2 (omega arith), front 4 (omega arith))

  same-vlan : vlan_of (tagged f n) ≡ vlan_of f
  unfolding vlan_of
  same-vlan = rw same_place.1 (go (place f))
    where
      go : Place f → cond (has_vlan f) (word (tagged f n) 14 % 4096) 0 ≡ cond (has_vlan f) (word f 14 % 4096) 0
      go (plain h t v) = rw v
      go (vlan h t v) = rw (front 14 (omega arith))

  same_rank : rank_of (tagged f n) ≡ rank_of f
  unfolding rank_of
  same_rank = rw same_place.1 (go (place f))
    where
      go : Place f → cond (has_vlan f) (record { priority = word (tagged f n) 14 / 8192; vlantag = 1 }) unranked ≡ cond (has_vlan f) (record { priority = word f 14 / 8192; vlantag = 1 }) unranked
      go (plain h t v) = rw v
      go (vlan h t v) = rw (front 14 (omega arith))

  is-tagged : is_tagged (tagged f n) ≡ true
  unfolding is_tagged
  is-tagged = rw same_place.0 (eq-eqb _ _ (inside (type_at f) 0 (omega arith)))

  the_number : n < 65536 → word (tagged f n) (type_at f + 4) ≡ n
  the_number h = let w : word (tagged f n) (type_at f + 4) ≡ n / 256 * 256 + n % 256 = inside (type_at f + 4) 4 refl in omega arith

  -- without its tag it is the frame
  pub untag-tag : untagged (tagged f n) ≡ f
  untag-tag = ap (cut_at (tagged f n)) same_place.0 ∙ cut-tag f (type_at f) n (omega arith)

  -- and it is read: the frame's key and the number
  pub read-tagged : length f ≤ untagged_most → n < 65536
      → read_of (tagged f n) ≡ answers (record { header = record { dest = dest_of f; vlan = vlan_of f; at = type_at f; tagged = true; rank = rank_of f }; number = n })
  unfolding header_of
  read-tagged few small =
      let long = tag-length f (type_at f) n (omega arith) in
      let p = same_place.0 in
      read_is (tagged f n) (omega arith) (omega arith) is-tagged ∙ rw (same-dest, same-vlan, same_rank, is-tagged, p, the_number small)

-- what the writer makes, the reader reads, and without its tag it is the frame
pub put-then-take : PutThenTake
put-then-take f n g small e =
    let m = wrote-is f n e in
    rw m.same (read-tagged f n m.room m.few small, untag-tag f n m.room)

pub no-group-written : NoGroupWritten
unfolding tag_at
no-group-written f n g e =
    let m = wrote-is f n e in
    let o : ℕ = type_at f in
    let b : group_source (tagged f n) ≡ group_source f = ap group_source (append_assoc (take o f) (tag_bytes n) (drop o f)) ∙ same_source o f _ (type-least f).0 (omega (arith, m.room)) in
    (m.remains, ap group_source m.same ∙ b ∙ m.remains)

-- ---- the two calls

-- a write that answered a length wrote a frame of that length
wrote : (out : List ℕ) (x : Said (List ℕ)) {m : ℕ} → (write_into out x).said ≡ answers m
    → (g : List ℕ) × (x ≡ answers g) × (m ≡ length g) × ((write_into out x).bytes ≡ overlay g out)
unfolding write_into
wrote out (refused k) e = absurd (let z : ◌≡◌ {A = ℕ} 0 1 = cc in omega arith)
wrote out (answers g) {m} e = go (ltb (length out) (length g)) e
  where
    full : Outcome ℕ
    full = record { said = refused ROOM; bytes = out }

    room : Outcome ℕ
    room = record { said = answers (length g); bytes = overlay g out }

    go : (b : Bool) → (cond b full room).said ≡ answers m → (g' : List ℕ) × (answers g ≡ answers g') × (m ≡ length g') × ((cond b full room).bytes ≡ overlay g' out)
    go true w = absurd (let z : ◌≡◌ {A = ℕ} 0 1 = cc in omega arith)
    go false w = (g, refl, cc, refl)

-- what the one wrote, cut to the length that it answers, the other takes apart
pub write-then-take : WriteThenTake
unfolding write_tag take_tag take_from overlay
write-then-take f n out back m small e h =
    let w = wrote out (write_of f n) e in
    let g : List ℕ = w.0 in
    let r = put-then-take f n g small w.1 in
    let k = wrote-is f n w.1 in
    let l : length g ≡ length f + 6 = ap length k.same ∙ tag-length f (type_at f) n (omega (arith, k.room)) in
    let c : take m (write_into out (write_of f n)).bytes ≡ g = rw w.3 (overlay-front g out w.2) in
    let s : length g - 6 ≡ length f = omega arith in
    rw (c, r.0, r.1, s) (simp (le-ltb _ _ h))
