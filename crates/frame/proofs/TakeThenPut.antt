-- Taking a tag out and putting the same number in, as document 01 and order 1 have it. Assumes nothing.
use mathlib.Core.Path.{◌≡◌, refl, sym, ap, ◌∙◌}
use Prim.Native.Nat.{ℕ, ◌+◌, ◌-◌, ◌/◌, ◌%◌, ◌≤◌, ◌<◌}
use native.Mathlib.Omega.{arith}
use mathlib.Core.Bool.{true, false}
use mathlib.Core.List.{List, [], ◌∷◌, ◌++◌, append_assoc}
use lib.ListN.{length, get_or, take, drop, length-append, length-drop, take-append-drop}
use lib.Seq.{get_or-drop, length-take-le, take_at, drop_at, drop-drop}
use lib.Dec.{eqb}
use borrow.Author.Tests.{eq-eqb, ne_eqb, eqb-true, eqb-false}
use Rattle.refusal.specs.Checks.Said.{refused, answers}
use Rattle.refusal.specs.Numbers.{SHORT, TAGGED, GROUP}
use Rattle.record.specs.Sizes.{untagged_most}
use Rattle.frame.specs.Bytes.{word, Bytes}
use Rattle.frame.specs.Frame.{Tag, type_at, group_source, has_vlan, vlan_of, is_tagged, head_short, tag_short, header_of, read_of, tag_bytes, cut_at, tag_at, untagged, tagged, reserved_of, former_of, place_of, put_at, write_of}
use Rattle.frame.specs.RoundTrips.{TakeThenPut, FormerTag, FormerVlan, FormerVlanNeeds, FormerVlanTag, FormerVlanShort}
use Rattle.frame.proofs.Heads.{type-least, type-vlan, type-plain, head-cut, TagIs, tag_of}
use Rattle.frame.proofs.Writes.{place_short, place-tagged, place-whole, no_place, at_place, wrote-is}
use Rattle.frame.proofs.Words.{word-front, word_at, word-take, word-drop, same_source, Place, plain, vlan, place, six}
use Rattle.frame.proofs.PutThenTake.{front, inside}

-- the words of a frame whose tag was taken out
module _ (f : List ℕ) (o : ℕ) (room : o + 6 ≤ length f) where
  cut-head : length (take o f) ≡ o
  cut-head = length-take-le o f (omega arith)

  pub cut-length : length (cut_at f o) ≡ length f - 6
  unfolding cut_at
  cut-length = simp (length-append, length-drop) (omega (arith, cut-head))

  pub cut-front : (i : ℕ) → i + 2 ≤ o → word (cut_at f o) i ≡ word f i
  unfolding cut_at
  cut-front i h = word-front (take o f) _ i (omega (arith, cut-head)) ∙ word-take o f i h

  pub cut-behind : (i j : ℕ) → o + j ≡ i → word (cut_at f o) i ≡ word f (o + 6 + j)
  unfolding cut_at
  cut-behind i j h = word_at (take o f) _ i j (omega (arith, cut-head)) ∙ word-drop (o + 6) f j

  -- the same six bytes put in again
  tag-cut : (n : ℕ) → take 6 (drop o f) ≡ tag_bytes n → tag_at (cut_at f o) o n ≡ f
  unfolding cut_at tag_at
  tag-cut n e =
      let d : tag_bytes n ++ drop (o + 6) f ≡ drop o f =
      ap (λ (l : List ℕ). l ++ drop (o + 6) f) (sym e) ∙ ap (λ (l : List ℕ). take 6 (drop o f) ++ l) (sym (drop-drop 6 o f)) ∙ take-append-drop 6 (drop o f) in
      rw (take_at (take o f) (drop (o + 6) f) o cut-head, drop_at (take o f) (drop (o + 6) f) o cut-head)
      (append_assoc (take o f) (tag_bytes n) (drop (o + 6) f) ∙ ap (λ (l : List ℕ). take o f ++ l) d ∙ take-append-drop o f)

-- a frame that the reader takes, with its tag taken out
module _ (f : List ℕ) (t : Tag) (read : read_of f ≡ answers t) where
  is : TagIs f t.header t.number
  is = tag_of f t read

  room : type_at f + 6 ≤ length f
  room = let k = is in omega arith

  few : length (untagged f) ≤ untagged_most
  few = let k = is in omega (arith, cut-length f (type_at f) room)

  long : type_at f + 2 ≤ length (untagged f)
  long = let k = is in omega (arith, cut-length f (type_at f) room)

  -- the former type stands where the tag stood
  former-at : word (untagged f) (type_at f) ≡ former_of f
  former-at = cut-behind f (type_at f) room (type_at f) 0 (omega arith) ∙ ap (word f) (omega arith)

  -- and the source is the same
  source : group_source (untagged f) ≡ group_source f
  unfolding cut_at
  source = same_source (type_at f) f _ (type-least f).0 (omega (arith, room))

  -- the type field stays where it was, unless 8100 comes to stand at 12
  pub kept : (has_vlan f ≡ false → former_of f ≡ 0x8100 → ⊥) → type_at (untagged f) ≡ type_at f
  kept h = go (place f)
    where
      go : Place f → type_at (untagged f) ≡ type_at f
      go (plain p q v) = type-plain (untagged f) (λ e. h v (sym former-at ∙ ap (word (untagged f)) q ∙ e)) ∙ sym q
      go (vlan p q v) = type-vlan (untagged f) (cut-front f (type_at f) room 12 (omega arith) ∙ p) ∙ sym q

  -- otherwise it is four bytes later
  moved : has_vlan f ≡ false → former_of f ≡ 0x8100 → (type_at f ≡ 12) × (type_at (untagged f) ≡ 16)
  moved v e = go (place f)
    where
      go : Place f → (type_at f ≡ 12) × (type_at (untagged f) ≡ 16)
      go (plain p q w) = (q, type-vlan (untagged f) (ap (word (untagged f)) (sym q) ∙ former-at ∙ e))
      go (vlan p q w) = absurd (let z : true ≡ false = sym w ∙ v in let y : ◌≡◌ {A = ℕ} 0 1 = cc in omega arith)

  -- whether it then carries a tag
  pub tag-then : type_at (untagged f) ≡ type_at f → is_tagged (untagged f) ≡ eqb (former_of f) 0xF1C1
  unfolding is_tagged
  tag-then e = rw e (ap (λ (k : ℕ). eqb k 0xF1C1) former-at)

  -- with F1C1 the writer refuses
  put-carries : former_of f ≡ 0xF1C1 → write_of (untagged f) t.number ≡ refused TAGGED
  put-carries e =
      let k = kept (λ _ x. let z : ◌≡◌ {A = ℕ} 0xF1C1 0x8100 = sym e ∙ x in omega arith) in
      no_place (untagged f) _ (place-tagged (untagged f) few (rw k long) (tag-then k ∙ eq-eqb _ _ e))

  -- with 8100 and no VLAN tag: a frame of fewer than 24 bytes is refused as short, in a longer one the tag comes four bytes later
  put-cut : has_vlan f ≡ false → former_of f ≡ 0x8100 → length f < 24 → write_of (untagged f) t.number ≡ refused SHORT
  put-cut v e s =
      let m = moved v e in
      no_place (untagged f) _ (place_short (untagged f) few (head-cut (untagged f) (omega (arith, cut-length f (type_at f) room))))

  module _ (v : has_vlan f ≡ false) (e : former_of f ≡ 0x8100) (s : 24 ≤ length f) where
    later : is_tagged (untagged f) ≡ eqb (word f 22) 0xF1C1
    unfolding is_tagged
    later = let m = moved v e in rw m.1 (ap (λ (k : ℕ). eqb k 0xF1C1) (cut-behind f (type_at f) room 16 4 (omega arith) ∙ ap (word f) (omega arith)))

    put-later-carries : word f 22 ≡ 0xF1C1 → write_of (untagged f) t.number ≡ refused TAGGED
    put-later-carries h = let m = moved v e in no_place (untagged f) _ (place-tagged (untagged f) few (omega (arith, cut-length f (type_at f) room)) (later ∙ eq-eqb _ _ h))

    put-later : group_source f ≡ false → (word f 22 ≡ 0xF1C1 → ⊥) → write_of (untagged f) t.number ≡ answers (tag_at (untagged f) 16 t.number)
    put-later g h =
        let m = moved v e in
        at_place (untagged f) _ (place-whole (untagged f) few (omega (arith, cut-length f (type_at f) room)) (later ∙ ne_eqb _ _ h) (source ∙ g)) ∙ ap (λ (o : ℕ). answers (tag_at (untagged f) o t.number)) m.1

  -- the tag's six bytes, where its reserved bytes are zero
  tag-bytes : Bytes f → reserved_of f ≡ 0 → take 6 (drop (type_at f) f) ≡ tag_bytes t.number
  unfolding is_tagged
  tag-bytes b z =
      let o : ℕ = type_at f in
      let n : ℕ = t.number in
      let l : List ℕ = drop o f in
      let k = is in
      let w0 : word l 0 ≡ 0xF1C1 = word-drop o f 0 ∙ ap (word f) (omega arith) ∙ eqb-true _ _ k.tagged in
      let w2 : word l 2 ≡ 0 = word-drop o f 2 ∙ z in
      let w4 : word l 4 ≡ n = word-drop o f 4 ∙ sym k.number in
      let small : (i : ℕ) → get_or l i 0 < 256 = λ i. rw get_or-drop (b (o + i)) in
      let e0 : get_or l 0 0 ≡ 0xF1 = omega (arith, small 0, small 1) in
      let e1 : get_or l 1 0 ≡ 0xC1 = omega (arith, small 0, small 1) in
      let e2 : get_or l 2 0 ≡ 0 = omega arith in
      let e3 : get_or l 3 0 ≡ 0 = omega arith in
      let e4 : get_or l 4 0 ≡ n / 256 = omega (arith, small 4, small 5) in
      let e5 : get_or l 5 0 ≡ n % 256 = omega (arith, small 4, small 5) in
      six l (simp length-drop (omega (arith, room))) ∙ rw (e0, e1, e2, e3, e4, e5)

  -- the same number put in again gives the same frame with zero reserved bytes and, with no VLAN tag, a former type other than
  -- 8100,
  pub again : Bytes f → reserved_of f ≡ 0 → (has_vlan f ≡ false → former_of f ≡ 0x8100 → ⊥) → tagged (untagged f) t.number ≡ f
  again b z x = ap (λ (o : ℕ). tag_at (untagged f) o t.number) (kept x) ∙ tag-cut f (type_at f) room t.number (tag-bytes b z)

  -- and only then
  pub again-only : type_at (untagged f) + 2 ≤ length (untagged f) → tagged (untagged f) t.number ≡ f
      → (reserved_of f ≡ 0) × (has_vlan f ≡ false → former_of f ≡ 0x8100 → ⊥)
  unfolding is_tagged
  again-only whole e =
      let u : List ℕ = untagged f in
      let n : ℕ = t.number in
      let h : has_vlan f ≡ false → former_of f ≡ 0x8100 → ⊥ = λ v x.
      (let p = moved v x in
      let a : word f 12 ≡ word u 12 = ap (λ (l : List ℕ). word l 12) (sym e) ∙ front u n whole 12 (omega arith) in
      let d : word u 12 ≡ 0x8100 = ap (word u) (sym p.0) ∙ former-at ∙ x in
      let g : word f 12 ≡ 0xF1C1 = ap (word f) (sym p.0) ∙ eqb-true _ _ is.tagged in
      omega arith) in
      let k = kept h in
      (ap (λ (l : List ℕ). word l (type_at f + 2)) (sym e) ∙ inside u n whole (type_at f + 2) 2 (omega arith), h)

  -- so with no group source and a former type that is not F1C1 the writer gives it
  put_same : Bytes f → group_source f ≡ false → reserved_of f ≡ 0 → (former_of f ≡ 0xF1C1 → ⊥) → (has_vlan f ≡ false → former_of f ≡ 0x8100 → ⊥) → write_of (untagged f) t.number ≡ answers f
  put_same b g z u x =
      let k = kept x in
      at_place (untagged f) _ (place-whole (untagged f) few (rw k long) (tag-then k ∙ ne_eqb _ _ u) (source ∙ g)) ∙ ap answers (again b z x)

  put-same-only : write_of (untagged f) t.number ≡ answers f
      → (group_source f ≡ false) × (reserved_of f ≡ 0) × (former_of f ≡ 0xF1C1 → ⊥) × (has_vlan f ≡ false → former_of f ≡ 0x8100 → ⊥)
  unfolding is_tagged
  put-same-only e =
      let u : List ℕ = untagged f in
      let m = wrote-is u t.number e in
      let w = again-only m.room (sym m.same) in
      (sym source ∙ m.remains, w.0, (λ x. eqb-false _ _ m.plain (ap (word u) (kept w.1) ∙ former-at ∙ x)), w.1)

-- the statements
pub take-then-put : TakeThenPut
take-then-put f t b read = (put-same-only f t read, λ p. put_same f t read b p.0 p.1 p.2 p.3)

pub former-tag : FormerTag
former-tag = put-carries

pub former-vlan : FormerVlan
former-vlan f g t read v e s n = put-later f t read v e s g n

-- a frame with a group source whose former type is 8100: the writer gives 14
abbrev reflected : List ℕ
reflected =
    0x02 ∷ 0 ∷ 0 ∷ 0 ∷ 0 ∷ 0x01
    ∷ 0x01 ∷ 0 ∷ 0 ∷ 0 ∷ 0 ∷ 0x02
    ∷ 0xF1 ∷ 0xC1 ∷ 0 ∷ 0 ∷ 0 ∷ 0x07
    ∷ 0x81 ∷ 0 ∷ 0 ∷ 0 ∷ 0x08 ∷ 0 ∷ []

pub former-vlan-needs : FormerVlanNeeds
unfolding read_of header_of head_short tag_short type_at has_vlan vlan_of is_tagged group_source cut_at place_of put_at write_of
former-vlan-needs all =
    let w : refused GROUP ≡ answers _ = all reflected (record { header = header_of reflected; number = 7 }) refl refl refl (omega arith) (λ e. omega (arith, e)) in
    let z : ◌≡◌ {A = ℕ} 0 1 = cc in
    omega arith

pub former-vlan-tag : FormerVlanTag
former-vlan-tag f t read v e s n = put-later-carries f t read v e s n

pub former-vlan-short : FormerVlanShort
former-vlan-short = put-cut
