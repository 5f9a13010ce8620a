-- What the readers' definitions come to, by the tests that a reader makes, and what their answers tell.
-- Assumes nothing.
use mathlib.Core.Path.{◌≡◌, refl, sym, ap, ap₂, ◌∙◌}
use Prim.Native.Nat.{ℕ, ◌+◌, ◌%◌, ◌≤◌, ◌<◌, ◌/◌}
use native.Mathlib.Omega.{arith}
use mathlib.Core.Bool.{Bool, true, false, cond, not, ◌&&◌, ◌||◌}
use mathlib.Core.List.{List}
use lib.ListN.{length}
use lib.Dec.{ltb, eqb}
use borrow.Author.Tests.{lt-ltb, le-ltb, eq-eqb, ne_eqb, ltb-true, ltb-false, not-false}
use Rattle.refusal.specs.Checks.Said.{refused, answers}
use Rattle.refusal.specs.Numbers.{LONG, SHORT, UNTAGGED}
use Rattle.refusal.proofs.Checks.{passed, same-value}
use Rattle.record.specs.Sizes.{frame_most}
use Rattle.frame.specs.Bytes.{word}
use Rattle.frame.specs.Frame.{Tag, type_at, has_vlan, is_tagged, head_short, tag_short, header_of, rank_of, unranked, head_of, dest_of, vlan_of, number_in, read_of}
use Rattle.frame.specs.TagCalls.{said_head, said_read}
use Rattle.frame.specs.declared.Header.{Header}
use Rattle.std.specs.Prelude.{Option, None, Some, Result, Ok}
use Rattle.refusal.specs.declared.Refusal.{Refusal}

-- ---- the type field

pub type-vlan : (f : List ℕ) → word f 12 ≡ 0x8100 → type_at f ≡ 16
unfolding type_at has_vlan
type-vlan f e = simp (eq-eqb _ _ e)

pub type-plain : (f : List ℕ) → (word f 12 ≡ 0x8100 → ⊥) → type_at f ≡ 12
unfolding type_at has_vlan
type-plain f n = simp (ne_eqb _ _ n)

-- it is at 12 or at 16
pub type-least : (f : List ℕ) → (12 ≤ type_at f) × (type_at f ≤ 16)
unfolding type_at
type-least f = go (has_vlan f)
  where
    go : (b : Bool) → (12 ≤ cond b 16 12) × (cond b 16 12 ≤ 16)
    go true = omega arith
    go false = omega arith

-- the 14 and 18 byte rules ask for a whole type field
pub head-short : (f : List ℕ) → head_short f ≡ ltb (length f) (type_at f + 2)
unfolding head_short type_at
head-short f = go (has_vlan f) (ltb (length f) 14) refl
  where
    go : (v b : Bool) → ltb (length f) 14 ≡ b → b || (v && ltb (length f) 18) ≡ ltb (length f) (cond v 16 12 + 2)
    go true true e = let h : length f < 18 = omega (arith, ltb-true (length f) 14 e) in sym (lt-ltb (length f) 18 h)
    go true false e = refl
    go false true e = sym e
    go false false e = sym e

pub head-cut : (f : List ℕ) → length f < type_at f + 2 → head_short f ≡ true
head-cut f h = head-short f ∙ lt-ltb _ _ h

pub head-whole : (f : List ℕ) → type_at f + 2 ≤ length f → head_short f ≡ false
head-whole f h = head-short f ∙ le-ltb _ _ h

pub head-room : (f : List ℕ) → head_short f ≡ false → type_at f + 2 ≤ length f
head-room f e = ltb-false _ _ (sym (head-short f) ∙ e)

-- ---- what `head_of` is, by a reader's tests

head-refused : (f : List ℕ) → length f < type_at f + 2 → refused SHORT ≡ head_of f
unfolding head_of
head-refused f h = simp (head-cut f h)

pub head-none : (f : List ℕ) → length f < 14 → refused SHORT ≡ head_of f
head-none f h = head-refused f (omega (arith, type-least f))

-- a VLAN tag in a frame that ends before its type field does
pub head-vlan-cut : (f : List ℕ) {t : ℕ} → length f < 18 → t ≡ word f 12 → t ≡ 0x8100 → refused SHORT ≡ head_of f
head-vlan-cut f h q e = head-refused f (omega (arith, type-vlan f (sym q ∙ e)))

-- with no VLAN tag
pub head_plain : (f : List ℕ) {d t : ℕ} → 14 ≤ length f → d ≡ dest_of f → t ≡ word f 12 → (t ≡ 0x8100 → ⊥)
    → answers (record { dest = d; vlan = 0; at = 12; tagged = eqb t 0xF1C1; rank = unranked }) ≡ head_of f
unfolding head_of header_of is_tagged vlan_of has_vlan rank_of
head_plain f h p q n =
    let m : word f 12 ≡ 0x8100 → ⊥ = λ e. n (q ∙ e) in
    rw (p, q) (simp (head-whole f (rw (type-plain f m) h), type-plain f m, ne_eqb _ _ m))

-- with one
pub head-vlan : (f : List ℕ) {d t v w : ℕ} → 18 ≤ length f → d ≡ dest_of f → t ≡ word f 12 → t ≡ 0x8100 → v ≡ word f 14 → w ≡ word f 16
    → answers (record { dest = d; vlan = v % 4096; at = 16; tagged = eqb w 0xF1C1; rank = record { priority = v / 8192; vlantag = 1 } }) ≡ head_of f
unfolding head_of header_of is_tagged vlan_of has_vlan rank_of
head-vlan f h p q e r s =
    let m : word f 12 ≡ 0x8100 = sym q ∙ e in
    rw (p, r, s) (simp (head-whole f (rw (type-vlan f m) h), type-vlan f m, eq-eqb _ _ m))

-- ---- what a caller of the reader learns

pub record HeadIs (f : List ℕ) (h : Header) : Type 0 where
  pub room : type_at f + 2 ≤ length f
  pub at : h.at ≡ type_at f
  pub tagged : h.tagged ≡ is_tagged f
  pub same : h ≡ header_of f

pub head-is : (f : List ℕ) {r : Option Header} (h : Header) → said_head r ≡ head_of f → r ≡ Some h → HeadIs f h
unfolding head_of header_of
head-is f h p q =
    let a = passed (head_short f) SHORT (ap said_head (sym q) ∙ p) in
    let same : h ≡ header_of f = cc a.1 in
    record { room = head-room f a.0; at = ap (λ x. x.at) same; tagged = ap (λ x. x.tagged) same; same = same }

pub short-is : (f : List ℕ) {r : Option Header} → said_head r ≡ head_of f → r ≡ None → head_short f ≡ true
unfolding head_of
short-is f p q = go (head_short f) (ap said_head (sym q) ∙ p)
  where
    go : (b : Bool) → refused SHORT ≡ cond b (refused SHORT) (answers (header_of f)) → b ≡ true
    go true w = refl
    go false w = absurd (let z : ◌≡◌ {A = ℕ} 0 1 = cc in omega arith)

-- ---- what `read_of` is, by a reader's tests

module _ (f : List ℕ) (few : length f ≤ frame_most) where
  pub read_short : head_short f ≡ true → refused SHORT ≡ read_of f
  unfolding read_of
  read_short h = simp (le-ltb _ _ few, h)

  module _ (h : Header) (k : HeadIs f h) where
    whole : head_short f ≡ false
    whole = head-whole f k.room

    pub read-untagged : h.tagged ≡ false → refused UNTAGGED ≡ read_of f
    unfolding read_of
    read-untagged t = simp (le-ltb _ _ few, whole, sym k.tagged ∙ t)

    pub read-cut : h.tagged ≡ true → length f < h.at + 8 → refused SHORT ≡ read_of f
    unfolding read_of tag_short
    read-cut t s = simp (le-ltb _ _ few, whole, sym k.tagged ∙ t, lt-ltb _ _ (rw k.at at s))

    pub read_whole : {n : ℕ} → h.tagged ≡ true → h.at + 8 ≤ length f → n ≡ word f (h.at + 4) → answers (record { header = h; number = n }) ≡ read_of f
    unfolding read_of tag_short
    read_whole t s e =
        simp (le-ltb _ _ few, whole, sym k.tagged ∙ t, le-ltb _ _ (rw k.at at s))
        (ap₂ (λ (x : Header) (m : ℕ). answers (record { header = x; number = m })) k.same (rw k.at at e))

-- ---- what a caller of `read_tag` learns

pub record TagIs (f : List ℕ) (h : Header) (n : ℕ) : Type 0 where
  pub few : length f ≤ frame_most
  pub room : type_at f + 8 ≤ length f
  pub tagged : is_tagged f ≡ true
  pub at : h.at ≡ type_at f
  pub number : n ≡ number_in f
  pub same : h ≡ header_of f

pub tag_of : (f : List ℕ) (t : Tag) → read_of f ≡ answers t → TagIs f t.header t.number
unfolding read_of header_of tag_short
tag_of f t p =
    let a = passed (ltb frame_most (length f)) LONG (sym p) in
    let b = passed (head_short f) SHORT a.1 in
    let c = passed (not (is_tagged f)) UNTAGGED b.1 in
    let g : is_tagged f ≡ true = not-false _ c.0 in
    let d = passed (is_tagged f && ltb (length f) (type_at f + 8)) SHORT c.1 in
    let tag = same-value d.1 in
    let same : t.header ≡ header_of f = ap (λ x. x.header) tag in
    record { few = ltb-false _ _ a.0; room = ltb-false _ _ (rw g at d.0); tagged = g; at = ap (λ x. x.at) same; number = ap (λ x. x.number) tag; same = same }

pub tag_is : (f : List ℕ) {r : Result Tag Refusal} (t : Tag) → said_read r ≡ read_of f → r ≡ Ok t → TagIs f t.header t.number
tag_is f t p q = tag_of f t (sym p ∙ ap said_read q)

-- and the other way
pub read_is : (f : List ℕ) → length f ≤ frame_most → type_at f + 8 ≤ length f → is_tagged f ≡ true
    → read_of f ≡ answers (record { header = header_of f; number = number_in f })
unfolding read_of tag_short
read_is f few room t = simp (le-ltb _ _ few, head-whole f (omega arith), t, le-ltb _ _ room)
