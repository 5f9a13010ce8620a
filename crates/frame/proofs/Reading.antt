-- Short in the paper's words, and reserved bytes ignored on reading. Assumes nothing.
use mathlib.Core.Path.{◌≡◌, refl, sym, ap, ap₂, ◌∙◌}
use Prim.Native.Nat.{ℕ, ◌+◌, ◌%◌, ◌≤◌, ◌<◌, ◌/◌}
use native.Mathlib.Omega.{arith}
use native.Mathlib.Decide.{dec_lt}
use mathlib.Core.Bool.{Bool, true, false, cond, ◌&&◌, ◌||◌}
use mathlib.Core.Logic.{◌⊎◌, inl, inr}
use mathlib.Core.List.{List, ◌++◌}
use lib.ListN.{length, get_or, take, drop, length-take, length-drop}
use lib.Seq.{ext_get_or, get_or-take, get_or-drop}
use lib.Dec.{ltb, eqb}
use borrow.Author.Tests.{lt-ltb, eq-eqb, ltb-true, eqb-true}
use Rattle.frame.specs.Bytes.{word}
use Rattle.refusal.specs.Checks.{Said}
use Rattle.refusal.specs.Checks.Said.{refused, answers}
use Rattle.frame.specs.Frame.{Tag, type_at, has_vlan, vlan_of, is_tagged, head_short, tag_short, header_of, rank_of, unranked, number_in, read_of, cut_at, untagged}
use Rattle.frame.specs.TagCalls.{take_tag, take_from}
use Rattle.frame.specs.Refusals.{short}
use Rattle.frame.specs.Laws.{Stands, ShortWords, ReservedIgnored}
use Rattle.frame.proofs.Heads.{type-least, type-vlan, type-plain, head-cut, head-room, head-short}
use Rattle.frame.proofs.Words.{Place, plain, vlan, place}

-- ---- short

-- the paper's sentences, by where the type field is
Sentences : List ℕ → Type 0
Sentences f =
    (length f < 14)
    ⊎ (Stands 0x8100 12 f × (length f < 18))
    ⊎ (Stands 0x8100 12 f × Stands 0xF1C1 16 f × (length f < 24))
    ⊎ ((Stands 0x8100 12 f → ⊥) × Stands 0xF1C1 12 f × (length f < 20))

-- a frame whose type field is whole is short exactly if it is tagged and ends before the former type does
tag-cut : (f : List ℕ) → tag_short f ≡ true → (word f (type_at f) ≡ 0xF1C1) × (length f < type_at f + 8)
unfolding tag_short is_tagged
tag-cut f e = go (eqb (word f (type_at f)) 0xF1C1) refl e
  where
    go : (b : Bool) → eqb (word f (type_at f)) 0xF1C1 ≡ b → b && ltb (length f) (type_at f + 8) ≡ true → (word f (type_at f) ≡ 0xF1C1) × (length f < type_at f + 8)
    go true p q = (eqb-true _ _ p, ltb-true _ _ q)
    go false p q = absurd (let z : ◌≡◌ {A = ℕ} 0 1 = cc in omega arith)

tag-cut-is : (f : List ℕ) → word f (type_at f) ≡ 0xF1C1 → length f < type_at f + 8 → tag_short f ≡ true
unfolding tag_short is_tagged
tag-cut-is f e h = simp (eq-eqb _ _ e, lt-ltb _ _ h)

or_left : (b : Bool) {a : Bool} → a ≡ true → a || b ≡ true
or_left b e = rw e

or_right : (a : Bool) {b : Bool} → b ≡ true → a || b ≡ true
or_right true e = refl
or_right false e = e

pub short-words : ShortWords
unfolding Sentences
short-words f = (λ e. to (head_short f) refl e, from)
  where
    whole : Place f → type_at f + 2 ≤ length f → (word f (type_at f) ≡ 0xF1C1) × (length f < type_at f + 8) → Sentences f
    whole (plain n o v) r t = inr (inr (inr ((λ s. n s.1), (omega arith, ap (word f) (sym o) ∙ t.0), omega arith)))
    whole (vlan e o v) r t = inr (inr (inl ((omega arith, e), (omega arith, ap (word f) (sym o) ∙ t.0), omega arith)))

    cut : Place f → length f < type_at f + 2 → Sentences f
    cut (plain n o v) h = inl (omega arith)
    cut (vlan e o v) h = elim (dec_lt (length f) 14) [ yes p ↦ inl p | no p ↦ inr (inl ((omega arith, e), omega arith)) ]

    to : (b : Bool) → head_short f ≡ b → b || tag_short f ≡ true → Sentences f
    to true p e = cut (place f) (ltb-true _ _ (sym (head-short f) ∙ p))
    to false p e = whole (place f) (head-room f p) (tag-cut f e)

    head : length f < type_at f + 2 → short f ≡ true
    head h = or_left (tag_short f) (head-cut f h)

    tagged : word f (type_at f) ≡ 0xF1C1 → length f < type_at f + 8 → short f ≡ true
    tagged e h = or_right (head_short f) (tag-cut-is f e h)

    from : Sentences f → short f ≡ true
    from (inl h) = head (omega (arith, type-least f))
    from (inr (inl p)) = head (omega (arith, type-vlan f p.0.1))
    from (inr (inr (inl p))) = let o = type-vlan f p.0.1 in tagged (ap (word f) o ∙ p.1.1) (omega (arith, p.2))
    from (inr (inr (inr p))) = let o = type-plain f (λ e. p.0 (p.1.0, e)) in tagged (ap (word f) o ∙ p.1.1) (omega (arith, p.2))

-- ---- reserved bytes

module _ (f g : List ℕ) (l : length f ≡ length g)
    (same : (i : ℕ) → (i ≡ type_at f + 2 → ⊥) → (i ≡ type_at f + 3 → ⊥) → get_or f i 0 ≡ get_or g i 0) where
  -- words before the reserved bytes, and behind them
  before : (i : ℕ) → i + 1 < type_at f + 2 → word f i ≡ word g i
  before i h = rw (same i (λ e. omega arith) (λ e. omega arith), same (i + 1) (λ e. omega arith) (λ e. omega arith))

  behind : (i : ℕ) → type_at f + 3 < i → word f i ≡ word g i
  behind i h = rw (same i (λ e. omega arith) (λ e. omega arith), same (i + 1) (λ e. omega arith) (λ e. omega arith))

  same-vlan : has_vlan f ≡ has_vlan g
  unfolding has_vlan
  same-vlan = ap (λ (w : ℕ). eqb w 0x8100) (before 12 (omega (arith, type-least f)))

  same-type : type_at f ≡ type_at g
  unfolding type_at
  same-type = ap (λ (b : Bool). cond b 16 12) same-vlan

  same_tag : is_tagged f ≡ is_tagged g
  unfolding is_tagged
  same_tag = ap (λ (w : ℕ). eqb w 0xF1C1) (before (type_at f) (omega arith) ∙ ap (word g) same-type)

  same_id : vlan_of f ≡ vlan_of g
  unfolding vlan_of
  same_id = go (place f)
    where
      go : Place f → cond (has_vlan f) (word f 14 % 4096) 0 ≡ cond (has_vlan g) (word g 14 % 4096) 0
      go (plain n o v) = rw (← same-vlan, v)
      go (vlan e o v) = rw (← same-vlan, v) (ap (λ (w : ℕ). w % 4096) (before 14 (omega arith)))

  same_rank : rank_of f ≡ rank_of g
  unfolding rank_of
  same_rank = go (place f)
    where
      go : Place f → cond (has_vlan f) (record { priority = word f 14 / 8192; vlantag = 1 }) unranked ≡ cond (has_vlan g) (record { priority = word g 14 / 8192; vlantag = 1 }) unranked
      go (plain n o v) = rw (← same-vlan, v)
      go (vlan e o v) = rw (← same-vlan, v) (ap (λ (w : ℕ). record { priority = w / 8192; vlantag = 1 }) (before 14 (omega arith)))

  same-header : header_of f ≡ header_of g
  unfolding header_of
  same-header =
      let h = type-least f in
      rw (before 0 (omega arith), before 2 (omega arith), before 4 (omega arith), same_id, same_rank, same_tag, same-type)

  same_number : number_in f ≡ number_in g
  same_number = behind (type_at f + 4) (omega arith) ∙ ap (λ (o : ℕ). word g (o + 4)) same-type

  same_read : read_of f ≡ read_of g
  unfolding read_of head_short tag_short
  same_read = rw (same-header, same_number, l, same-vlan, same_tag, same-type)

  same-bare : untagged f ≡ untagged g
  unfolding cut_at
  same-bare =
      let front : take (type_at f) f ≡ take (type_at f) g = ext_get_or 0 _ _ (simp (length-take, l)) (λ i h.
      (let k : i < type_at f = omega (arith, simp length-take at h) in
      rw (get_or-take (type_at f) f i 0 k, get_or-take (type_at f) g i 0 k) (same i (λ e. omega arith) (λ e. omega arith)))) in
      let rest : drop (type_at f + 6) f ≡ drop (type_at f + 6) g = ext_get_or 0 _ _ (simp (length-drop, l)) (λ i h.
      simp get_or-drop (same (type_at f + 6 + i) (λ e. omega arith) (λ e. omega arith))) in
      ap₂ ◌++◌ front rest ∙ ap (cut_at g) same-type

  same-take : (out : List ℕ) → take_tag f out ≡ take_tag g out
  unfolding take_tag take_from
  same-take out = rw same_read (go (read_of g))
    where
      go : (x : Said Tag) → take_from f out x ≡ take_from g out x
      go (refused n) = refl
      go (answers x) = rw (l, same-bare)

pub reserved-ignored : ReservedIgnored
reserved-ignored f g l same = (same_read f g l same, same-take f g l same)
