-- What a trailer's definitions come to, by the tests that the code makes. Assumes nothing.
use mathlib.Core.Path.{◌≡◌, refl, sym, ap, ◌∙◌}
use Prim.Native.Nat.{ℕ, ◌+◌, ◌-◌, ◌*◌, ◌≤◌}
use native.Mathlib.Omega.{arith}
use mathlib.Core.Bool.{Bool, true, false, ◌&&◌, ◌||◌, and-true, and-false}
use mathlib.Core.List.{List, [], ◌∷◌}
use lib.ListN.{length, get_or, set, drop, length-drop, drop_of_length-le}
use lib.Seq.{get_or-drop, sets-eq}
use lib.Dec.{eqb}
use lib.Pointwise.{pointwise}
use Rattle.std.specs.List.{ends_with}
use borrow.Author.Tests.{eq-eqb, ne_eqb, eqb-true, eqb-false}
use borrow.Rule.Slice.PartMut.{mid_of, put_mid}
use Rattle.frame.specs.Bytes.{word, overlay}
use Rattle.frame.specs.Frame.{type_at, cut_at}
use Rattle.frame.proofs.Bytes.{tail-over}
use Rattle.frame.proofs.Heads.{type-vlan, type-plain}
use Rattle.frame.proofs.Words.{Place, plain, vlan, place}
use Rattle.frame.proofs.TakeThenPut.{cut-front, cut-behind}
use Rattle.prp.specs.declared.Kind.{Kind}
use Rattle.prp.specs.declared.Kind.TheVariants as kinds
use Rattle.prp.specs.Prp.{Trailer, first, of2012, trailer_of, width_of, two_words, trailer_bytes, end_at, lan_at, size_at, same, lan_of, is_lan, after_type, wears}

-- ---- its width

pub width-first : width_of first ≡ 4
unfolding width_of
width-first = refl

pub width-2012 : width_of of2012 ≡ 6
unfolding width_of
width-2012 = refl

pub width-last : (k : Trailer) → width_of k ≡ 4 + length k.last
unfolding width_of
width-last k = refl

pub width_is : (k : Kind) → (4 ≤ width_of (trailer_of k)) × (width_of (trailer_of k) ≤ 6)
unfolding width_of
width_is kinds.First = omega arith
width_is kinds.Of2012 = omega arith

-- ---- its last bytes

two : (l : List ℕ) → length l ≡ 2 → l ≡ get_or l 0 0 ∷ get_or l 1 0 ∷ []
two [] e = absurd (omega arith)
two (a ∷ []) e = absurd (omega arith)
two (a ∷ b ∷ []) e = refl
two (a ∷ b ∷ d ∷ l) e = absurd (omega arith)

-- A frame ends in them, by the kind:
abbrev pub EndsSo : (k : Trailer) (f : List ℕ) → Bool
EndsSo k f = same (drop (end_at k f + 4) f) k.last

-- std's comparison says the same, with the two lists the other way round;
swapped : (x y : ℕ) → eqb x y ≡ eqb y x
swapped x y = go (eqb x y) refl
  where
    go : (b : Bool) → eqb x y ≡ b → eqb x y ≡ eqb y x
    go true e = e ∙ sym (eq-eqb y x (sym (eqb-true x y e)))
    go false e = e ∙ sym (ne_eqb y x (λ z. eqb-false x y e (sym z)))

compared : (xs ys : List ℕ) → pointwise eqb ys xs ≡ same xs ys
unfolding same
compared [] [] = refl
compared [] (y ∷ ys) = refl
compared (x ∷ xs) [] = refl
compared (x ∷ xs) (y ∷ ys) = rw (swapped y x, compared xs ys) refl

pub ends-compared : (k : Trailer) (f : List ℕ) {l : List ℕ} {b : Bool} → l ≡ k.last → width_of k ≤ length f → b ≡ ends_with eqb f l → b ≡ EndsSo k f
unfolding width_of
ends-compared k f p h e =
    let o : length f - length k.last ≡ end_at k f + 4 = omega arith in
    e ∙ ap (ends_with eqb f) p ∙ compared _ k.last ∙ ap (λ (i : ℕ). same (drop i f) k.last) o

-- and so do the bytes at its end.
none_left : (f : List ℕ) → 4 ≤ length f → true ≡ EndsSo first f
unfolding width_of same
none_left f h =
    let e : drop (length f - 4 + 4) f ≡ [] = drop_of_length-le f {i = length f - 4 + 4} (omega arith) in
    rw e refl

two-left : (f : List ℕ) → 6 ≤ length f → eqb (get_or f (length f - 2) 0) 0x88 && eqb (get_or f (length f - 1) 0) 0xFB ≡ EndsSo of2012 f
unfolding width_of same
two-left f h =
    let o : ℕ = length f - 6 + 4 in
    let e : drop o f ≡ get_or (drop o f) 0 0 ∷ get_or (drop o f) 1 0 ∷ [] = two (drop o f) (simp length-drop (omega arith)) in
    let a : get_or (drop o f) 0 0 ≡ get_or f (length f - 2) 0 = get_or-drop o f 0 0 ∙ ap (λ (i : ℕ). get_or f i 0) (omega arith) in
    let b : get_or (drop o f) 1 0 ≡ get_or f (length f - 1) 0 = get_or-drop o f 1 0 ∙ ap (λ (i : ℕ). get_or f i 0) (omega arith) in
    let s : same (drop o f) (0x88 ∷ 0xFB ∷ []) ≡ eqb (get_or (drop o f) 0 0) 0x88 && (eqb (get_or (drop o f) 1 0) 0xFB && true) = ap (λ (l : List ℕ). same l (0x88 ∷ 0xFB ∷ [])) e in
    rw (s, a, b, and-true) refl

module _ (f : List ℕ) where
  pub ends-first : (k : Kind) → k ≡ kinds.First → width_of (trailer_of k) ≤ length f → true ≡ EndsSo (trailer_of k) f
  ends-first kinds.First e h = none_left f (omega (arith, width-first))
  ends-first kinds.Of2012 e h = absurd (let z : ◌≡◌ {A = ℕ} 0 1 = cc in omega arith)

  pub ends-2012 : (k : Kind) → k ≡ kinds.Of2012 → width_of (trailer_of k) ≤ length f → (6 ≤ length f) × (eqb (get_or f (length f - 2) 0) 0x88 && eqb (get_or f (length f - 1) 0) 0xFB ≡ EndsSo (trailer_of k) f)
  ends-2012 kinds.First e h = absurd (let z : ◌≡◌ {A = ℕ} 0 1 = cc in omega arith)
  ends-2012 kinds.Of2012 e h = let s : 6 ≤ length f = omega (arith, width-2012) in (s, two-left f s)

-- they are written, by the kind
pub last-first : (d : List ℕ) (k : Kind) → k ≡ kinds.First → d ≡ overlay (trailer_of k).last d
unfolding overlay
last-first d kinds.First e = refl
last-first d kinds.Of2012 e = absurd (let z : ◌≡◌ {A = ℕ} 0 1 = cc in omega arith)

pub last-2012 : (d : List ℕ) (k : Kind) → k ≡ kinds.Of2012 → length (trailer_of k).last ≤ length d → (2 ≤ length d) × (set (set d 0 0x88) 1 0xFB ≡ overlay (trailer_of k).last d)
unfolding overlay
last-2012 d kinds.First e h = absurd (let z : ◌≡◌ {A = ℕ} 0 1 = cc in omega arith)
last-2012 d kinds.Of2012 e h = (h, sets-eq (0x88 ∷ 0xFB ∷ []) d 0 (omega arith))

-- ---- whether a frame has it

module _ (k : Trailer) (f : List ℕ) where
  pub wears-no-lan : is_lan (lan_at f (end_at k f)) ≡ false → false ≡ wears k f
  unfolding wears
  wears-no-lan h = simp h

  pub wears-no-size : (size_at f (end_at k f) ≡ after_type f → ⊥) → false ≡ wears k f
  unfolding wears
  wears-no-size h = simp (ne_eqb _ _ h, and-false)

  pub wears-last : is_lan (lan_at f (end_at k f)) ≡ true → size_at f (end_at k f) ≡ after_type f → EndsSo k f ≡ wears k f
  unfolding wears
  wears-last h e = simp (h, eq-eqb _ _ e)

-- what a frame that has it says
lan-is : (l : ℕ) → is_lan l ≡ true → (10 ≤ l) × (l ≤ 11)
unfolding is_lan
lan-is l h = go (eqb l 0xA) refl h
  where
    go : (b : Bool) → eqb l 0xA ≡ b → b || eqb l 0xB ≡ true → (10 ≤ l) × (l ≤ 11)
    go true e w = omega (arith, eqb-true l 0xA e)
    go false e w = omega (arith, eqb-true l 0xB w)

pub record WearsIs (k : Trailer) (f : List ℕ) : Type 0 where
  pub least : 10 ≤ lan_at f (end_at k f)
  pub most : lan_at f (end_at k f) ≤ 11
  pub size : size_at f (end_at k f) ≡ after_type f
  pub last : EndsSo k f ≡ true

pub wears-is : (k : Trailer) (f : List ℕ) → wears k f ≡ true → WearsIs k f
unfolding wears
wears-is k f e = go (is_lan (lan_at f (end_at k f))) refl (eqb (size_at f (end_at k f)) (after_type f)) refl e
  where
    go : (a : Bool) → is_lan (lan_at f (end_at k f)) ≡ a → (b : Bool) → eqb (size_at f (end_at k f)) (after_type f) ≡ b → a && b && EndsSo k f ≡ true → WearsIs k f
    go true p true q h = let l = lan-is _ p in record { least = l.0; most = l.1; size = eqb-true _ _ q; last = h }
    go true p false q h = absurd (let z : ◌≡◌ {A = ℕ} 0 1 = cc in omega arith)
    go false p b q h = absurd (let z : ◌≡◌ {A = ℕ} 0 1 = cc in omega arith)

-- ---- its bytes, the first four and then the last

pub trailer-over : (k : Trailer) (n w s : ℕ) (d : List ℕ) {b : ℕ} {x y : List ℕ} → b ≡ (0xA + w) * 4096 + s
    → x ≡ overlay (two_words n b) d → y ≡ overlay k.last (mid_of 4 (length x - 4) x)
    → put_mid 4 (length x - 4) x y ≡ overlay (trailer_bytes k n (lan_of w) s) d
unfolding trailer_bytes lan_of
trailer-over k n w s d e p q = tail-over 4 (two_words n ((0xA + w) * 4096 + s)) k.last d refl (p ∙ ap (λ (b : ℕ). overlay (two_words n b) d) e) q

-- ---- the type field of a frame whose tag is taken out

module _ (f : List ℕ) (at : ℕ) (here : at ≡ type_at f) (room : at + 8 ≤ length f) {t : ℕ} (former : t ≡ word f (at + 6)) where
  -- behind a VLAN tag it stays
  stays : word f 12 ≡ 0x8100 → at ≡ 16 → 16 ≡ type_at (cut_at f at)
  stays p e = sym (type-vlan (cut_at f at) (cut-front f at (omega arith) 12 (omega arith) ∙ p))

  -- otherwise the former type comes to stand at 12
  comes : at ≡ 12 → word (cut_at f at) 12 ≡ t
  comes e = cut-behind f at (omega arith) 12 0 (omega arith) ∙ ap (word f) (omega arith) ∙ sym former

  pub vlan-comes : t ≡ 0x8100 → 16 ≡ type_at (cut_at f at)
  vlan-comes e = go (place f)
    where
      go : Place f → 16 ≡ type_at (cut_at f at)
      go (plain p q v) = sym (type-vlan (cut_at f at) (comes (here ∙ q) ∙ e))
      go (vlan p q v) = stays p (here ∙ q)

  pub none-comes : (t ≡ 0x8100 → ⊥) → at ≡ type_at (cut_at f at)
  none-comes n = go (place f)
    where
      go : Place f → at ≡ type_at (cut_at f at)
      go (plain p q v) = here ∙ q ∙ sym (type-plain (cut_at f at) (λ z. n (sym (comes (here ∙ q)) ∙ z)))
      go (vlan p q v) = here ∙ q ∙ stays p (here ∙ q)
