-- What the two tag calls and their writers come to, by the tests that the code makes. Assumes nothing.
use mathlib.Core.Path.{◌≡◌, refl, sym, ap, ◌∙◌}
use Prim.Native.Nat.{ℕ, ◌+◌, ◌-◌, ◌≤◌, ◌<◌}
use native.Mathlib.Omega.{arith}
use mathlib.Core.Bool.{Bool, true, false, cond, ◌&&◌, ◌||◌}
use mathlib.Core.List.{List}
use lib.ListN.{length, length-append, length-take, length-drop}
use lib.Dec.{ltb, eqb}
use borrow.Author.Tests.{lt-ltb, le-ltb, le-leb, lt-leb, ne_eqb, ltb-false}
use Rattle.refusal.specs.Checks.{Said}
use Rattle.refusal.specs.Checks.Said.{refused, answers}
use Rattle.refusal.specs.Numbers.{LONG, SHORT, ROOM, TAGGED, GROUP}
use Rattle.refusal.proofs.Checks.{passed, same-value}
use Rattle.record.specs.Sizes.{frame_most, untagged_most}
use Rattle.frame.specs.Bytes.{overlay}
use Rattle.frame.specs.Frame.{type_at, group_source, has_vlan, is_tagged, head_short, read_of, cut_at, tag_at, tagged, place_of, put_at, write_of}
use Rattle.frame.specs.TagCalls.{Outcome, take_tag, take_from, write_into, write_tag, said_read, type_place, cut_fits, written_without, tag_fits, written_with}
use Rattle.frame.specs.Frame.{Tag}
use Rattle.std.specs.Prelude.{Result, Ok, Err}
use Rattle.refusal.specs.Numbers.{number_of}
use Rattle.refusal.specs.declared.Refusal.{Refusal}
use Rattle.frame.proofs.Heads.{head-whole, head-room, tag_is}

-- ---- where a type field can stand

pub type-place : (f : List ℕ) → type_place (type_at f) ≡ true
unfolding type_place type_at
type-place f = go (has_vlan f)
  where
    go : (b : Bool) → eqb (cond b 16 12) 12 || eqb (cond b 16 12) 16 ≡ true
    go true = refl
    go false = refl

pub place-12 : type_place 12 ≡ true
unfolding type_place
place-12 = refl

pub place-16 : type_place 16 ≡ true
unfolding type_place
place-16 = refl

-- ---- the writers

-- the bytes fit
module _ (f : List ℕ) (o : ℕ) (out : List ℕ) (place : type_place o ≡ true) where
  pub without-fits : o + 6 ≤ length f → length f ≤ frame_most → length f ≤ length out + 6 → written_without f o out ≡ overlay (cut_at f o) out
  unfolding written_without cut_fits
  without-fits a b c = simp (place, le-leb _ _ a, le-leb _ _ b, le-leb _ _ c)

  pub with-fits : (n : ℕ) → o ≤ length f → length f ≤ untagged_most → length f + 6 ≤ length out → written_with f o n out ≡ overlay (tag_at f o n) out
  unfolding written_with tag_fits
  with-fits n a b c = simp (place, le-leb _ _ a, le-leb _ _ b, le-leb _ _ c)

-- they don't: each reason by itself
pub and_no : (a : Bool) → a && false ≡ false
and_no true = refl
and_no false = refl

module _ (f : List ℕ) (o : ℕ) (out : List ℕ) where
  pub without-elsewhere : (o ≡ 12 → ⊥) → (o ≡ 16 → ⊥) → out ≡ written_without f o out
  unfolding written_without cut_fits type_place
  without-elsewhere p q = simp (ne_eqb _ _ p, ne_eqb _ _ q)

  pub without-cut : length f < o + 6 → out ≡ written_without f o out
  unfolding written_without cut_fits
  without-cut h = simp (lt-leb _ _ h, and_no (type_place o))

  pub without-long : frame_most < length f → out ≡ written_without f o out
  unfolding written_without cut_fits
  without-long h = simp (lt-leb _ _ h, and_no)

  pub without-small : length out + 6 < length f → out ≡ written_without f o out
  unfolding written_without cut_fits
  without-small h = simp (lt-leb _ _ h, and_no)

  pub with-elsewhere : (n : ℕ) → (o ≡ 12 → ⊥) → (o ≡ 16 → ⊥) → out ≡ written_with f o n out
  unfolding written_with tag_fits type_place
  with-elsewhere n p q = simp (ne_eqb _ _ p, ne_eqb _ _ q)

  pub with-cut : (n : ℕ) → length f < o → out ≡ written_with f o n out
  unfolding written_with tag_fits
  with-cut n h = simp (lt-leb _ _ h, and_no)

  pub with-long : (n : ℕ) → untagged_most < length f → out ≡ written_with f o n out
  unfolding written_with tag_fits
  with-long n h = simp (lt-leb _ _ h, and_no)

  pub with-small : (n : ℕ) → length out < length f + 6 → out ≡ written_with f o n out
  unfolding written_with tag_fits
  with-small n h = simp (lt-leb _ _ h, and_no)

-- ---- an outcome that is picked by the room for it

abbrev pub picks : {A : Type 0} → (small : Bool) → A → (out new : List ℕ) → Outcome A
picks small a out new = cond small (record { said = refused ROOM; bytes = out }) (record { said = answers a; bytes = new })

pub picks-said : {A : Type 0} (small : Bool) (a : A) (out new : List ℕ) → (picks small a out new).said ≡ cond small (refused ROOM) (answers a)
picks-said true a out new = refl
picks-said false a out new = refl

pub picks-keeps : {A : Type 0} (small : Bool) (a : A) (out new : List ℕ) (k : ℕ) → (picks small a out new).said ≡ refused k → (picks small a out new).bytes ≡ out
picks-keeps true a out new k e = refl
picks-keeps false a out new k e = absurd (let z : ◌≡◌ {A = ℕ} 0 1 = cc in omega arith)

-- ---- taking a tag out

module _ (f out : List ℕ) where
  pub take-refused : {r : Result Tag Refusal} (m : Refusal) → said_read r ≡ read_of f → r ≡ Err m
      → (refused (number_of m) ≡ (take_tag f out).said) × (out ≡ (take_tag f out).bytes)
  unfolding take_tag take_from
  take-refused m p q = rw (sym p ∙ ap said_read q) (refl, refl)

  module _ {r : Result Tag Refusal} (t : Tag) (p : said_read r ≡ read_of f) (q : r ≡ Ok t) where
    pub take-small : length out < length f - 6 → (refused ROOM ≡ (take_tag f out).said) × (out ≡ (take_tag f out).bytes)
    unfolding take_tag take_from
    take-small s = rw (sym p ∙ ap said_read q) (simp (lt-ltb _ _ s) (refl, refl))

    pub take_done : {new : List ℕ} → length f - 6 ≤ length out → new ≡ written_without f t.header.at out
        → (answers (record { number = t.number; length = length f - 6 }) ≡ (take_tag f out).said) × (new ≡ (take_tag f out).bytes)
    unfolding take_tag take_from
    take_done s e =
        let k = tag_is f t p q in
        let w : written_without f (type_at f) out ≡ overlay (cut_at f (type_at f)) out = without-fits f (type_at f) out (type-place f) (omega arith) k.few (omega arith) in
        rw (sym p ∙ ap said_read q) (simp (le-ltb _ _ s) (refl, e ∙ ap (λ (o : ℕ). written_without f o out) k.at ∙ w))

-- ---- writing one

pub tag-length : (f : List ℕ) (o n : ℕ) → o ≤ length f → length (tag_at f o n) ≡ length f + 6
unfolding tag_at
tag-length f o n h = simp (length-append, length-take, length-drop) (omega arith)

-- ---- where it is put

module _ (f : List ℕ) where
  pub place-long : untagged_most < length f → place_of f ≡ refused LONG
  unfolding place_of
  place-long h = simp (lt-ltb _ _ h)

  module _ (few : length f ≤ untagged_most) where
    pub place_short : head_short f ≡ true → place_of f ≡ refused SHORT
    unfolding place_of
    place_short h = simp (le-ltb _ _ few, h)

    pub place-tagged : type_at f + 2 ≤ length f → is_tagged f ≡ true → place_of f ≡ refused TAGGED
    unfolding place_of
    place-tagged r t = simp (le-ltb _ _ few, head-whole f r, t)

    pub place-group : type_at f + 2 ≤ length f → is_tagged f ≡ false → group_source f ≡ true → place_of f ≡ refused GROUP
    unfolding place_of
    place-group r t g = simp (le-ltb _ _ few, head-whole f r, t, g)

    pub place-whole : type_at f + 2 ≤ length f → is_tagged f ≡ false → group_source f ≡ false → place_of f ≡ answers (type_at f)
    unfolding place_of
    place-whole r t g = simp (le-ltb _ _ few, head-whole f r, t, g)

-- what a place says of the frame
pub record PlaceIs (f : List ℕ) (o : ℕ) : Type 0 where
  pub few : length f ≤ untagged_most
  pub room : type_at f + 2 ≤ length f
  pub plain : is_tagged f ≡ false
  pub remains : group_source f ≡ false
  pub at : o ≡ type_at f

pub place_is : (f : List ℕ) {o : ℕ} → place_of f ≡ answers o → PlaceIs f o
unfolding place_of
place_is f e =
    let a = passed (ltb untagged_most (length f)) LONG (sym e) in
    let b = passed (head_short f) SHORT a.1 in
    let c = passed (is_tagged f) TAGGED b.1 in
    let d = passed (group_source f) GROUP c.1 in
    record { few = ltb-false _ _ a.0; room = head-room f b.0; plain = c.0; remains = d.0; at = cc d.1 }

-- ---- writing it

module _ (f : List ℕ) (n : ℕ) where
  pub no_place : {k : ℕ} → place_of f ≡ refused k → write_of f n ≡ refused k
  unfolding write_of put_at
  no_place e = rw e

  pub at_place : {o : ℕ} → place_of f ≡ answers o → write_of f n ≡ answers (tag_at f o n)
  unfolding write_of put_at
  at_place e = rw e

  pub place-length : {o : ℕ} → place_of f ≡ answers o → length (tag_at f o n) ≡ length f + 6
  place-length {o} e = let k = place_is f e in tag-length f o n (omega (arith, k.room, k.at))

  module _ (out : List ℕ) where
    pub write-refused : {k : ℕ} → place_of f ≡ refused k → (refused k ≡ (write_tag f n out).said) × (out ≡ (write_tag f n out).bytes)
    unfolding write_tag write_into
    write-refused e = rw (no_place e) (refl, refl)

    pub write-small : {o : ℕ} → place_of f ≡ answers o → length out < length f + 6 → (refused ROOM ≡ (write_tag f n out).said) × (out ≡ (write_tag f n out).bytes)
    unfolding write_tag write_into
    write-small e s = rw (at_place e, place-length e) (simp (lt-ltb _ _ s) (refl, refl))

    -- the bytes at that place fit
    pub place-fits : {o : ℕ} → place_of f ≡ answers o → length f + 6 ≤ length out → written_with f o n out ≡ overlay (tag_at f o n) out
    place-fits {o} e s = let k = place_is f e in with-fits f o out (ap type_place k.at ∙ type-place f) n (omega (arith, k.room, k.at)) k.few s

    pub write_done : {o : ℕ} {new : List ℕ} → place_of f ≡ answers o → length f + 6 ≤ length out → new ≡ written_with f o n out
        → (answers (length f + 6) ≡ (write_tag f n out).said) × (new ≡ (write_tag f n out).bytes)
    unfolding write_tag write_into
    write_done e s w = rw (at_place e, place-length e) (simp (le-ltb _ _ s) (refl, w ∙ place-fits e s))

-- ---- what a tagged frame says of the frame that it was made from

pub record WroteIs (f : List ℕ) (n : ℕ) (g : List ℕ) : Type 0 where
  pub few : length f ≤ untagged_most
  pub room : type_at f + 2 ≤ length f
  pub plain : is_tagged f ≡ false
  pub remains : group_source f ≡ false
  pub same : g ≡ tagged f n

pub wrote-is : (f : List ℕ) (n : ℕ) {g : List ℕ} → write_of f n ≡ answers g → WroteIs f n g
unfolding write_of put_at
wrote-is f n {g} e = go (place_of f) refl e
  where
    go : (x : Said ℕ) → place_of f ≡ x → put_at f n x ≡ answers g → WroteIs f n g
    go (refused k) p e = absurd (let z : ◌≡◌ {A = ℕ} 0 1 = cc in omega arith)
    go (answers o) p e =
        let k = place_is f p in
        record { few = k.few; room = k.room; plain = k.plain; remains = k.remains; same = same-value (sym e) ∙ ap (λ (o : ℕ). tag_at f o n) k.at }

-- what write a tag answers fits into the output
pub written-fits : (f : List ℕ) (n : ℕ) (out : List ℕ) {l : ℕ} → (write_tag f n out).said ≡ answers l → l ≤ length out
unfolding write_tag write_into
written-fits f n out {l} e = go (write_of f n) e
  where
    pick : (g : List ℕ) (b : Bool) → ltb (length out) (length g) ≡ b → (picks b (length g) out (overlay g out)).said ≡ answers l → l ≤ length out
    pick g true h w = absurd (let z : ◌≡◌ {A = ℕ} 0 1 = cc in omega arith)
    pick g false h w = omega (arith, same-value w, ltb-false (length out) (length g) h)

    go : (x : Said (List ℕ)) → (write_into out x).said ≡ answers l → l ≤ length out
    go (refused k) w = absurd (let z : ◌≡◌ {A = ℕ} 0 1 = cc in omega arith)
    go (answers g) w = pick g (ltb (length out) (length g)) refl w
