-- What the definitions of a batch's steps are, by the tests that the code makes. Assumes nothing.
use Prim.Native.Nat.{ℕ, ◌+◌, ◌-◌, ◌/◌, ◌%◌, ◌≤◌, ◌<◌}
use mathlib.Core.Path.{◌≡◌, refl, ◌∙◌}
use mathlib.Core.Bool.{Bool, true, false}
use mathlib.Core.List.{List}
use lib.ListN.{set}
use borrow.Author.Tests.{lt-ltb, le-ltb, le-leb, lt-leb, eq-eqb, ne_eqb}
use Rattle.refusal.specs.Checks.Said.{refused, answers}
use Rattle.refusal.specs.Numbers.{NETWORK, ROOM, BATCH}
use Rattle.frame.specs.Bytes.{word}
use Rattle.calls.specs.declared.ArrivalAnswer.{ArrivalAnswer}
use Rattle.std.specs.Prelude.{if◌then◌else◌}
use native.Mathlib.Omega.{arith}
use Rattle.batch.specs.Batch.{frames_most, runs_past}
use Rattle.batch.specs.Steps.{starts_with, begun, from_of, next_frame, handed, added, length_put, cursor_after}
use Rattle.batch.specs.declared.Cursor.{Cursor}
use Rattle.std.specs.Prelude.{Some, None}
use Rattle.batch.specs.Steps.{frame_at}

-- ---- the start

module _ (unfit network count : ℕ) (s : List ℕ) where
  pub no_index : (unfit ≡ 0 → ⊥) → refused unfit ≡ begun unfit network count s
  unfolding begun
  no_index h = simp (ne_eqb _ _ h)

  module _ (h : unfit ≡ 0) where
    pub no-network : 1 < network → refused NETWORK ≡ begun unfit network count s
    unfolding begun
    no-network k = simp (eq-eqb _ _ h, lt-ltb _ _ k)

    module _ (k : network ≤ 1) where
      pub no-count : frames_most < count → refused BATCH ≡ begun unfit network count s
      unfolding begun
      no-count m = simp (eq-eqb _ _ h, le-ltb _ _ k, lt-ltb _ _ m)

      module _ (m : count ≤ frames_most) where
        pub no_lengths : runs_past count s ≡ true → refused BATCH ≡ begun unfit network count s
        unfolding begun
        no_lengths p = simp (eq-eqb _ _ h, le-ltb _ _ k, le-ltb _ _ m, p)

        pub all-passed : runs_past count s ≡ false → answers (starts_with count) ≡ begun unfit network count s
        unfolding begun
        all-passed p = simp (eq-eqb _ _ h, le-ltb _ _ k, le-ltb _ _ m, p)

-- ---- the next frame

module _ (used room : ℕ) where
  pub no_room : room < used + 2 → room ≡ from_of used room
  no_room h = simp (lt-leb _ _ h)

  pub some-room : {from : ℕ} → used + 2 ≤ room → from ≡ used + 2 → from ≡ from_of used room
  some-room h e = e ∙ simp (le-leb _ _ h)

module _ (c : Cursor) (s : List ℕ) (room : ℕ) where
  pub no-frame : c.left ≡ 0 → None ≡ next_frame c s room
  unfolding next_frame
  no-frame h = rw h

  pub one-frame : {size from : ℕ} → (c.left ≡ 0 → ⊥) → size ≡ word s c.at → from ≡ from_of c.used room
      → frame_at (c.at + 2) (c.at + 2 + size) from ≡ next_frame c s room
  unfolding next_frame
  one-frame h p q = simp (ne_eqb _ _ h) (cc)

-- ---- behind a frame

module _ (e : ArrivalAnswer) where
  pub added-some : e.verdict ≡ 1 → added e ≡ 2 + e.length
  added-some h = simp (eq-eqb _ _ h)

  pub added_none : (e.verdict ≡ 1 → ⊥) → added e ≡ 0
  added_none h = simp (ne_eqb _ _ h)

  module _ (used : ℕ) (out : List ℕ) where
    pub put_some : e.verdict ≡ 1 → set (set out used (e.length / 256 % 256)) (used + 1) (e.length % 256) ≡ length_put used e out
    unfolding length_put
    put_some h = simp (eq-eqb _ _ h)

    pub put-none : (e.verdict ≡ 1 → ⊥) → out ≡ length_put used e out
    unfolding length_put
    put-none h = simp (ne_eqb _ _ h)

  module _ (c : Cursor) (end : ℕ) {used : ℕ} (p : used ≡ c.used + added e) where
    pub ends-here : {left : ℕ} → e.refusal ≡ ROOM → left ≡ 0
        → ◌≡◌ {A = Cursor} (record { at = end; used = used; left = left; frames = c.frames }) (cursor_after c end e)
    unfolding cursor_after
    ends-here h q = rw (p, q) (simp (eq-eqb _ _ h))

    pub goes_on : (e.refusal ≡ ROOM → ⊥)
        → ◌≡◌ {A = Cursor} (record { at = end; used = used; left = c.left - 1; frames = c.frames + 1 }) (cursor_after c end e)
    unfolding cursor_after
    goes_on h = rw p (simp (ne_eqb _ _ h))

-- ---- the answer, as it is noted

-- what a frame adds, by its length where it was handed up
module _ (e : ArrivalAnswer) where
  pub adds-length : {length : ℕ} → (if handed e then Some e.length else None) ≡ Some length → added e ≡ 2 + length
  adds-length {length} = go (handed e)
    where
      go : (b : Bool) → (if b then Some e.length else None) ≡ Some length → (if b then 2 + e.length else 0) ≡ 2 + length
      go true p = let q : e.length ≡ length = cc in rw q refl
      go false p = let q : None ≡ Some length = p in cc

  pub adds-none : (if handed e then Some e.length else None) ≡ None → added e ≡ 0
  adds-none = go (handed e)
    where
      go : (b : Bool) → (if b then Some e.length else None) ≡ None → (if b then 2 + e.length else 0) ≡ 0
      go true p = let q : Some e.length ≡ None = p in cc
      go false p = refl

  module _ (used : ℕ) (out : List ℕ) where
    pub puts-length : {length high low : ℕ} → (if handed e then Some e.length else None) ≡ Some length → high ≡ length / 256 % 256 → low ≡ length % 256
        → set (set out used high) (used + 1) low ≡ length_put used e out
    unfolding length_put
    puts-length {length} {high} {low} p h l = go (handed e) p
      where
        go : (b : Bool) → (if b then Some e.length else None) ≡ Some length
            → set (set out used high) (used + 1) low ≡ (if b then set (set out used (e.length / 256 % 256)) (used + 1) (e.length % 256) else out)
        go true p = let q : e.length ≡ length = cc in rw (q, h, l) refl
        go false p = let q : None ≡ Some length = p in cc

    pub puts-none : (if handed e then Some e.length else None) ≡ None → out ≡ length_put used e out
    unfolding length_put
    puts-none = go (handed e)
      where
        go : (b : Bool) → (if b then Some e.length else None) ≡ None → out ≡ (if b then set (set out used (e.length / 256 % 256)) (used + 1) (e.length % 256) else out)
        go true p = let q : Some e.length ≡ None = p in cc
        go false p = refl

-- how many bytes are packed behind it
module _ (e : ArrivalAnswer) (before : ℕ) {used : ℕ} where
  pub used-some : {length : ℕ} → (if handed e then Some e.length else None) ≡ Some length → used ≡ before + 2 + length → used ≡ before + added e
  used-some p u = omega (arith, u, adds-length e p)

  pub used_none : (if handed e then Some e.length else None) ≡ None → used ≡ before → used ≡ before + added e
  used_none p u = omega (arith, u, adds-none e p)
