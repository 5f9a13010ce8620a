-- Each refusal number is given exactly when the documents say, and 14 never by a take. Assumes nothing.
use mathlib.Core.Path.{◌≡◌, refl}
use mathlib.Core.Logic.{inl, inr}
use Prim.Native.Nat.{ℕ, ◌+◌, ◌-◌}
use native.Mathlib.Omega.{arith}
use mathlib.Core.Bool.{Bool, true, false, cond, not, ◌&&◌, ◌||◌}
use mathlib.Core.List.{List}
use lib.ListN.{length}
use lib.Dec.{ltb}
use Rattle.refusal.specs.Checks.{Said, First, first_of}
use Rattle.refusal.specs.Checks.Said.{refused, answers}
use Rattle.refusal.specs.Numbers.{LONG, SHORT, UNTAGGED, ROOM, TAGGED, GROUP}
use Rattle.refusal.proofs.Checks.{first-exactly}
use Rattle.record.specs.Sizes.{frame_most, untagged_most}
use Rattle.frame.specs.Bytes.{overlay}
use Rattle.frame.specs.Frame.{Tag, type_at, group_source, is_tagged, head_short, tag_short, header_of, number_in, read_of, untagged, tagged, place_of, put_at, write_of}
use Rattle.frame.specs.TagCalls.{Bare, take_from, take_tag, write_into, write_tag}
use Rattle.frame.specs.Refusals.{take_checks, write_checks, TakeRefusedExactly, WriteRefusedExactly}
use Rattle.frame.specs.Laws.{TakeNeverGroup}
use Rattle.frame.proofs.Heads.{head-room}
use Rattle.frame.proofs.Writes.{tag-length, picks-said}

-- the calls say what the first check of their lists says
abbrev bare : List ℕ → Bare
bare f = record { number = number_in f; length = length f - 6 }

pub take-first : (f out : List ℕ) → (take_tag f out).said ≡ first_of (take_checks f out) (bare f)
unfolding take_tag take_from read_of take_checks first_of tag_short
take-first f out = go (ltb frame_most (length f)) (head_short f) (is_tagged f) (ltb (length f) (type_at f + 8))
  where
    tag : Said Tag
    tag = answers (record { header = header_of f; number = number_in f })

    go : (long short tagged cut : Bool)
        → (take_from f out (cond long (refused LONG) (cond short (refused SHORT) (cond (not tagged) (refused UNTAGGED) (cond (tagged && cut) (refused SHORT) tag))))).said
        ≡ cond long (refused LONG) (cond (short || (tagged && cut)) (refused SHORT) (cond (not tagged) (refused UNTAGGED) (cond (ltb (length out) (length f - 6)) (refused ROOM) (answers (bare f)))))
    go true short tagged cut = refl
    go false true tagged cut = refl
    go false false false cut = refl
    go false false true true = refl
    go false false true false = picks-said (ltb (length out) (length f - 6)) (bare f) out (overlay (untagged f) out)

pub write-first : (f : List ℕ) (number : ℕ) (out : List ℕ) → (write_tag f number out).said ≡ first_of (write_checks f out) (length f + 6)
unfolding write_tag write_into write_of put_at place_of write_checks first_of
write-first f number out = go (ltb untagged_most (length f)) (head_short f) refl (is_tagged f) (group_source f)
  where
    go : (long short : Bool) → head_short f ≡ short → (carries group : Bool)
        → (write_into out (put_at f number (cond long (refused LONG) (cond short (refused SHORT) (cond carries (refused TAGGED) (cond group (refused GROUP) (answers (type_at f)))))))).said
        ≡ cond long (refused LONG) (cond short (refused SHORT) (cond carries (refused TAGGED) (cond group (refused GROUP) (cond (ltb (length out) (length f + 6)) (refused ROOM) (answers (length f + 6))))))
    go true short e carries group = refl
    go false true e carries group = refl
    go false false e true group = refl
    go false false e false true = refl
    go false false e false false =
        let l : length (tagged f number) ≡ length f + 6 = tag-length f (type_at f) number (omega (arith, head-room f e)) in
        rw l (picks-said (ltb (length out) (length f + 6)) (length f + 6) out (overlay (tagged f number) out))

pub take-refused-exactly : TakeRefusedExactly
take-refused-exactly f out n = rw (take-first f out) (first-exactly Bare (take_checks f out) (bare f) n)

pub write-refused-exactly : WriteRefusedExactly
write-refused-exactly f number out n = rw (write-first f number out) (first-exactly ℕ (write_checks f out) (length f + 6) n)

-- 14 is not among the numbers of a take
pub take-never-group : TakeNeverGroup
unfolding take_checks First
take-never-group f out e = go ((take-refused-exactly f out GROUP).0 e)
  where
    go : First GROUP (take_checks f out) → ⊥
    go (inl p) = omega (arith, p.1)
    go (inr (_, inl p)) = omega (arith, p.1)
    go (inr (_, inr (_, inl p))) = omega (arith, p.1)
    go (inr (_, inr (_, inr (_, inl p)))) = omega (arith, p.1)
    go (inr (_, inr (_, inr (_, inr p)))) = p.1
