-- What else holds of one frame's bytes: the priority bits, the destination as one number, that two outcomes coincide, and that a refusal
-- changes nothing. Assumes nothing.
use mathlib.Core.Path.{◌≡◌, refl, sym, ap, ◌∙◌}
use Prim.Native.Nat.{ℕ, ◌+◌, ◌-◌, ◌*◌, ◌/◌, ◌%◌, ◌≤◌, ◌<◌}
use native.Mathlib.Omega.{arith}
use native.Mathlib.Decide.{dec_lt}
use mathlib.Core.Logic.{◌⊎◌, inl, inr}
use mathlib.Core.List.{List}
use lib.ListN.{length, get_or}
use lib.Dec.{ltb}
use Rattle.refusal.specs.Checks.{Said}
use Rattle.refusal.specs.Checks.Said.{refused, answers}
use Rattle.refusal.proofs.Checks.{same-value}
use Rattle.frame.specs.Bytes.{word, overlay, Bytes}
use Rattle.frame.specs.Frame.{Tag, vlan_of, rank_of, read_of, untagged, write_of}
use Rattle.frame.specs.TagCalls.{take_from, take_tag, write_into, write_tag, said_head}
use Rattle.frame.specs.Laws.{PriorityBits, DestSix, TakeRefusedKeeps, WriteRefusedKeeps, Coincide, AnswersTell}
use Rattle.std.specs.Prelude.{Option, None, Some}
use Rattle.frame.specs.declared.Header.{Header}
use Rattle.refusal.proofs.Checks.{said-tells}
use Rattle.frame.proofs.Writes.{picks-keeps}
use Rattle.frame.proofs.Words.{six}

-- ---- the two bytes of a VLAN tag behind 8100 hex

in_parts : (w : ℕ) → w < 65536 → (w / 8192 ≤ 7) × (w % 4096 < 4096) × ((w ≡ w / 8192 * 8192 + w % 4096) ⊎ (w ≡ w / 8192 * 8192 + 4096 + w % 4096))
in_parts w h = (omega arith, omega arith, elim (dec_lt (w % 8192) 4096) [ yes k ↦ inl (omega arith) | no k ↦ inr (omega arith) ])

pub priority-bits : PriorityBits
unfolding rank_of vlan_of
priority-bits f b v = let p = in_parts (word f 14) (omega (arith, b 14, b 15)) in rw v (refl, p.0, p.1, p.2)

-- ---- the destination as one number stands for its six bytes

split : (q r a b : ℕ) → q < 65536 → r < 65536 → a * 65536 + q ≡ b * 65536 + r → (a ≡ b) × (q ≡ r)
split q r a b h k e = (omega arith, omega arith)

bytes_of : (f g : List ℕ) (i : ℕ) → Bytes f → Bytes g → word f i ≡ word g i → (get_or f i 0 ≡ get_or g i 0) × (get_or f (i + 1) 0 ≡ get_or g (i + 1) 0)
bytes_of f g i b d e = (omega (arith, b (i + 1), d (i + 1)), omega (arith, b (i + 1), d (i + 1)))

pub dest-six : DestSix
dest-six f g b d h k e =
    let s = split (word f 4) (word g 4) (word f 0 * 65536 + word f 2) (word g 0 * 65536 + word g 2) (omega (arith, b 4, b 5)) (omega (arith, d 4, d 5)) (omega arith) in
    let r = split (word f 2) (word g 2) (word f 0) (word g 0) (omega (arith, b 2, b 3)) (omega (arith, d 2, d 3)) s.0 in
    let p0 = bytes_of f g 0 b d r.0 in
    let p2 = bytes_of f g 2 b d r.1 in
    let p4 = bytes_of f g 4 b d s.1 in
    six f h ∙ rw (p0.0, p0.1, p2.0, p2.1, p4.0, p4.1) (sym (six g k))

-- ---- two outcomes coincide

pub coincide : Coincide
coincide A B said tell o r s x y p q = (tell r s (p.0 ∙ sym q.0), p.1 ∙ sym q.1)

pub answers-tell : AnswersTell
answers-tell = (heads, said-tells _, said-tells _, said-tells _, said-tells _)
  where
    heads : (r s : Option Header) → said_head r ≡ said_head s → r ≡ s
    heads None None e = refl
    heads None (Some h) e = cc
    heads (Some h) None e = cc
    heads (Some h) (Some k) e = ap Some (same-value e)

-- ---- a refusal changes nothing

pub take-refused-keeps : TakeRefusedKeeps
unfolding take_tag take_from
take-refused-keeps f out n e = go (read_of f) e
  where
    go : (x : Said Tag) → (take_from f out x).said ≡ refused n → (take_from f out x).bytes ≡ out
    go (refused k) e = refl
    go (answers t) e = picks-keeps (ltb (length out) (length f - 6)) (record { number = t.number; length = length f - 6 }) out (overlay (untagged f) out) n e

pub write-refused-keeps : WriteRefusedKeeps
unfolding write_tag write_into
write-refused-keeps f m out n e = go (write_of f m) e
  where
    go : (x : Said (List ℕ)) → (write_into out x).said ≡ refused n → (write_into out x).bytes ≡ out
    go (refused k) e = refl
    go (answers g) e = picks-keeps (ltb (length out) (length g)) (length g) out (overlay g out) n e
