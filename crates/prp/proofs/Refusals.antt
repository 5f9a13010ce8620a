-- Each refusal number is given exactly when the order says, a refusal changes no byte, and 14 is never given. Assumes nothing.
use mathlib.Core.Path.{◌≡◌, refl, ap, sym, ◌∙◌}
use mathlib.Core.Logic.{inl, inr}
use Prim.Native.Nat.{ℕ, ◌+◌, ◌-◌, ◌≤◌}
use native.Mathlib.Omega.{arith}
use native.Mathlib.Decide.{dec_lt}
use mathlib.Core.Bool.{Bool, true, false, cond, not, ◌&&◌, ◌||◌}
use mathlib.Core.List.{List}
use lib.ListN.{length}
use lib.Dec.{ltb}
use borrow.Author.Tests.{lt-ltb, le-ltb, ltb-false, ltb-true}
use Rattle.refusal.specs.Checks.{Said, First, first_of}
use Rattle.refusal.specs.Checks.Said.{refused, answers}
use Rattle.refusal.specs.Numbers.{NETWORK, LONG, SHORT, UNTAGGED, ROOM, TAGGED, GROUP, TRAILER}
use Rattle.refusal.proofs.Checks.{first-exactly, said-tells}
use Rattle.refusal.specs.declared.Refusal.{Refusal}
use Rattle.std.specs.Prelude.{Result}
use Rattle.record.specs.Sizes.{frame_most}
use Rattle.frame.specs.Bytes.{overlay}
use Rattle.frame.specs.declared.Tag.{Tag}
use Rattle.frame.specs.Frame.{type_at, has_vlan, is_tagged, head_short, tag_short, header_of, number_in, read_of, untagged, tagged}
use Rattle.frame.proofs.Laws.{coincide}
use Rattle.frame.proofs.TakeThenPut.{cut-length}
use Rattle.frame.proofs.Writes.{picks-said, picks-keeps}
use Rattle.prp.specs.declared.Turned.{Turned}
use Rattle.prp.specs.Prp.{Trailer, Turn, Told, said_turned, width_of, end_at, number_at, lan_at, network_of, wears, body_of, from_of, trailed, to_as_read, to_of, turn_into, from_prp, to_prp}
use Rattle.prp.specs.Refusals.{prp_short, from_checks, to_checks, FromRefusedExactly, ToRefusedExactly, FromRefusedKeeps, ToRefusedKeeps, TurnsCoincide, NeverGroup}
use Rattle.prp.proofs.Turns.{from_turn, to_turn, from-length, trailed-length}

-- ---- the conditions of the lists are those of the definitions

-- 3: the trailer goes, and a tag comes
same-long : (l w : ℕ) → ltb frame_most (l - w + 6) ≡ ltb (frame_most - 6 + w) l
same-long l w = elim (dec_lt frame_most (l - w + 6)) [
  | yes p ↦ lt-ltb _ _ p ∙ sym (lt-ltb (frame_most - 6 + w) l (omega arith))
  | no p ↦ le-ltb frame_most (l - w + 6) (omega arith) ∙ sym (le-ltb (frame_most - 6 + w) l (omega arith))
]

-- 4: header and trailer together
same-short : (k : Trailer) (f : List ℕ) → ltb (length f) (type_at f + 2 + width_of k) ≡ prp_short k f
unfolding type_at
same-short k f = go (has_vlan f) (ltb (length f) (14 + width_of k)) refl
  where
    go : (v b : Bool) → ltb (length f) (14 + width_of k) ≡ b → ltb (length f) (cond v 16 12 + 2 + width_of k) ≡ b || (v && ltb (length f) (18 + width_of k))
    go true true e = lt-ltb (length f) (18 + width_of k) (omega (arith, ltb-true (length f) (14 + width_of k) e))
    go true false e = refl
    go false true e = e
    go false false e = e

-- ---- the calls say what the first check of their lists says

abbrev from_says : Trailer → List ℕ → Told
from_says k f = record { network = network_of (lan_at f (end_at k f)); number = number_at f (end_at k f); length = length f + 6 - width_of k }

from_first : (k : Trailer) (f out : List ℕ) → (from_prp k f out).said ≡ first_of (from_checks k f out) (from_says k f)
unfolding from_prp turn_into from_of from_checks first_of
from_first k f out =
    rw (sym (same-long (length f) (width_of k)), sym (same-short k f))
    (go (ltb frame_most (length f - width_of k + 6)) (ltb (length f) (type_at f + 2 + width_of k)) refl (is_tagged f) (wears k f))
  where
    turned : Said Turn
    turned = answers (from_turn k f)

    go : (long short : Bool) → ltb (length f) (type_at f + 2 + width_of k) ≡ short → (carries has : Bool)
        → (turn_into out (cond long (refused LONG) (cond short (refused SHORT) (cond carries (refused TAGGED) (cond (not has) (refused TRAILER) turned))))).said
        ≡ cond long (refused LONG) (cond short (refused SHORT) (cond carries (refused TAGGED) (cond (not has) (refused TRAILER) (cond (ltb (length out) (length f + 6 - width_of k)) (refused ROOM) (answers (from_says k f))))))
    go true short e carries has = refl
    go false true e carries has = refl
    go false false e true has = refl
    go false false e false false = refl
    go false false e false true =
        let room : type_at f + 2 + width_of k ≤ length f = ltb-false _ _ e in
        let l : length (tagged (body_of k f) (number_at f (end_at k f))) ≡ length f + 6 - width_of k = from-length k f room (number_at f (end_at k f)) ∙ omega arith in
        rw l (picks-said (ltb (length out) (length f + 6 - width_of k)) (from_says k f) out (overlay (tagged (body_of k f) (number_at f (end_at k f))) out))

abbrev to_says : Trailer → (network : ℕ) → List ℕ → Told
to_says k w f = record { network = w; number = number_in f; length = length f - 6 + width_of k }

to-first : (k : Trailer) (w : ℕ) (f out : List ℕ) → (to_prp k w f out).said ≡ first_of (to_checks k w f out) (to_says k w f)
unfolding to_prp turn_into to_of to_as_read read_of to_checks first_of tag_short
to-first k w f out = go (ltb 1 w) (ltb frame_most (length f)) (head_short f) refl (is_tagged f) (ltb (length f) (type_at f + 8)) refl (head_short (untagged f))
  where
    tag : Said Tag
    tag = answers (record { header = header_of f; number = number_in f })

    turned : Said Turn
    turned = answers (to_turn k w (number_in f) f)

    go : (bad long short : Bool) → head_short f ≡ short → (carries cut : Bool) → ltb (length f) (type_at f + 8) ≡ cut → (bare : Bool)
        → (turn_into out (cond bad (refused NETWORK) (to_as_read k w f (cond long (refused LONG) (cond short (refused SHORT) (cond (not carries) (refused UNTAGGED) (cond (carries && cut) (refused SHORT) tag))))))).said
        ≡ cond bad (refused NETWORK) (cond long (refused LONG) (cond (short || (carries && cut)) (refused SHORT) (cond (not carries) (refused UNTAGGED) (cond (head_short (untagged f)) (refused SHORT) (cond (ltb (length out) (length f - 6 + width_of k)) (refused ROOM) (answers (to_says k w f)))))))
    go true long short e carries cut c bare = refl
    go false true short e carries cut c bare = refl
    go false false true e carries cut c bare = refl
    go false false false e false cut c bare = refl
    go false false false e true true c bare = refl
    go false false false e true false c bare = whole (head_short (untagged f))
      where
        long : length (trailed k w (number_in f) (untagged f)) ≡ length f - 6 + width_of k
        long =
            let r : type_at f + 8 ≤ length f = ltb-false _ _ c in
            trailed-length k w (number_in f) (untagged f) ∙ ap (λ (l : ℕ). l + width_of k) (cut-length f (type_at f) (omega arith))

        whole : (b : Bool) → (turn_into out (cond b (refused SHORT) turned)).said
            ≡ cond b (refused SHORT) (cond (ltb (length out) (length f - 6 + width_of k)) (refused ROOM) (answers (to_says k w f)))
        whole true = refl
        whole false = rw long (picks-said (ltb (length out) (length f - 6 + width_of k)) (to_says k w f) out (overlay (trailed k w (number_in f) (untagged f)) out))

pub from-refused-exactly : FromRefusedExactly
from-refused-exactly k f out n = rw (from_first k f out) (first-exactly Told (from_checks k f out) (from_says k f) n)

pub to-refused-exactly : ToRefusedExactly
to-refused-exactly k w f out n = rw (to-first k w f out) (first-exactly Told (to_checks k w f out) (to_says k w f) n)

-- ---- a refusal changes nothing

keeps : (out : List ℕ) (x : Said Turn) (n : ℕ) → (turn_into out x).said ≡ refused n → (turn_into out x).bytes ≡ out
unfolding turn_into
keeps out (refused m) n e = refl
keeps out (answers t) n e =
    picks-keeps (ltb (length out) (length t.frame)) (record { network = t.network; number = t.number; length = length t.frame }) out (overlay t.frame out) n e

pub from-refused-keeps : FromRefusedKeeps
unfolding from_prp
from-refused-keeps k f out n e = keeps out (from_of k f) n e

pub to-refused-keeps : ToRefusedKeeps
unfolding to_prp
to-refused-keeps k w f out n e = keeps out (to_of k w f) n e

-- ---- the cases of the answer say different things

pub turns-coincide : TurnsCoincide
turns-coincide = coincide (Result Turned Refusal) Told said_turned (said-tells Turned)

-- ---- 14 is not among the numbers

pub never-group : NeverGroup
unfolding from_checks to_checks First
never-group k w f out = ((λ e. from ((from-refused-exactly k f out GROUP).0 e)), (λ e. to ((to-refused-exactly k w f out GROUP).0 e)))
  where
    from : First GROUP (from_checks k f out) → ⊥
    from (inl p) = omega (arith, p.1)
    from (inr (_, inl p)) = omega (arith, p.1)
    from (inr (_, inr (_, inl p))) = omega (arith, p.1)
    from (inr (_, inr (_, inr (_, inl p)))) = omega (arith, p.1)
    from (inr (_, inr (_, inr (_, inr (_, inl p))))) = omega (arith, p.1)
    from (inr (_, inr (_, inr (_, inr (_, inr p))))) = p.1

    to : First GROUP (to_checks k w f out) → ⊥
    to (inl p) = omega (arith, p.1)
    to (inr (_, inl p)) = omega (arith, p.1)
    to (inr (_, inr (_, inl p))) = omega (arith, p.1)
    to (inr (_, inr (_, inr (_, inl p)))) = omega (arith, p.1)
    to (inr (_, inr (_, inr (_, inr (_, inl p))))) = omega (arith, p.1)
    to (inr (_, inr (_, inr (_, inr (_, inr (_, inl p)))))) = omega (arith, p.1)
    to (inr (_, inr (_, inr (_, inr (_, inr (_, inr p)))))) = p.1
