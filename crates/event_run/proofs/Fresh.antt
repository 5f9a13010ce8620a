-- An open or a close behind a rebuild is the call without an index (document 02, order 9). Assumes nothing.
use Rattle.std.proofs.Common.{◌≡◌, Bool, true, false, ltb, length, sym, refl, ap, ◌∙◌, ltb-false, eq-eqb}
use Rattle.refusal.specs.Checks.{Said}
use Rattle.record.specs.Sizes.{slots_most}
use Rattle.calls.specs.Table.{Table}
use Rattle.calls.specs.Calls.{Call, act, after, answer, out_of, Answer, Meets}
use Rattle.index.specs.Index.{Index, places, indexed, rebuilt}
use Rattle.index.specs.Indexed.{guarded, rebuilt_by, MeetsIndexed, MeetsRebuild}
use Rattle.index.proofs.Guard.{same-act}
use Rattle.index.proofs.Kept.{rebuilt-good}
use Rattle.event_file.proofs.Outputs.{Alone, left_alone}

-- a table of more than 64 slots gives 1 with and without an index; of any other the rebuilt index agrees with it
fresh-act : (ix : Index) (t : Table) (c : Call) → length ix ≡ places → guarded (rebuilt_by ix t) t c ≡ act t c
unfolding guarded act rebuilt_by
fresh-act ix t c s = go (ltb slots_most (length t)) refl
  where
    go : (a : Bool) → ltb slots_most (length t) ≡ a → guarded (rebuilt_by ix t) t c ≡ act t c
    go true p = rw p refl
    go false p =
        let e : rebuilt_by ix t ≡ rebuilt t = rw (p, eq-eqb (length ix) places s) refl in
        same-act (rebuilt_by ix t) t c (ap (λ (x : Index). indexed x t) e ∙ rebuilt-good t (ltb-false slots_most (length t) p))

-- c is a call that is lent no output: an open or a close
pub fresh_meets : (ix : Index) (t : Table) (c : Call) → length ix ≡ places → Alone c → {w : Said Answer} {jx : Index} → MeetsRebuild ix t w jx
    → {v : Said Answer} {zs : Table} {kx : Index} → MeetsIndexed jx t c (record { said = v; table = zs; index = kx }) → Meets t c (record { said = v; table = zs; output = out_of c })
fresh_meets ix t c s z m met =
    let same = ap (λ (x : Index). guarded x t c) m.index ∙ fresh-act ix t c s in
    record { said = met.said ∙ ap (answer t) same; table = met.table ∙ ap (after t) same; output = sym (left_alone t (out_of c) c z) }
