-- A call on a table that meets the documents is told, and two outcomes coincide. Assumes nothing.
use mathlib.Core.Path.{◌≡◌, ap, sym, ◌∙◌}
use Prim.Native.Nat.{ℕ}
use mathlib.Core.List.{List}
use Rattle.refusal.specs.Checks.{Said}
use Rattle.calls.specs.Table.{Table}
use Rattle.calls.specs.Calls.{Call, Answer, Meets}
use Rattle.index.specs.Index.{Index}
use Rattle.index.specs.Indexed.{MeetsIndexed, MeetsRebuild}
use Rattle.port.specs.Answers.{tell_done, MeetsInC, MeetsIndexedInC, MeetsRebuildInC, CallsCoincide, IndexedCallsCoincide, RebuildsCoincide}

pub meets-told : {A : Type 0} (tell : Said Answer → A) (t : Table) (c : Call) {r : A} {s : Said Answer} {zs : Table} {bytes : List ℕ}
    → Meets t c (record { said = s; table = zs; output = bytes }) → r ≡ tell s → MeetsInC tell t c r zs bytes
meets-told tell t c m e = record { said = e ∙ ap tell m.said; table = m.table; output = m.output }

pub indexed-told : {A : Type 0} (tell : Said Answer → A) (ix : Index) (t : Table) (c : Call) {r : A} {s : Said Answer} {zs : Table} {jx : Index}
    → MeetsIndexed ix t c (record { said = s; table = zs; index = jx }) → r ≡ tell s → MeetsIndexedInC tell ix t c r zs jx
indexed-told tell ix t c m e = record { said = e ∙ ap tell m.said; table = m.table; index = m.index }

pub rebuilds-told : (ix : Index) (t : Table) {r : ℕ} {s : Said Answer} {jx : Index} → MeetsRebuild ix t s jx → r ≡ tell_done s → MeetsRebuildInC ix t r jx
rebuilds-told ix t m e = record { said = e ∙ ap tell_done m.said; index = m.index }

pub calls-coincide : CallsCoincide
calls-coincide A tell t c a b u v x y p q = (p.said ∙ sym q.said, p.table ∙ sym q.table, p.output ∙ sym q.output)

pub indexed-calls-coincide : IndexedCallsCoincide
indexed-calls-coincide A tell ix t c a b u v x y p q = (p.said ∙ sym q.said, p.table ∙ sym q.table, p.index ∙ sym q.index)

pub rebuilds-coincide : RebuildsCoincide
rebuilds-coincide ix t a b x y p q = (p.said ∙ sym q.said, p.index ∙ sym q.index)
