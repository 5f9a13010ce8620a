-- What the lines of the exports, of the PRP lines and of the tag calls leave open: nothing. Assumes nothing.
use Prim.Native.Nat.{ℕ}
use mathlib.Core.Path.{◌≡◌, sym, ap, ◌∙◌}
use mathlib.Core.List.{List}
use Rattle.refusal.specs.Checks.{Said}
use Rattle.refusal.proofs.Checks.{said-tells}
use Rattle.frame.specs.TagCalls.{Outcome}
use Rattle.frame.specs.Laws.{Telling}
use Rattle.calls.specs.Table.{Table}
use Rattle.calls.specs.Calls.{Call, Answer, Result, Meets}
use Rattle.calls.proofs.Kept.{coincide}
use Rattle.index.specs.Index.{Index}
use Rattle.index.specs.Indexed.{Indexed, MeetsIndexed, MeetsRebuild}
use Rattle.index.proofs.Kept.{indexed-determined}
use Rattle.batch.specs.Batch.{Bundle}
use Rattle.sender.specs.Sender.{Numbered, Sends}
use Rattle.prp.specs.Prp.{said_turned}
use Rattle.std.specs.Prelude.{Result as Answered}
use Rattle.refusal.specs.declared.Refusal.{Refusal}
use Rattle.prp.specs.declared.Turned.{Turned}
use Rattle.port.specs.Sending.{sender_at}
use Rattle.shipped.specs.Exports.{PlainFields}

-- told alike, where what was said is the same
same-told : {S A : Type 0} (tell : S → A) {P Q : S → Type 0} (a b : A) (p : PlainFields tell a P) (q : PlainFields tell b Q) → p.said ≡ q.said → a ≡ b
same-told tell a b p q e = p.fields ∙ ap tell e ∙ sym q.fields

pub on-table : {A : Type 0} {tell : Said Answer → A} {t : Table} {c : Call} {a b : A} {u v : Table} {x y : List ℕ}
    → PlainFields tell a (λ s. Meets t c (record { said = s; table = u; output = x })) → PlainFields tell b (λ s. Meets t c (record { said = s; table = v; output = y }))
    → (a ≡ b) × (u ≡ v) × (x ≡ y)
on-table {t = t} {c = c} p q =
    let e = coincide t c _ _ p.given q.given in
    (same-told _ _ _ p q (ap (λ (r : Result). r.said) e), ap (λ (r : Result). r.table) e, ap (λ (r : Result). r.output) e)

pub with-index : {A : Type 0} {tell : Said Answer → A} {ix : Index} {t : Table} {c : Call} {a b : A} {u v : Table} {jx kx : Index}
    → PlainFields tell a (λ s. MeetsIndexed ix t c (record { said = s; table = u; index = jx })) → PlainFields tell b (λ s. MeetsIndexed ix t c (record { said = s; table = v; index = kx }))
    → (a ≡ b) × (u ≡ v) × (jx ≡ kx)
with-index {ix = ix} {t = t} {c = c} p q =
    let e = indexed-determined ix t c _ _ p.given q.given in
    (same-told _ _ _ p q (ap (λ (r : Indexed). r.said) e), ap (λ (r : Indexed). r.table) e, ap (λ (r : Indexed). r.index) e)

pub rebuilds : {A : Type 0} {tell : Said Answer → A} {ix : Index} {t : Table} {a b : A} {jx kx : Index}
    → PlainFields tell a (λ s. MeetsRebuild ix t s jx) → PlainFields tell b (λ s. MeetsRebuild ix t s kx) → (a ≡ b) × (jx ≡ kx)
rebuilds p q = (same-told _ _ _ p q (p.given.said ∙ sym q.given.said), p.given.index ∙ sym q.given.index)

pub no_table : {S A : Type 0} {tell : Said S → A} {o : Outcome S} {a b : A} {x y : List ℕ}
    → PlainFields tell a (λ s. record { said = s; bytes = x } ≡ o) → PlainFields tell b (λ s. record { said = s; bytes = y } ≡ o) → (a ≡ b) × (x ≡ y)
no_table {S} p q =
    let e = p.given ∙ sym q.given in
    (same-told _ _ _ p q (ap (λ (r : Outcome S). r.said) e), ap (λ (r : Outcome S). r.bytes) e)

pub batches : {A : Type 0} {tell : Bundle → A} {o : Bundle} {a b : A} {u v : Table} {x y : List ℕ}
    → PlainFields tell a (λ s. (s ≡ o) × (u ≡ s.table) × (x ≡ s.output)) → PlainFields tell b (λ s. (s ≡ o) × (v ≡ s.table) × (y ≡ s.output))
    → (a ≡ b) × (u ≡ v) × (x ≡ y)
batches p q =
    let e = p.given.0 ∙ sym q.given.0 in
    (same-told _ _ _ p q e, p.given.1 ∙ ap (λ (r : Bundle). r.table) e ∙ sym q.given.1, p.given.2 ∙ ap (λ (r : Bundle). r.output) e ∙ sym q.given.2)

pub sends : {A : Type 0} {tell : Said Numbered → A} {o : Sends} {a b : A} {m n : ℕ} {x0 x1 y0 y1 : List ℕ}
    → PlainFields tell a (λ s. record { said = s; sender = sender_at m; out0 = x0; out1 = x1 } ≡ o) → PlainFields tell b (λ s. record { said = s; sender = sender_at n; out0 = y0; out1 = y1 } ≡ o)
    → (a ≡ b) × (m ≡ n) × (x0 ≡ y0) × (x1 ≡ y1)
sends p q =
    let e = p.given ∙ sym q.given in
    (same-told _ _ _ p q (ap (λ (r : Sends). r.said) e), ap (λ (r : Sends). r.sender.next) e, ap (λ (r : Sends). r.out0) e, ap (λ (r : Sends). r.out1) e)

-- in Rattle: where an answer is known by what it says
pub outcomes : {S A : Type 0} (said : A → Said S) → Telling said → {o : Outcome S} {a b : A} {x y : List ℕ}
    → record { said = said a; bytes = x } ≡ o → record { said = said b; bytes = y } ≡ o → (a ≡ b) × (x ≡ y)
outcomes {S} said tell {a = a} {b = b} p q =
    let e = p ∙ sym q in
    (tell a b (ap (λ (r : Outcome S). r.said) e), ap (λ (r : Outcome S). r.bytes) e)

pub turneds : (r s : Answered Turned Refusal) → said_turned r ≡ said_turned s → r ≡ s
turneds r s e = said-tells _ r s e
