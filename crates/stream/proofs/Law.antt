-- What a lawful record is, part by part. Assumes nothing.
use Rattle.std.proofs.Common.{◌≡◌, ℕ, ◌-◌, ◌≤◌, Bool, true, false, ◌&&◌, eqb, leb, sym, refl, ap, ◌∙◌, eq-eqb, eqb-true}
use mathlib.Core.Bool.{beq, and-false, false≢true}
use Rattle.std.specs.Prelude.{if◌then◌else◌}
use Rattle.record.specs.Words.{yes}
use Rattle.record.specs.Sizes.{window_least, window_most, time_least, time_most, vlan_most, vector_rule, link_rule}
use Rattle.stream.specs.History.{History, empty, is_empty, bit, within}
use Rattle.stream.specs.Record.{State, Stream, anchor_fresh, is_fresh, linked, settled, placed, shaped, lawful}
use Rattle.stream.specs.Steps.{plain, right}
use Rattle.stream.specs.Laws.{Halves}
use Rattle.stream.proofs.Logic.{tests}
use Rattle.stream.proofs.Flags.{is-no}
use Rattle.stream.proofs.Past.{is-empty, empty-bit}
use Rattle.stream.proofs.Early.{none-placed}

pub record Law (s : Stream) : Type 0 where
  pub used : yes s.used ≡ true
  pub settled : settled s ≡ true
  pub rest : s.state.remaining ≤ s.time
  pub idle : eqb s.state.remaining 0 ≡ yes s.state.any
  pub place : placed s.window s.state.early s.state.history ≡ true
  pub shape : shaped s.rule s.window s.state ≡ true

pub law : {s : Stream} → lawful s ≡ true → Law s
unfolding lawful
law {s} t =
    let p = simp tests at t in
    record { used = p.0.0.0.0.0; settled = p.0.0.0.0.1; rest = p.0.0.0.1; idle = p.0.0.1; place = p.0.1; shape = p.1 }

pub unlaw : {s : Stream} → Law s → lawful s ≡ true
unfolding lawful
unlaw {s} l = simp tests (((((l.used, l.settled), l.rest), l.idle), l.place), l.shape)

-- The settings, as facts about numbers.
pub record Sizes (s : Stream) : Type 0 where
  pub least : window_least ≤ s.window
  pub most : s.window ≤ window_most
  pub some : time_least ≤ s.time
  pub long : s.time ≤ time_most
  pub vlan : s.vlan ≤ vlan_most

pub sizes : {s : Stream} → settled s ≡ true → Sizes s
unfolding settled
sizes {s} t =
    let p = simp tests at t in
    record { least = p.0.0.1.0; most = p.0.0.1.1; some = p.0.1.0; long = p.0.1.1; vlan = p.1 }

pub size : {s : Stream} → Law s → Sizes s
size l = sizes l.settled

-- A fresh state, field by field.
pub record Fresh (t : State) : Type 0 where
  pub anchor : t.anchor ≡ anchor_fresh
  pub history : t.history ≡ empty
  pub any : yes t.any ≡ true
  pub remaining : t.remaining ≡ 0
  pub early : t.early ≡ 0

pub fresh-parts : {t : State} → is_fresh t ≡ true → Fresh t
unfolding is_fresh
fresh-parts {t} e =
    let p = simp tests at e in
    record { anchor = p.0.0.0.0; history = is-empty t.history p.0.0.0.1; any = p.0.0.1; remaining = p.0.1; early = p.1 }

-- Lawful, in the two halves that the code asks for. What is asked of n comes to n = 0 where the history is zero.
placed-none : (w n : ℕ) (h : History) → eqb n 0 ≡ true → placed w n h ≡ true
placed-none w n h e = let z : n ≡ 0 = eqb-true n 0 e in rw z (none-placed w h)

placed-empty : (w n : ℕ) (h : History) → eqb n 0 ≡ false → is_empty h ≡ true → placed w n h ≡ false
unfolding placed
placed-empty w n h e f = let z : h ≡ empty = is-empty h f in rw (z, e, empty-bit (w - 1 - n)) (and-false (leb n (w - 1)))

swap : (a b : Bool) → (a && b) ≡ (b && a)
swap true true = refl
swap true false = refl
swap false true = refl
swap false false = refl

-- p is what is asked of n, o whether n is 0, and y whether the history is zero
without : (p o y : Bool) → (o ≡ true → p ≡ true) → (o ≡ false → y ≡ true → p ≡ false) → (p && y) ≡ (o && y)
without p true y f g = rw (f refl)
without p false true f g = rw (g refl refl)
without p false false f g = and-false p

fresh-half : (p o y x : Bool) → (o ≡ true → p ≡ true) → (p && (x && y && true && true && o)) ≡ (x && (o && y))
fresh-half p true y true f = rw (f refl) (tail y)
  where
    tail : (y : Bool) → (y && true && true && true) ≡ y
    tail true = refl
    tail false = refl
fresh-half p true y false f = and-false p
fresh-half p false y true f = ap (λ (b : Bool). p && b) (and-false (y && true && true)) ∙ and-false p
fresh-half p false y false f = and-false p

-- a vector record is no virtual link
vector-linked : (rule anchor : ℕ) → eqb rule vector_rule ≡ true → linked rule anchor ≡ true
unfolding linked
vector-linked rule anchor e = let r : rule ≡ vector_rule = eqb-true rule vector_rule e in rw r

pub halves : Halves
unfolding lawful plain right shaped is_fresh
halves s =
    go (yes s.used && settled s && leb s.state.remaining s.time) (eqb s.state.remaining 0) (yes s.state.any)
    (eqb s.state.anchor anchor_fresh) (eqb s.rule vector_rule)
    (bit 0 s.state.history && within s.window s.state.history) (linked s.rule s.state.anchor) (vector-linked s.rule s.state.anchor)
  where
    h : History
    h = s.state.history

    p : Bool
    p = placed s.window s.state.early h

    o : Bool
    o = eqb s.state.early 0

    y : Bool
    y = is_empty h

    f : o ≡ true → p ≡ true
    f = placed-none s.window s.state.early h

    go : (k z a x v m i : Bool) → (v ≡ true → i ≡ true)
        → (k && beq z a && p && (if a then x && y && a && z && o else if v then m else y && i))
        ≡ (k && beq z a && (if a then x else i) && (if a then o && y else if v then m && p else o && y))
    go false z a x v m i c = refl
    go true true false x v m i c = refl
    go true false true x v m i c = refl
    go true false false x true m i c = rw (c refl) (swap p m)
    go true false false x false m true c = ap (λ (b : Bool). p && b) (swap y true) ∙ without p o y f (placed-empty s.window s.state.early h)
    go true false false x false m false c = ap (λ (b : Bool). p && b) (and-false y) ∙ and-false p
    go true true true x v m i c = fresh-half p o y x f

-- the second half of a vector record without take-any
pub vector-right : (rule window any n : ℕ) (h : History) → any ≡ 0 → rule ≡ vector_rule
    → right rule window any n h ≡ (bit 0 h && within window h && placed window n h)
unfolding right
vector-right rule window any n h a r = rw (is-no any a, eq-eqb rule vector_rule r)

pub not_plain : (s : Stream) → plain s ≡ false → lawful s ≡ false
not_plain s e = halves s ∙ rw e

pub plain-is : (s : Stream) → true ≡ yes s.used → true ≡ settled s → true ≡ leb s.state.remaining s.time
    → (z a : Bool) → eqb s.state.remaining 0 ≡ z → yes s.state.any ≡ a
    → plain s ≡ (beq z a && (if a then eqb s.state.anchor anchor_fresh else linked s.rule s.state.anchor))
unfolding plain
plain-is s u e r z a p q = rw (← u, ← e, ← r, p, q)

pub none_left : (z b : Bool) → z ≡ true → false ≡ (beq z false && b)
none_left true b e = refl
none_left false b e = absurd (false≢true e)

pub some_left : (z b : Bool) → z ≡ false → b ≡ (beq z false && b)
some_left true b e = absurd (false≢true (sym e))
some_left false b e = refl

-- the settings of a record whose first half is right
pub plain-settled : (s : Stream) → plain s ≡ true → settled s ≡ true
unfolding plain
plain-settled s t = let p = simp tests at t in p.0.0.0.1

-- A lawful record with take-any is fresh, and so is one with no ticks left.
pub idle-fresh : {s : Stream} → Law s → yes s.state.any ≡ true → is_fresh s.state ≡ true
unfolding shaped
idle-fresh {s} l a = rw a at l.shape

-- Without it, a vector record has no bit at L or above.
pub vector-within : {s : Stream} → Law s → yes s.state.any ≡ false → eqb s.rule vector_rule ≡ true → within s.window s.state.history ≡ true
unfolding shaped
vector-within {s} l a r = let p = simp tests at (rw (a, r) at l.shape) in p.1

-- and the anchor of a virtual link is a byte.
pub link-anchor : {s : Stream} → Law s → eqb s.state.any 0 ≡ true → s.rule ≡ link_rule → s.state.anchor ≤ 255
unfolding shaped linked yes
link-anchor {s} l a r = let p = simp tests at (rw (a, r) at l.shape) in p.1

pub spent : {s : Stream} → Law s → s.state.remaining ≡ 0 → is_fresh s.state ≡ true
spent {s} l z = idle-fresh l (sym l.idle ∙ eq-eqb s.state.remaining 0 z)
