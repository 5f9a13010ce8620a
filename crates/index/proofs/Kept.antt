-- Order 9: what the calls do to the agreement. Assumes nothing.
use Prim.Native.Nat.{ℕ, zero, suc, ◌≤◌, ◌%◌}
use mathlib.Core.Path.{◌≡◌, refl, ap, sym, ◌∙◌}
use mathlib.Core.Logic.{◌↔◌, inl, inr}
use mathlib.Core.Bool.{Bool, true, false, and-eq-true_iff}
use mathlib.Core.List.{[], ◌∷◌, map}
use native.Mathlib.Omega.{arith}
use lib.Dec.{eqb}
use lib.ListN.{length, get_or, set, length-set}
use borrow.Author.Tests.{eqb-true, eq-eqb, ltb-false}
use Rattle.refusal.specs.Checks.{First}
use Rattle.refusal.specs.Checks.Said.{refused}
use Rattle.record.specs.declared.Stream.{Stream}
use Rattle.record.specs.Sizes.{slots_most, link_rule}
use Rattle.stream.specs.Record.{lawful, closed}
use Rattle.stream.specs.Decisions.{decided, reset, expires, ticked}
use Rattle.calls.specs.Table.{Table, at, has_key, of_links, hears, search}
use Rattle.calls.specs.Calls.{Act, refuse, arrive, opens, closes, resets, ticks, after, answer}
use Rattle.calls.specs.declared.Key.{Key}
use Rattle.index.specs.Index.{key_of, keyed, used, Index, places, home, named, walk, follow, Agrees, agrees, indexed, rebuilt}
use Rattle.index.specs.Indexed.{guarded, index_after, rebuild_checks, rebuilt_by}
use Rattle.index.specs.Laws.{RebuiltAgrees, AsWithout, IndexedDetermined}
use Rattle.index.proofs.Agree.{agrees-iff}
use Rattle.index.proofs.Rebuild.{rebuilt-size, rebuilt-agrees}
use Rattle.index.proofs.Guard.{same-act}

-- The same keys in use: what arrivals, ticks and resets leave of a table.
pub data Alike : Table → Table → Type 0 where
  ends : Alike [] []
  next : (s u : Stream) {t v : Table} → used s ≡ used u → key_of s ≡ key_of u → Alike t v → Alike (s ∷ t) (u ∷ v)

has-alike : (k : Key) (s u : Stream) → used s ≡ used u → key_of s ≡ key_of u → keyed k s ≡ keyed k u
unfolding hears has_key of_links
has-alike k s u e f =
    let d : s.dest ≡ u.dest = ap (λ (x : Key). x.dest) f in
    let v : s.vlan ≡ u.vlan = ap (λ (x : Key). x.vlan) f in
    let l : eqb s.rule link_rule ≡ eqb u.rule link_rule = ap (λ (x : Key). x.link) f in
    rw (e, d, v, l)

at-alike : (k : Key) {t v : Table} → Alike t v → (i : ℕ) → keyed k (at t i) ≡ keyed k (at v i)
at-alike k ends i = refl
at-alike k (next s u e f a) zero = has-alike k s u e f
at-alike k (next s u e f a) (suc i) = at-alike k a i

pub length-alike : {t v : Table} → Alike t v → length t ≡ length v
length-alike ends = refl
length-alike (next s u e f a) = ap suc (length-alike a)

pub search-alike : (k : Key) {t v : Table} → Alike t v → search (keyed k) t ≡ search (keyed k) v
unfolding search
search-alike k ends = refl
search-alike k (next s u e f a) = rw (has-alike k s u e f, search-alike k a) refl

named-alike : (k : Key) {t v : Table} → Alike t v → (x r : ℕ) → named t k x r ≡ named v k x r
unfolding named
named-alike k a zero r = length-alike a
named-alike k a (suc i) r = rw (at-alike k a i) refl

pub walk-alike : (ix : Index) (k : Key) {t v : Table} → Alike t v → (n p : ℕ) → walk ix t k n p ≡ walk ix v k n p
unfolding walk
walk-alike ix k a zero p = length-alike a
walk-alike ix k a (suc n) p = rw (walk-alike ix k a n (suc p)) (named-alike k a (get_or ix (p % places) 0) _)

pub agrees-alike : (ix : Index) {t v : Table} → Alike t v → Agrees ix t → Agrees ix v
unfolding follow
agrees-alike ix a g k = sym (walk-alike ix k a places (home k)) ∙ g k ∙ search-alike k a

pub alike_same : (t : Table) → Alike t t
alike_same [] = ends
alike_same (s ∷ t) = next s s refl refl (alike_same t)

pub alike_set : (t : Table) (i : ℕ) (u : Stream) → used (at t i) ≡ used u → key_of (at t i) ≡ key_of u → Alike t (set t i u)
alike_set [] i u e f = ends
alike_set (s ∷ t) zero u e f = next s u e f (alike_same t)
alike_set (s ∷ t) (suc i) u e f = next s s refl refl (alike_set t i u e f)

pub alike-map : (f : Stream → Stream) (t : Table) → ((s : Stream) → used s ≡ used (f s)) → ((s : Stream) → key_of s ≡ key_of (f s)) → Alike t (map f t)
alike-map f [] a b = ends
alike-map f (s ∷ t) a b = next s (f s) (a s) (b s) (alike-map f t a b)

pub indexed-is : (ix : Index) (t : Table) → (indexed ix t ≡ true) ↔ ((length ix ≡ places) × Agrees ix t)
unfolding indexed
indexed-is ix t = (
  λ h. (let p = (and-eq-true_iff (eqb (length ix) places) (agrees ix t)).0 h in (eqb-true _ _ p.0, (agrees-iff ix t).0 p.1)),
  λ p. (and-eq-true_iff (eqb (length ix) places) (agrees ix t)).1 (eq-eqb _ _ p.0, (agrees-iff ix t).1 p.1),
)

-- The index stays good where the keys in use stay.
stays-alike : (ix : Index) (t v : Table) → Alike t v → indexed ix t ≡ true → indexed ix v ≡ true
stays-alike ix t v a h = let p = (indexed-is ix t).0 h in (indexed-is ix v).1 (p.0, agrees-alike ix a p.1)

pub rebuilt-good : RebuiltAgrees
rebuilt-good v l = (indexed-is (rebuilt v) v).1 (rebuilt-size v (omega arith), rebuilt-agrees v (omega arith))

decided-used : (s : Stream) (n w : ℕ) → used s ≡ used (decided s n w)
unfolding decided
decided-used s n w = refl

decided-key : (s : Stream) (n w : ℕ) → key_of s ≡ key_of (decided s n w)
unfolding decided of_links
decided-key s n w = refl

ticked-used : (s : Stream) → used s ≡ used (ticked s)
unfolding ticked reset
ticked-used s = go (expires s) refl (lawful s) refl
  where
    go : (b : Bool) → expires s ≡ b → (c : Bool) → lawful s ≡ c → used s ≡ used (ticked s)
    go true e c q = rw e
    go false e true q = rw (e, q)
    go false e false q = rw (e, q)

ticked-key : (s : Stream) → key_of s ≡ key_of (ticked s)
unfolding ticked reset of_links
ticked-key s = go (expires s) refl (lawful s) refl
  where
    go : (b : Bool) → expires s ≡ b → (c : Bool) → lawful s ≡ c → key_of s ≡ key_of (ticked s)
    go true e c q = rw e
    go false e true q = rw (e, q)
    go false e false q = rw (e, q)

pub both : (ix : Index) (t : Table) (a : Act) → length t ≤ slots_most → indexed ix t ≡ true → indexed (index_after ix t a) (after t a) ≡ true
unfolding index_after after reset of_links
both ix t (refuse n) l h = h
both ix t (arrive i number network rank bare) l h =
    stays-alike ix t _ (alike_set t i (decided (at t i) number network) (decided-used (at t i) number network) (decided-key (at t i) number network)) h
both ix t (opens i s) l h = rebuilt-good (set t i s) (let e = length-set t i s in omega arith)
both ix t (closes i) l h = rebuilt-good (after t (closes i)) (let e = length-set t i (closed (at t i)) in omega arith)
both ix t (resets i) l h = stays-alike ix t _ (alike_set t i (reset (at t i)) refl refl) h
both ix t ticks l h = stays-alike ix t _ (alike-map ticked t ticked-used ticked-key) h

kept : (ix : Index) (t : Table) (a : Act) (n : ℕ) → answer t a ≡ refused n → (after t a ≡ t) × (index_after ix t a ≡ ix)
unfolding answer after index_after
kept ix t (refuse m) n e = (refl, refl)
kept ix t (arrive i number network rank bare) n e = absurd (let z : ◌≡◌ {A = ℕ} 0 1 = cc in omega arith)
kept ix t (opens i s) n e = absurd (let z : ◌≡◌ {A = ℕ} 0 1 = cc in omega arith)
kept ix t (closes i) n e = absurd (let z : ◌≡◌ {A = ℕ} 0 1 = cc in omega arith)
kept ix t (resets i) n e = absurd (let z : ◌≡◌ {A = ℕ} 0 1 = cc in omega arith)
kept ix t ticks n e = absurd (let z : ◌≡◌ {A = ℕ} 0 1 = cc in omega arith)

pub as-without : AsWithout
as-without ix t c = record {
  same = same-act ix t c;
  both = λ h l. both ix t (guarded ix t c) (ltb-false slots_most (length t) l) h;
  kept = λ n e. kept ix t (guarded ix t c) n e;
}

pub indexed-determined : IndexedDetermined
indexed-determined ix t c r s m n i = record {
  said = (m.said ∙ sym n.said) i;
  table = (m.table ∙ sym n.table) i;
  index = (m.index ∙ sym n.index) i;
}

-- a rebuild that is refused changes no byte
pub refused-rebuilt : (ix : Index) (t : Table) (n : ℕ) → First n (rebuild_checks ix t) → rebuilt_by ix t ≡ ix
unfolding First rebuild_checks rebuilt_by
refused-rebuilt ix t n (inl p) = rw p.0 refl
refused-rebuilt ix t n (inr (a, inl p)) = rw (a, p.0) refl
refused-rebuilt ix t n (inr (a, inr p)) = absurd p.1
