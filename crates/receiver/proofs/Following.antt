-- Order 9: the steps of following are following. Assumes nothing.
use Prim.Native.Nat.{ℕ, zero, suc, ◌+◌, ◌-◌, ◌%◌, ◌≤◌, ◌<◌}
use mathlib.Core.Path.{◌≡◌, refl, ap, sym, ◌∙◌}
use mathlib.Core.Bool.{Bool, true, false, cond}
use native.Mathlib.Decide.{dec_lt}
use native.Mathlib.Omega.{arith}
use lib.ListN.{length, get_or}
use denote.Ref.{Bor}
use mathlib.Core.List.{[]}
use Rattle.std.specs.Option.{unwrap_or, option_map}
use Rattle.record.specs.declared.Stream.{Stream}
use Rattle.receiver.proofs.Lists.{some_and}
use borrow.Author.Tests.{le-leb, lt-ltb, le-ltb, lt-leb}
use Rattle.calls.specs.Table.{Table, at, blank, hears}
use Rattle.std.specs.Prelude.{Option, Some, None}
use Rattle.calls.specs.declared.Key.{Key}
use Rattle.index.specs.Index.{keyed, Index, places, home, named, walk, follow}
use Rattle.receiver.specs.Seek.{name_in, named_at, place_as}
use Rattle.index.proofs.Search.{beyond, within}
use Rattle.receiver.proofs.Lists.{get_d_past}

module _ (ix : Index) (from k : ℕ) where
  pub name-past : places ≤ k → None ≡ named_at ix from k
  unfolding named_at
  name-past h = rw (le-leb places k h)

  pub name-beyond : k < places → length ix ≤ (from + k) % places → None ≡ named_at ix from k
  unfolding named_at
  name-beyond l b = rw (lt-leb places k l, get_d_past ix ((from + k) % places) 0 b)

  pub name-empty : {x : ℕ} → k < places → x ≡ get_or ix ((from + k) % places) 0 → x ≡ 0 → None ≡ named_at ix from k
  unfolding named_at
  name-empty l e z = rw (lt-leb places k l, sym e ∙ z)

  pub name-slot : {x : ℕ} → k < places → x ≡ get_or ix ((from + k) % places) 0 → 0 < x → Some (x - 1) ≡ named_at ix from k
  unfolding named_at
  name-slot {x} l e z = go (get_or ix ((from + k) % places) 0) refl
    where
      go : (v : ℕ) → get_or ix ((from + k) % places) 0 ≡ v → Some (x - 1) ≡ named_at ix from k
      go zero q = absurd (omega (arith, e, q, z))
      go (suc i) q = let f : x - 1 ≡ i = omega (arith, e, q) in rw (lt-leb places k l, q) (ap Some f)

-- beyond the table no slot has a key
pub not_beyond : (dest vlan : ℕ) (link : Bool) (t : Table) (i : ℕ) → length t ≤ i → false ≡ hears link dest vlan (get_or t i blank)
not_beyond dest vlan link t i b = sym (beyond (record { dest = dest; vlan = vlan; link = link }) t i b)

-- the test of a record that is there, and of none
pub keyed-made : (key : Key) (o : Option (Bor Stream))
    → some_and (λ x. hears key.link key.dest key.vlan x.now) o ≡ hears key.link key.dest key.vlan (unwrap_or (option_map (λ x. x.now) o) blank)
keyed-made key None = not_beyond key.dest key.vlan key.link [] 0 (omega arith)
keyed-made key (Some x) = refl

-- What is left to follow from the k-th place on comes to what all comes to.
abbrev pub Left-of : Index → Table → Key → (from k : ℕ) → Type 0
Left-of ix t key from k = (k ≤ places) × (walk ix t key (places - k) (from + k) ≡ follow ix t key)

module _ (ix : Index) (t : Table) (key : Key) (from : ℕ) where
  pub all_left : from ≡ home key → Left-of ix t key from 0
  unfolding follow
  all_left e = (omega arith, ap (walk ix t key places) (let z : from + 0 ≡ home key = omega (arith, e) in z))

  place_none : place_as t (length t) ≡ None
  unfolding place_as
  place_none = rw (le-ltb (length t) (length t) (omega arith)) refl

  place-slot : (i : ℕ) → i < length t → place_as t i ≡ Some i
  unfolding place_as
  place-slot i l = rw (lt-ltb i (length t) l) refl

  step : (k : ℕ) → k < places → walk ix t key (places - k) (from + k) ≡ named t key (get_or ix ((from + k) % places) 0) (walk ix t key (places - suc k) (suc (from + k)))
  unfolding walk
  step k l = let e : places - k ≡ suc (places - suc k) = omega (arith, l) in rw e refl

  -- what a place says, as facts
  empty-here : (k : ℕ) → k < places → None ≡ named_at ix from k → get_or ix ((from + k) % places) 0 ≡ 0
  unfolding named_at
  empty-here k l e = go (get_or ix ((from + k) % places) 0) refl (rw (lt-leb places k l) at e)
    where
      go : (v : ℕ) → get_or ix ((from + k) % places) 0 ≡ v → None ≡ name_in (get_or ix ((from + k) % places) 0) → get_or ix ((from + k) % places) 0 ≡ 0
      go zero q f = q
      go (suc i) q f = absurd (let g : None ≡ Some i = rw q at f in cc)

  no_name : (r : ℕ) → named t key 0 r ≡ length t
  unfolding named
  no_name r = refl

  no-places : (p : ℕ) → walk ix t key 0 p ≡ length t
  unfolding walk
  no-places p = refl

  pub none_left : (k : ℕ) → Left-of ix t key from k → None ≡ named_at ix from k → None ≡ place_as t (follow ix t key)
  none_left k f e = elim (dec_lt k places) [
    | yes l ↦ ended (step k l ∙ ap (λ (v : ℕ). named t key v (walk ix t key (places - suc k) (suc (from + k)))) (empty-here k l e) ∙ no_name _)
    | no l ↦ ended (ap (λ (m : ℕ). walk ix t key m (from + k)) (let a : k ≤ places = f.0 in let z : places - k ≡ 0 = omega (arith, a, l) in z) ∙ no-places _)
  ]
    where
      ended : walk ix t key (places - k) (from + k) ≡ length t → None ≡ place_as t (follow ix t key)
      ended w = sym (ap (place_as t) (sym f.1 ∙ w) ∙ place_none)

  -- and behind all places
  pub none-left : (k : ℕ) → Left-of ix t key from k → places ≤ k → None ≡ place_as t (follow ix t key)
  none-left k f h = none_left k f (name-past ix from k h)

pub is-place : (ix : Index) (from k i : ℕ) → Some i ≡ named_at ix from k → k < places
unfolding named_at
is-place ix from k i e = elim (dec_lt k places) [
  | yes l ↦ l
  | no l ↦ absurd (let a : places ≤ k = omega (arith, l) in let g : Some i ≡ None = rw (le-leb places k a) at e in cc)
]

slot-here : (ix : Index) (from k i : ℕ) → Some i ≡ named_at ix from k → get_or ix ((from + k) % places) 0 ≡ suc i
unfolding named_at
slot-here ix from k i e = go (get_or ix ((from + k) % places) 0) refl (rw (lt-leb places k (is-place ix from k i e)) at e)
  where
    go : (v : ℕ) → get_or ix ((from + k) % places) 0 ≡ v → Some i ≡ name_in (get_or ix ((from + k) % places) 0) → get_or ix ((from + k) % places) 0 ≡ suc i
    go zero q f = absurd (let g : Some i ≡ None = rw q at f in cc)
    go (suc j) q f = let g : Some i ≡ Some j = rw q at f in let h : i ≡ j = cc in q ∙ ap suc (sym h)

module _ (ix : Index) (t : Table) (key : Key) (from k i : ℕ) (f : Left-of ix t key from k) (e : Some i ≡ named_at ix from k) where
  named_here : follow ix t key ≡ cond (keyed key (at t i)) i (walk ix t key (places - suc k) (suc (from + k)))
  unfolding named
  named_here = sym f.1 ∙ step ix t key from k (is-place ix from k i e) ∙ ap (λ (v : ℕ). named t key v (walk ix t key (places - suc k) (suc (from + k)))) (slot-here ix from k i e)

  pub hit : {r : Bool} → r ≡ hears key.link key.dest key.vlan (get_or t i blank) → r ≡ true → Some i ≡ place_as t (follow ix t key)
  hit said y =
      let h : keyed key (at t i) ≡ true = sym said ∙ y in
      let w : follow ix t key ≡ i = named_here ∙ ap (λ (b : Bool). cond b i (walk ix t key (places - suc k) (suc (from + k)))) h in
      sym (ap (place_as t) w ∙ place-slot ix t key from i (within key t i h))

  pub missed : {r : Bool} → r ≡ hears key.link key.dest key.vlan (get_or t i blank) → r ≡ false → Left-of ix t key from (k + 1)
  missed said y =
      let l : k < places = is-place ix from k i e in
      let w : follow ix t key ≡ walk ix t key (places - suc k) (suc (from + k)) = named_here ∙ ap (λ (b : Bool). cond b i (walk ix t key (places - suc k) (suc (from + k)))) (sym said ∙ y) in
      let a : places - (k + 1) ≡ places - suc k = omega arith in
      let b : from + (k + 1) ≡ suc (from + k) = omega arith in
      (omega (arith, l), (λ j. walk ix t key (a j) (b j)) ∙ sym w)
