-- Keys and the plain search. Assumes nothing.
use Prim.Native.Nat.{ℕ, zero, suc, ◌≤◌, ◌<◌}
use mathlib.Core.Path.{◌≡◌, refl, sym, ◌∙◌}
use mathlib.Core.Bool.{Bool, true, false, false≢true, beq}
use mathlib.Core.List.{[], ◌∷◌}
use native.Mathlib.Nat.{le_of_suc-le-suc}
use native.Mathlib.Decide.{dec_lt}
use native.Mathlib.Omega.{arith}
use lib.ListN.{length}
use borrow.Author.Tests.{lt-ltb, eq-eqb}
use Rattle.calls.specs.Table.{Table, at, search, some_slot, has_key, of_links, hears}
use Rattle.calls.proofs.Lowest.{lowest-found, none_passes}
use Rattle.record.specs.declared.Stream.{Stream}
use Rattle.record.specs.Words as words
use Rattle.calls.specs.declared.Key.{Key}
use Rattle.index.specs.Index.{key_of, keyed, used}
use Rattle.stream.proofs.Logic.{tests}

key-path : {a b : Key} → a.dest ≡ b.dest → a.vlan ≡ b.vlan → a.link ≡ b.link → a ≡ b
key-path p q r = λ i. record { dest = p i; vlan = q i; link = r i }

-- THE TWO LAWS OF A KEY: a slot in use has its own key, and no other.
pub key-own : (s : Stream) → used s ≡ true → keyed (key_of s) s ≡ true
unfolding hears has_key
key-own s u = rw (u, eq-eqb s.vlan s.vlan refl, eq-eqb s.dest s.dest refl) (same (of_links s))
  where
    same : (b : Bool) → beq b b ≡ true
    same true = refl
    same false = refl

pub key-only : (k : Key) (s : Stream) → keyed k s ≡ true → (used s ≡ true) × (key_of s ≡ k)
unfolding hears has_key
key-only k s h = let p = simp tests at h in (p.0.0.0, key-path p.0.0.1 p.0.1 p.1)

-- Beyond the table no slot has a key.
pub beyond : (k : Key) (t : Table) (i : ℕ) → length t ≤ i → keyed k (at t i) ≡ false
unfolding hears has_key words.yes
beyond k [] i b = refl
beyond k (s ∷ t) zero b = absurd (omega arith)
beyond k (s ∷ t) (suc i) b = beyond k t i (le_of_suc-le-suc b)

pub within : (k : Key) (t : Table) (i : ℕ) → keyed k (at t i) ≡ true → i < length t
unfolding hears has_key words.yes
within k [] i h = absurd (false≢true h)
within k (s ∷ t) zero h = omega arith
within k (s ∷ t) (suc i) h = let p : i < length t = within k t i h in omega arith

-- What the search finds passes the test, and what passes is not below what it finds.
some : (p : Stream → Bool) (t : Table) → search p t < length t → some_slot p t ≡ true
unfolding some_slot
some p t b = lt-ltb _ _ b

pub found : (p : Stream → Bool) (t : Table) → search p t < length t → p (at t (search p t)) ≡ true
found p t b = (lowest-found p t (some p t b)).1

pub lowest : (p : Stream → Bool) (t : Table) (i : ℕ) → i < length t → p (at t i) ≡ true → search p t ≤ i
lowest p t i b h = elim (dec_lt i (search p t)) [
  | yes l ↦ absurd (false≢true (sym (none l (some_slot p t) refl) ∙ h))
  | no l ↦ omega (arith, l)
]
  where
    none : i < search p t → (s : Bool) → some_slot p t ≡ s → p (at t i) ≡ false
    none l true e = (lowest-found p t e).2 i l
    none l false e = none_passes p t e i b

pub at_most : (p : Stream → Bool) (t : Table) → search p t ≤ length t
unfolding search
at_most p [] = omega arith
at_most p (s ∷ t) = go (p s) refl (at_most p t)
  where
    go : (v : Bool) → p s ≡ v → search p t ≤ length t → search p (s ∷ t) ≤ length (s ∷ t)
    go true e q = rw e (omega arith)
    go false e q = rw e (omega arith)
