-- Whether a record has the key, field by field. Assumes nothing.
use mathlib.Core.Path.{◌≡◌, refl, ◌∙◌}
use Prim.Native.Nat.{ℕ}
use mathlib.Core.Bool.{Bool, true, false, not, ◌&&◌, beq}
use lib.Dec.{eqb}
use borrow.Author.Tests.{eq-eqb, ne_eqb}
use Rattle.record.specs.declared.Stream.{Stream}
use Rattle.record.specs.Words.{yes}
use Rattle.record.specs.Sizes.{link_rule}
use Rattle.calls.specs.Table.{has_key, of_links, hears}

second-fails : (x y z : Bool) → y ≡ false → false ≡ (x && y && z)
second-fails true y z e = rw e
second-fails false y z e = refl

third-fails : (x y z : Bool) → z ≡ false → false ≡ (x && y && z)
third-fails true true z e = rw e
third-fails true false z e = refl
third-fails false y z e = refl

others-hold : (x y z : Bool) → y ≡ true → z ≡ true → x ≡ (x && y && z)
others-hold true y z e f = rw (e, f)
others-hold false y z e f = refl

module _ (dest vlan : ℕ) (s : Stream) where
  pub other-dest : (s.dest ≡ dest → ⊥) → false ≡ has_key dest vlan s
  unfolding has_key
  other-dest f = second-fails (yes s.used) (eqb s.dest dest) (eqb s.vlan vlan) (ne_eqb _ _ f)

  pub other-vlan : (s.vlan ≡ vlan → ⊥) → false ≡ has_key dest vlan s
  unfolding has_key
  other-vlan f = third-fails (yes s.used) (eqb s.dest dest) (eqb s.vlan vlan) (ne_eqb _ _ f)

  pub same_key : s.dest ≡ dest → s.vlan ≡ vlan → not (eqb s.used 0) ≡ has_key dest vlan s
  unfolding has_key yes
  same_key d v = others-hold (yes s.used) (eqb s.dest dest) (eqb s.vlan vlan) (eq-eqb _ _ d) (eq-eqb _ _ v)

  -- and whether an arrival call looks at it
  pub not-heard : (link : Bool) → false ≡ has_key dest vlan s → false ≡ hears link dest vlan s
  unfolding hears
  not-heard link e = rw (← e)

  other-family : (link : Bool) → beq (of_links s) link ≡ false → false ≡ hears link dest vlan s
  unfolding hears
  other-family link e = rw e (none (has_key dest vlan s))
    where
      none : (b : Bool) → false ≡ (b && false)
      none true = refl
      none false = refl

  own-family : (link : Bool) → s.dest ≡ dest → s.vlan ≡ vlan → beq (of_links s) link ≡ true → not (eqb s.used 0) ≡ hears link dest vlan s
  unfolding hears
  own-family link d v e = same_key d v ∙ rw e (all (has_key dest vlan s))
    where
      all : (b : Bool) → b ≡ (b && true)
      all true = refl
      all false = refl

  pub link-of-none : s.rule ≡ link_rule → false ≡ hears false dest vlan s
  unfolding of_links
  link-of-none e = other-family false (rw (eq-eqb s.rule link_rule e) refl)

  pub none-of-links : (s.rule ≡ link_rule → ⊥) → false ≡ hears true dest vlan s
  unfolding of_links
  none-of-links f = other-family true (rw (ne_eqb s.rule link_rule f) refl)

  pub heard-plain : s.dest ≡ dest → s.vlan ≡ vlan → (s.rule ≡ link_rule → ⊥) → not (eqb s.used 0) ≡ hears false dest vlan s
  unfolding of_links
  heard-plain d v f = own-family false d v (rw (ne_eqb s.rule link_rule f) refl)

  pub heard-link : s.dest ≡ dest → s.vlan ≡ vlan → s.rule ≡ link_rule → not (eqb s.used 0) ≡ hears true dest vlan s
  unfolding of_links
  heard-link d v e = own-family true d v (rw (eq-eqb s.rule link_rule e) refl)
