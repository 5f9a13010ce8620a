-- What `event_of` is of a wide open and of another kind, by the tests that a reader makes. Assumes nothing.
use mathlib.Core.Path.{◌≡◌, ap}
use Prim.Native.Nat.{ℕ}
use mathlib.Core.List.{List}
use lib.ListN.{length, get_or}
use borrow.Author.Tests.{ne_eqb}
use Rattle.std.specs.Prelude.{Some, None}
use Rattle.event_file.specs.Records.{OPEN, CLOSE, RESET, ARRIVAL, TICK, WIDE, wide_settings_of, event_of}
use Rattle.event_file.specs.declared.reader.Settings.{Settings}
use Rattle.event_file.specs.declared.reader.Event.TheVariants.{Open}

module _ (b : List ℕ) where
  pub is_wide : {s : Settings} → get_or b 0 0 ≡ WIDE → length b ≡ 14 → s ≡ wide_settings_of b → Some (Open s) ≡ event_of b
  unfolding event_of
  is_wide k h e = simp (k, h) (ap (λ (s : Settings). Some (Open s)) e)

  pub not_wide : get_or b 0 0 ≡ WIDE → (length b ≡ 14 → ⊥) → None ≡ event_of b
  unfolding event_of
  not_wide k h = simp (k, ne_eqb _ _ h)

  pub unknown : (get_or b 0 0 ≡ OPEN → ⊥) → (get_or b 0 0 ≡ CLOSE → ⊥) → (get_or b 0 0 ≡ RESET → ⊥) → (get_or b 0 0 ≡ ARRIVAL → ⊥) → (get_or b 0 0 ≡ TICK → ⊥) → (get_or b 0 0 ≡ WIDE → ⊥) → None ≡ event_of b
  unfolding event_of
  unknown k1 k2 k3 k4 k5 k6 = simp (ne_eqb _ _ k1, ne_eqb _ _ k2, ne_eqb _ _ k3, ne_eqb _ _ k4, ne_eqb _ _ k5, ne_eqb _ _ k6)
