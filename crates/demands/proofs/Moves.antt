-- How a record moves with what its slot sees. Assumes nothing.
use Prim.Native.Nat.{ℕ}
use mathlib.Core.Path.{◌≡◌}
use mathlib.Core.Bool.{true}
use mathlib.Core.List.{List, [], ◌∷◌}
use Rattle.record.specs.declared.Stream.{Stream}
use Rattle.record.specs.Words.{yes}
use Rattle.stream.specs.Decisions.{verdict, decided, ticked}
use Rattle.demands.specs.Seen.{Seen, arrived, tick, ended, nothing, was_reset}

abbrev pub Moves : Stream → Seen → Stream → Type 0
Moves s (arrived n v) u = (v ≡ verdict s n) × ((network : ℕ) × (u ≡ decided s n network))
Moves s (tick b) u = (b ≡ was_reset s u) × (u ≡ ticked s)
Moves s ended u = Unit {0}
Moves s nothing u = yes s.used ≡ true → u ≡ s

abbrev pub Trace : Stream → List Seen → Stream → Type 0
Trace s [] u = u ≡ s
Trace s (e ∷ es) u = (m : Stream) × Moves s e m × Trace m es u
