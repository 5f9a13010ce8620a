-- A run in two parts: what holds of a run up to a reset, or of a run of arrivals within another. Assumes nothing.
use Prim.Native.Nat.{ℕ}
use mathlib.Core.Path.{◌≡◌, refl, ap}
use mathlib.Core.List.{List, [], ◌∷◌, ◌++◌}
use Rattle.calls.specs.Table.{Table}
use Rattle.calls.specs.Calls.{Call}
use Rattle.demands.specs.Receiver.{Receiver, run}
use Rattle.demands.specs.Seen.{Seen, seen, log}

module _ (receive : Receiver) where
  pub run-append : (t : Table) (a b : List Call) → run receive t (a ++ b) ≡ run receive (run receive t a) b
  unfolding run
  run-append t [] b = refl
  run-append t (c ∷ a) b = run-append (receive t c).table a b

  pub log-append : (i : ℕ) (t : Table) (a b : List Call)
      → log receive i t (a ++ b) ≡ log receive i t a ++ log receive i (run receive t a) b
  unfolding run log
  log-append i t [] b = refl
  log-append i t (c ∷ a) b =
      ap (λ (es : List Seen). seen i t c (receive t c) ∷ es) (log-append i (receive t c).table a b)
