-- A row of decisions: no arrival leaves the record, and one arrival more is decided first. Assumes nothing.
use Rattle.std.proofs.Common.{◌≡◌, ℕ, zero, suc, ◌+◌, ◌-◌, ◌%◌, ◌<◌, refl, arith}
use Rattle.record.specs.declared.Stream.{Stream}
use Rattle.timing_row.specs.Row.{after, in_row}

module _ (s : Stream) (number step network : ℕ) where
  pub row-none : (times : ℕ) → times ≡ 0 → in_row times s number step network ≡ s
  unfolding in_row
  row-none zero e = refl
  row-none (suc k) e = absurd (omega arith)

  pub row_first : (times : ℕ) → 0 < times
      → in_row times s number step network ≡ in_row (times - 1) (after s number network) ((number + step) % 65536) step network
  unfolding in_row
  row_first zero l = absurd (omega arith)
  row_first (suc k) l = let e : suc k - 1 ≡ k = omega arith in rw e
