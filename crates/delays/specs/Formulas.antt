-- The formulas of docs/INTEGRATION.md for L and R. `tools/choose` is held to them (`Choices`). Assumes nothing.
use Rattle.std.specs.Prelude.{ℕ, ◌+◌, ◌*◌, ◌/◌}

-- Two indices that are sent within a time d of each other lie at most so far apart, if sends are at least T apart.
abbrev pub apart_in : (d T : ℕ) → ℕ
apart_in d T = d / T

-- The least window L. b is `apart_in J T`, or of a sender of bursts the most frames that it sends within a time J, less one; m is how
-- many are lost in a row at most. If the stream is open before its sender sends,
abbrev pub least_window : (b m : ℕ) → ℕ
least_window b m = b + m + 2

-- and if it is opened, or reset, in the middle of traffic.
abbrev pub traffic_window : (b m : ℕ) → ℕ
traffic_window b m = b + b + m + 2

-- The least reset time R, where ticks are at least tau apart.
abbrev pub least_time : (J tau : ℕ) → ℕ
least_time J tau = J / tau + 2

-- The least wait of a receiver that is started again, in ticks: as long as R.
abbrev pub least_wait : (J tau : ℕ) → ℕ
least_wait J tau = least_time J tau

-- Where ticks are at most tau_most apart: for so long a number may be compared with later ones. The numbers do not come round if
-- what is sent within it lies at most 65536 - L apart; and a sender that restarts is silent for longer than it.
abbrev pub span : (R tau_most J : ℕ) → ℕ
span R tau_most J = R * tau_most + J
