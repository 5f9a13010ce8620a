-- Document 02, order 3: the condition of each refusal number of a batch, in the words of the order, and their list. They do not
-- mention `comes_to`. Assumes nothing.
use Rattle.std.specs.Prelude.{ℕ, ◌≡◌, ◌↔◌, Bool, ◌||◌, List, [], ◌∷◌, ltb}
use Rattle.refusal.specs.Checks.{Check, First}
use Rattle.refusal.specs.Checks.Said.{refused}
use Rattle.refusal.specs.Numbers.{TABLE, NETWORK, BATCH}
use Rattle.calls.specs.Table.{Table}
use Rattle.calls.specs.Refusals.{many_slots, no_network}
use Rattle.batch.specs.Batch.{Batch, frames_most, runs_past, batch_of}

-- 15: "count above 32 or lengths that run past the buffer"
abbrev pub bad_frames : (count : ℕ) (frames : List ℕ) → Bool
bad_frames count s = ltb frames_most count || runs_past count s

-- "after 1 and 2"
unfoldable pub batch_checks : Table → Batch → List Check
batch_checks t b =
    record { number = TABLE; holds = many_slots t }
    ∷ record { number = NETWORK; holds = no_network b.network }
    ∷ record { number = BATCH; holds = bad_frames b.count b.frames }
    ∷ []

-- A batch is refused with n exactly if n is the first number of its list whose condition holds.
abbrev pub RefusedExactly : Type 0
RefusedExactly = (t : Table) (b : Batch) (n : ℕ) → ((batch_of t b).said ≡ refused n) ↔ First n (batch_checks t b)
