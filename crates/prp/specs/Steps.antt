-- What the code knows between its steps: its inner functions ask for it, and no public contract and no law speaks of it.
-- Assumes nothing.
use Rattle.std.specs.Prelude.{ℕ, ◌+◌, ◌≤◌, ◌≡◌, false, List, length}
use Rattle.refusal.specs.Checks.Said.{answers}
use Rattle.record.specs.Sizes.{untagged_most}
use Rattle.frame.specs.Frame.{type_at, is_tagged, header_of, read_of}
use Rattle.prp.specs.Prp.{Trailer, width_of, end_at}

-- From PRP, before the trailer is looked at: 3, 4 and 13 are passed.
pub record Headed (k : Trailer) (f : List ℕ) (at end : ℕ) : Type 0 where
  pub here : at ≡ type_at f
  pub whole : at + 2 + width_of k ≤ length f
  pub there : end ≡ end_at k f
  pub few : end ≤ untagged_most
  pub bare : is_tagged f ≡ false

-- To PRP, behind the reader: 2, 3, 4 and 5 are passed.
pub record HasTag (f : List ℕ) (at number network : ℕ) : Type 0 where
  pub known : network ≤ 1
  pub here : at ≡ type_at f
  pub read : read_of f ≡ answers (record { header = header_of f; number = number })
