-- Document 02, order 10, by computing: the cases of the rule, runs that meet what `Links` asks for, and runs that show what the rule
-- as it is ordered does not give. Assumes nothing.
use Rattle.std.specs.Prelude.{ℕ, ◌≡◌, Bool, true, false, ◌||◌, List, [], ◌∷◌, map, eqb}
use Rattle.std.proofs.Math.Option.{none}
use Rattle.record.specs.declared.Stream.{Stream}
use Rattle.std.specs.Prelude.{if◌then◌else◌}
use Rattle.record.specs.Sizes.{link_rule}
use Rattle.stream.specs.Record.{opened}
use Rattle.stream.specs.Decisions.{Verdict, up, duplicate, is_up, verdict, decided, expires, ticked}
use Rattle.links.specs.Links.{link_number, ups, all_within, rises, all_apart, all_follow}

-- A fresh virtual link: L = 2, R = 3.
unfoldable pub link : Stream
link = opened 7 0 link_rule 2 3

-- ---- the cases

-- A number on the fresh stream, or behind another that was handed up, and the verdict on it.
pub data Case : Type 0 where
  first : (number : ℕ) → Verdict → Case
  behind : (last number : ℕ) → Verdict → Case

unfoldable pub judged : Case → Case
judged (first n v) = first n (verdict link n)
judged (behind last n v) = behind last n (verdict (decided link last 0) n)

unfoldable pub cases : List Case
cases =
    first 0 up
    ∷ first 255 up
    ∷ behind 255 1 up
    ∷ behind 255 127 up
    ∷ behind 255 128 duplicate
    ∷ behind 255 255 duplicate
    ∷ behind 1 255 duplicate
    ∷ behind 1 2 up
    ∷ behind 1 128 up
    ∷ behind 1 129 duplicate
    ∷ behind 1 0 up
    ∷ behind 127 0 up
    ∷ behind 128 0 up
    ∷ behind 255 0 up
    ∷ behind 0 0 duplicate
    ∷ behind 0 1 up
    ∷ behind 0 127 up
    ∷ behind 0 128 duplicate
    ∷ behind 0 255 duplicate
    ∷ []

abbrev pub LinkCases : Type 0
LinkCases = map judged cases ≡ cases

-- ---- runs

-- An arrival on network A or B and the verdict on it; a tick, and whether it resets the stream.
pub data Line : Type 0 where
  A B : (number : ℕ) → Verdict → Line
  tick : (reset : Bool) → Line

-- The lines of the same arrivals and ticks as the record decides them.
unfoldable pub told : Stream → List Line → List Line
told s [] = []
told s (A n v ∷ ls) = A n (verdict s n) ∷ told (decided s n 0) ls
told s (B n v ∷ ls) = B n (verdict s n) ∷ told (decided s n 1) ls
told s (tick r ∷ ls) = tick (expires s) ∷ told (ticked s) ls

-- The numbers that arrive in a run, and those handed up.
unfoldable pub arrived_in : List Line → List ℕ
arrived_in [] = []
arrived_in (A n v ∷ ls) = n ∷ arrived_in ls
arrived_in (B n v ∷ ls) = n ∷ arrived_in ls
arrived_in (tick r ∷ ls) = arrived_in ls

unfoldable pub up_in : List Line → List ℕ
up_in [] = []
up_in (A n v ∷ ls) = if is_up v then n ∷ up_in ls else up_in ls
up_in (B n v ∷ ls) = if is_up v then n ∷ up_in ls else up_in ls
up_in (tick r ∷ ls) = up_in ls

-- Of a list of numbers, those that stand there before, and those that do not stand in another, each once.
unfoldable pub among : ℕ → List ℕ → Bool
among n [] = false
among n (m ∷ ms) = eqb n m || among n ms

unfoldable pub repeated : (before numbers : List ℕ) → List ℕ
repeated bs [] = []
repeated bs (n ∷ ns) = if among n bs then n ∷ repeated bs ns else repeated (n ∷ bs) ns

unfoldable pub missing : (others numbers : List ℕ) → List ℕ
missing os [] = []
missing os (n ∷ ns) = if among n os then missing os ns else n ∷ missing (n ∷ os) ns

-- A run of the fresh stream, the numbers that are handed up again in it, and those that arrive and are never handed up.
pub record Run (lines : List Line) (again never : List ℕ) : Type 0 where
  pub told : told link lines ≡ lines
  pub twice : repeated [] (up_in lines) ≡ again
  pub lost : missing (up_in lines) (arrived_in lines) ≡ never

-- What the rule gives.
pub record RuleGives : Type 0 where
  -- A restart in lockstep: each frame once.
  pub lockstep : Run (A 99 up ∷ B 99 duplicate ∷ A 100 up ∷ B 100 duplicate ∷ A 0 up ∷ B 0 duplicate ∷ A 1 up ∷ B 1 duplicate ∷ []) [] []
  -- A restart that is kept apart from the frames before it and its 0 from those behind it, B two behind elsewhere: each frame once.
  pub apart : Run (A 99 up ∷ A 100 up ∷ B 99 duplicate ∷ B 100 duplicate ∷ A 0 up ∷ B 0 duplicate ∷ A 1 up ∷ A 2 up ∷ B 1 duplicate ∷ B 2 duplicate ∷ []) [] []
  -- A sender that is silent for R ticks before it restarts: then the 0 may be lost.
  pub pause : Run (A 100 up ∷ B 100 duplicate ∷ tick false ∷ tick false ∷ tick true ∷ A 1 up ∷ B 1 duplicate ∷ A 2 up ∷ []) [] []
  -- Network A falls silent, and B is three frames behind: what was handed up is not again, and then all is.
  pub silent : Run (A 1 up ∷ A 2 up ∷ A 3 up ∷ B 1 duplicate ∷ B 2 duplicate ∷ B 3 duplicate ∷ B 4 up ∷ B 5 up ∷ []) [] []
  -- The step from 255 to 1, with 126 lost in a row, and with B behind.
  pub ring : Run (A 254 up ∷ A 255 up ∷ B 254 duplicate ∷ A 1 up ∷ B 255 duplicate ∷ A 128 up ∷ B 1 duplicate ∷ []) [] []
  -- These frames meet the premises of `Lockstep` and `AloneAllUp`, and those of `RestartsApart`, 127 ahead and 127 behind among them.
  pub following : all_follow none (99 ∷ 100 ∷ 0 ∷ 1 ∷ 128 ∷ []) ≡ true
  pub kept-apart : all_apart none (99 ∷ 100 ∷ 99 ∷ 100 ∷ 0 ∷ 0 ∷ 1 ∷ 2 ∷ 1 ∷ 2 ∷ 129 ∷ 2 ∷ []) ≡ true
  -- Indices around the step from 255 to 1 meet those of `LinkRises`, 127 ahead and 127 behind among them.
  pub within : all_within none (254 ∷ 256 ∷ 255 ∷ 383 ∷ 256 ∷ 510 ∷ 384 ∷ 511 ∷ []) ≡ true
  pub rising : rises none (254 ∷ 256 ∷ 255 ∷ 383 ∷ 256 ∷ 510 ∷ 384 ∷ 511 ∷ []) ≡ true ∷ true ∷ false ∷ true ∷ false ∷ true ∷ false ∷ true ∷ []
  pub handed : ups link (map link_number (254 ∷ 256 ∷ 255 ∷ 383 ∷ 256 ∷ 510 ∷ 384 ∷ 511 ∷ [])) ≡ true ∷ true ∷ false ∷ true ∷ false ∷ true ∷ false ∷ true ∷ []

-- What the rule as it is ordered does not give.
pub record RuleDoesNotGive : Type 0 where
  -- A restart at a low number, B one frame behind: 100 and 0 come twice, and 1 never.
  pub one-behind : Run (A 99 up ∷ A 100 up ∷ B 99 duplicate ∷ A 0 up ∷ B 100 up ∷ A 1 duplicate ∷ B 0 up ∷ A 2 up ∷ B 1 duplicate ∷ A 3 up ∷ B 2 duplicate ∷ []) (100 ∷ 0 ∷ []) (1 ∷ [])
  -- B two frames behind: 99, 100 and 0 come twice, the old ones behind the new 0, and 1 and 2 never.
  pub two-behind : Run (A 99 up ∷ A 100 up ∷ A 0 up ∷ B 99 up ∷ A 1 duplicate ∷ B 100 up ∷ A 2 duplicate ∷ B 0 up ∷ A 3 up ∷ B 1 duplicate ∷ A 4 up ∷ B 2 duplicate ∷ []) (99 ∷ 100 ∷ 0 ∷ []) (1 ∷ 2 ∷ [])
  -- At a high number nothing is lost, and 0 comes twice, or 0 and 1.
  pub two-behind-high : Run (A 199 up ∷ A 200 up ∷ A 0 up ∷ B 199 duplicate ∷ A 1 up ∷ B 200 duplicate ∷ A 2 up ∷ B 0 up ∷ A 3 up ∷ B 1 duplicate ∷ []) (0 ∷ []) []
  pub two_at_once : Run (A 200 up ∷ B 200 duplicate ∷ A 0 up ∷ A 1 up ∷ B 0 up ∷ B 1 up ∷ A 2 up ∷ B 2 duplicate ∷ []) (0 ∷ 1 ∷ []) []
  -- The 0 is lost on both networks behind a low number: nothing is handed up until R ticks reset the stream. Behind a high one nothing is lost.
  pub zero-lost : Run (A 99 up ∷ A 100 up ∷ A 1 duplicate ∷ B 1 duplicate ∷ tick false ∷ A 2 duplicate ∷ tick false ∷ A 3 duplicate ∷ tick true ∷ A 4 up ∷ B 4 duplicate ∷ A 5 up ∷ []) [] (1 ∷ 2 ∷ 3 ∷ [])
  pub zero-lost-high : Run (A 199 up ∷ A 200 up ∷ A 1 up ∷ A 2 up ∷ []) [] []
  -- Two restarts in a row: the second 0, the third arrival, is taken for a copy of the first.
  pub two-restarts : told link (A 0 up ∷ B 0 duplicate ∷ A 0 duplicate ∷ A 1 up ∷ []) ≡ A 0 up ∷ B 0 duplicate ∷ A 0 duplicate ∷ A 1 up ∷ []
  -- A sender that counts from 255 to 0, as in source document 000: B one behind, 0 comes twice at each such step. In lockstep it does not.
  pub counts-to-zero : Run (A 254 up ∷ A 255 up ∷ B 254 duplicate ∷ A 0 up ∷ B 255 duplicate ∷ A 1 up ∷ B 0 up ∷ A 2 up ∷ B 1 duplicate ∷ []) (0 ∷ []) []
  pub counts-in-lockstep : Run (A 255 up ∷ B 255 duplicate ∷ A 0 up ∷ B 0 duplicate ∷ A 1 up ∷ B 1 duplicate ∷ []) [] []
  -- A loses 2 and 3, and B has them later: they are never handed up, since order is kept.
  pub hole : Run (A 1 up ∷ A 4 up ∷ B 1 duplicate ∷ B 2 duplicate ∷ B 3 duplicate ∷ B 4 duplicate ∷ []) [] (2 ∷ 3 ∷ [])
  -- 127 frames lost in a row; a copy 128 frames late; a 0 that comes late.
  pub lost-in-a-row : Run (A 1 up ∷ A 129 duplicate ∷ []) [] (129 ∷ [])
  pub late : Run (A 1 up ∷ A 65 up ∷ A 129 up ∷ B 1 up ∷ []) (1 ∷ []) []
  pub late-zero : Run (A 0 up ∷ A 1 up ∷ B 0 up ∷ []) (0 ∷ []) []
  -- A copy that comes after R silent ticks is handed up again: R is too short for it.
  pub late-after-reset : Run (A 5 up ∷ tick false ∷ tick false ∷ tick true ∷ B 5 up ∷ []) (5 ∷ []) []
