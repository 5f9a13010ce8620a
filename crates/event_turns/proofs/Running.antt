-- A whole run hands over what document 01 says is printed. Assumes nothing.
use mathlib.Core.Path.{◌≡◌, refl, sym, ap, ◌∙◌}
use Prim.Native.Nat.{ℕ, ◌+◌, ◌≤◌}
use native.Mathlib.Omega.{arith}
use mathlib.Core.Bool.{true}
use mathlib.Core.List.{List, [], ◌∷◌, ◌++◌, append_assoc}
use lib.IntN.{ℤ}
use lib.ListN.{length, take, drop}
use Rattle.event_file.specs.Records.{records_of}
use Rattle.event_file.specs.Lines.{last_line}
use Rattle.event_file.specs.Files.{lines_from, lines_of, free_table}
use Rattle.event_turns.specs.declared.Held.{Held}
use Rattle.event_turns.specs.declared.Sent.{Sent}
use Rattle.event_turns.specs.declared.Piece.{Piece}
use Rattle.event_turns.specs.declared.Stand.{Stand}
use Rattle.event_turns.specs.declared.Stand.TheVariants.{Going, Ended, Failed, Used}
use Rattle.event_turns.specs.declared.Turn.{Turn}
use Rattle.event_turns.specs.declared.Over.TheVariants.{Printed}
use Rattle.event_turns.specs.Turns.{Filled, left_of, due_from, piece_of, Turned, starts_one, start_of, Goes, here, turn, Gone, Stops, RunsPrint, VersionPrints}
use Rattle.std.proofs.lemmas.List.{append-nil}

-- ---- the first byte

pub starts-some : (s : List ℕ) → starts_one s ≡ true → 1 ≤ length s
unfolding starts_one
starts-some [] e = absurd (cc)
starts-some (a ∷ s) e = omega arith

-- ---- a run

-- what was handed over, and what is due, stays
goes-due : {from onto : ℤ} {h : Held} {old : List ℕ} {n : ℕ} {s : Stand} {k : Held} {now read written : List ℕ} → Goes from onto h old n s k now read written → (later : List ℕ) → written ++ due_from k now later ≡ due_from h old (read ++ later)
goes-due here later = refl
goes-due {from} {onto} {h} {old} (turn {n} {k} {now} {after} {lines} {read} {written} {r} g t) later =
    append_assoc written (take r.sent.wrote lines) (due_from r.held after later)
    ∙ (ap (λ (s : List ℕ). written ++ s) (t.same later) ∙ (goes-due g (piece_of r after ++ later) ∙ ap (due_from h old) (sym (append_assoc read (piece_of r after) later))))

one-starts : (s later : List ℕ) → starts_one s ≡ true → lines_from free_table 1 (records_of (drop 1 s ++ later)) ≡ lines_of (s ++ later)
unfolding starts_one lines_of
one-starts [] later e = absurd (cc)
one-starts (a ∷ s) later e = rw e refl

-- one turn more
pub gone-on : {from onto : ℤ} {h : Held} {old : List ℕ} {n : ℕ} {k : Held} {now after lines : List ℕ} {r : Turn} → Gone from onto h old n Going k now → Turned from onto k now after lines r
    → (s : Stand) → r.stand ≡ s → Gone from onto h old (n + 1) s r.held after
gone-on {after = after} {lines = lines} {r = r} g t s e = record { read = g.read ++ piece_of r after; written = g.written ++ take r.sent.wrote lines; goes = rw (← e) (turn g.goes t) }

-- a descriptor goes to a call as bits, and comes back as the same number
pub filled-as : {from from' : ℤ} {left : ℕ} {old now : List ℕ} {p : Piece} → from ≡ from' → Filled from left old now p → Filled from' left old now p
filled-as e f = rw (← e) f

-- at the end of the input the last line is due
goes_last : {from onto : ℤ} {h : Held} {old : List ℕ} {n : ℕ} {s : Stand} {k : Held} {now read written : List ℕ} → Goes from onto h old n s k now read written → s ≡ Ended → due_from k now [] ≡ last_line (left_of k)
goes_last here e = absurd (cc)
goes_last (turn g t) e = t.last e

printed : (onto : ℤ) (left : ℕ) (lines : List ℕ) (s : Stand) (last : Sent) → Stops onto left lines s (Printed last) → (s ≡ Ended) × (take last.wrote lines ≡ last_line left)
unfolding Stops
printed onto left lines Ended last p = let e : last ≡ p.0 = cc in (refl, rw e p.1.1.front)
printed onto left lines Failed last p = absurd (cc)
printed onto left lines Used last p = absurd (cc)
printed onto left lines Going last p = absurd (cc)

pub runs-print : RunsPrint
unfolding due_from
runs-print from onto to input now lines last e r =
    let g = r.gone.goes in
    let p = printed onto _ lines r.stand last r.stops in
    ap (λ (s : List ℕ). r.gone.written ++ s) (p.1 ∙ sym (goes_last g p.0))
    ∙ (goes-due g [] ∙ (ap (due_from (start_of to) input) (append-nil r.gone.read) ∙ one-starts (take to input) r.gone.read e))

pub version-prints : VersionPrints
unfolding starts_one lines_of
version-prints [] later e h = rw (h refl) refl
version-prints (a ∷ s) later e h = rw e refl
