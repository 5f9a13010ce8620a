-- What the application gets from steps with batches is what it gets from the calls that they are read as. Assumes nothing.
use Prim.Native.Nat.{ℕ, zero, suc, ◌+◌, ◌-◌, ◌/◌, ◌%◌, ◌≤◌}
use mathlib.Core.Path.{◌≡◌, refl, sym, ap, ap₂, ◌∙◌}
use mathlib.Core.Option.{Option, none, some}
use mathlib.Core.List.{List, [], ◌∷◌, ◌++◌, map, flat_map, append_assoc}
use native.Mathlib.Omega.{arith}
use lib.Dec.{eqb}
use lib.ListN.{length, take, drop, replicate, length-append}
use lib.Seq.{length-take-le, take_at, drop_at}
use Rattle.refusal.specs.Checks.{Said}
use Rattle.refusal.specs.Checks.Said.{refused, answers}
use Rattle.std.specs.Prelude.{if◌then◌else◌}
use Rattle.frame.specs.Bytes.{overlay}
use Rattle.stream.specs.Decisions as decisions
use Rattle.stream.specs.Decisions.{verdict}
use Rattle.frame.specs.declared.Rank.{Rank}
use Rattle.calls.specs.Table.{Table, at}
use Rattle.calls.specs.Calls.{Call, Act, refuse, arrive, opens, closes, resets, ticks, act, Answer, arrived, placed, done, swept, handed_up, duplicate, rogue, verdict_with, answer, written_for, out_of, output, Result}
use Rattle.batch.specs.Batch.{Batch, frames_most, adds_for, adds, reached}
use Rattle.demands.specs.Receiver.{Receiver, MeetsContract, run, results}
use Rattle.demands.specs.Steps.{single, batch, Machine, MeetsAll, table_of, ran_steps, calls_of, read_as, AsCalls}
use Rattle.demands.proofs.Stepping.{batches-are-calls}
use Rattle.sender.specs.Runs.{Side}
use Rattle.delays.specs.Line.{came}
use Rattle.delays.proofs.Restart.{fresh-after-silence-steps, no-sooner}
use Rattle.end_to_end.specs.Bytes.{got_of, got, BytesToBytes}
use Rattle.end_to_end.specs.Batches.{takes, got_in, got_from, got_steps, GotAsCalls, BytesToBytesSteps, BytesToBytesRestartedSteps}

-- ---- one answer

-- A frame that is handed up stands whole in the output: as many bytes as are told.
abbrev pub Whole : Said Answer → List ℕ → Type 0
Whole (refused n) out = Unit {0}
Whole (answers (arrived j n x (handed_up l))) out = l ≤ length out
Whole (answers (arrived j n x duplicate)) out = Unit {0}
Whole (answers (arrived j n x rogue)) out = Unit {0}
Whole (answers (placed j)) out = Unit {0}
Whole (answers done) out = Unit {0}
Whole (answers (swept streams records)) out = Unit {0}

whole-verdict : (i n : ℕ) (x : Rank) (bare out : List ℕ) (v : decisions.Verdict)
    → Whole (answers (arrived i n x (verdict_with (length bare) v))) (written_for v bare out)
unfolding overlay
whole-verdict i n x bare out decisions.up = rw length-append (omega arith)
whole-verdict i n x bare out decisions.duplicate = tt
whole-verdict i n x bare out decisions.rogue = tt

whole-act : (t : Table) (out : List ℕ) (a : Act) → Whole (answer t a) (output t out a)
unfolding answer output
whole-act t out (refuse n) = tt
whole-act t out (arrive i n network x bare) = whole-verdict i n x bare out (verdict (at t i) n)
whole-act t out (opens i s) = tt
whole-act t out (closes i) = tt
whole-act t out (resets i) = tt
whole-act t out ticks = tt

pub whole : {receive : Receiver} → MeetsContract receive → (t : Table) (c : Call) → Whole (receive t c).said (receive t c).output
whole k t c = rw ((k t c).said, (k t c).output) (whole-act t (out_of c) (act t c))

-- Behind its two length bytes stands what the single call hands up,
same_bytes : (i : ℕ) (s : Said Answer) (bytes rest : List ℕ) → Whole s bytes → got_of i s (drop 2 (adds_for s bytes ++ rest)) ≡ got_of i s bytes
unfolding got_of adds_for
same_bytes i (refused n) bytes rest w = refl
same_bytes i (answers (arrived j n x (handed_up l))) bytes rest w =
    ap (λ (f : List ℕ). if eqb j i then f ∷ [] else []) (take_at (take l bytes) rest l (length-take-le l bytes w))
same_bytes i (answers (arrived j n x duplicate)) bytes rest w = refl
same_bytes i (answers (arrived j n x rogue)) bytes rest w = refl
same_bytes i (answers (placed j)) bytes rest w = refl
same_bytes i (answers done) bytes rest w = refl
same_bytes i (answers (swept streams records)) bytes rest w = refl

-- and behind that the rest.
pub goes_on : (s : Said Answer) (bytes rest : List ℕ) → Whole s bytes → drop (takes s) (adds_for s bytes ++ rest) ≡ rest
unfolding takes adds_for
goes_on (refused n) bytes rest w = refl
goes_on (answers (arrived j n x (handed_up l))) bytes rest w =
    drop_at (l / 256 % 256 ∷ l % 256 ∷ take l bytes) rest (2 + l) (omega (arith, length-take-le l bytes w))
goes_on (answers (arrived j n x duplicate)) bytes rest w = refl
goes_on (answers (arrived j n x rogue)) bytes rest w = refl
goes_on (answers (placed j)) bytes rest w = refl
goes_on (answers done) bytes rest w = refl
goes_on (answers (swept streams records)) bytes rest w = refl

-- ---- one batch

marks : (i k : ℕ) (out : List ℕ) → got_in i (replicate k none) out ≡ []
unfolding got_in
marks i zero out = refl
marks i (suc k) out = marks i k out

-- the answers of results, with marks behind them
abbrev pub told : List Result → ℕ → List (Option (Said Answer))
told rs k = map (λ (r : Result). some r.said) rs ++ replicate k none

module _ {receive : Receiver} (c : MeetsContract receive) (i : ℕ) where
  -- whatever the number of marks, and whatever stands behind what is packed
  packed : (t : Table) (cs : List Call) (k : ℕ) (tail : List ℕ)
      → got_in i (told (results receive t cs) k) (flat_map adds (results receive t cs) ++ tail) ≡ got receive i t cs
  unfolding got_in got results flat_map
  packed t [] k tail = marks i k tail
  packed t (x ∷ xs) k tail =
      let r : Result = receive t x in
      let rs : List Result = results receive r.table xs in
      let rest : List ℕ = flat_map adds rs ++ tail in
      let w = whole c t x in
      rw (append_assoc (adds r) (flat_map adds rs) tail)
      (ap₂ ◌++◌ (same_bytes i r.said r.output rest w)
      (ap (got_in i (told rs k)) (goes_on r.said r.output rest w) ∙ packed r.table xs k tail))

  append : (t : Table) (cs ds : List Call) → got receive i t (cs ++ ds) ≡ got receive i t cs ++ got receive i (run receive t cs) ds
  unfolding got run
  append t [] ds = refl
  append t (x ∷ xs) ds =
      let u : Table = (receive t x).table in
      let first : List (List ℕ) = got_of i (receive t x).said (receive t x).output in
      ap (λ (fs : List (List ℕ)). first ++ fs) (append u xs ds)
      ∙ sym (append_assoc first (got receive i u xs) (got receive i (run receive u xs) ds))

in-batch : {m : Machine} → MeetsAll m → (t : Table) (i : ℕ) (b : Batch) → got_from m i t (batch b) ≡ got m.receive i t (reached t b)
unfolding got_from overlay
in-batch {m} k t i b =
    let rs : List Result = results m.receive t (reached t b) in
    let a : AsCalls m t b rs = batches-are-calls k t b in
    ap₂ (got_in i) a.answers a.output
    ∙ packed k.receive i t (reached t b) (frames_most - length rs) (drop (length (flat_map adds rs)) b.out)

-- ---- runs of steps

steps : {m : Machine} → MeetsAll m → GotAsCalls m
unfolding got_steps got_from read_as calls_of table_of got
steps {m} k t i [] = refl
steps {m} k t i (single c ∷ ss) =
    ap (λ (fs : List (List ℕ)). got_of i (m.receive t c).said (m.receive t c).output ++ fs) (steps k (m.receive t c).table i ss)
steps {m} k t i (batch b ∷ ss) =
    let u : Table = (m.batch t b).table in
    let rest : List Call = read_as m u ss in
    ap₂ ◌++◌ (in-batch k t i b) (steps k u i ss ∙ ap (λ (v : Table). got m.receive i v rest) (batches-are-calls k t b).table)
    ∙ sym (append k.receive i t (reached t b) rest)

-- ---- of every machine that meets the documents

pub got-as-calls : (m : Machine) → MeetsAll m → GotAsCalls m
got-as-calls m k = steps k

module _ (m : Machine) (k : MeetsAll m) (side : Side) (p : BytesToBytes m.receive side) where
  pub bytes-to-bytes-steps : BytesToBytesSteps m side
  bytes-to-bytes-steps line b still before es s sending t i ss places fresh h =
      got-as-calls m k t i ss ∙ p line b still before es s sending t i (read_as m t ss) places fresh h

  pub bytes-to-bytes-restarted-steps : BytesToBytesRestartedSteps m side
  bytes-to-bytes-restarted-steps line b still start last x a was es s sending t i old new places silence apart h =
      let renewed = fresh-after-silence-steps k line start last x a was t i old silence apart (no-sooner line x a es h.keeps) in
      bytes-to-bytes-steps line b still [] (came x a ∷ es) s sending (ran_steps m t old) i new places renewed.0 h
