-- Document 01, "The stream record" and "Decisions": what holds of the definitions. Assumes nothing.
use Rattle.std.specs.Prelude.{◌≡◌, ℕ, ◌<◌, ◌≤◌, Bool, true, false, ◌&&◌, ℤ, pos, ◌+ℤ◌, ◌-ℤ◌, ◌*ℤ◌, neg_ℤ, ◌==◌, int_le, Some, None}
use Rattle.std.proofs.Math.Option.{some}
use Rattle.std.specs.Prelude.{if◌then◌else◌}
use Rattle.record.specs.Words.{yes}
use Rattle.record.specs.Sizes.{vector_rule, match_rule, link_rule}
use Rattle.stream.specs.History.{empty, single}
use Rattle.stream.specs.Record.{Counts, Stream, settled, lawful, opened}
use Rattle.stream.specs.Decisions.{behind, difference, as_int, up, duplicate, rogue, is_up, rise, with, verdict, decided, reset, ticked}
use Rattle.stream.specs.Steps.{Marks, plain, right, HandedUp, weighed, said, record_after, record_short}
use Rattle.stream.specs.WrapRun.{four, held}

-- "The difference is taken modulo 65536 and read as signed, from -32768 to 32767": it is in that range, it is congruent to
-- number - anchor, and no other integer is both.
abbrev pub Congruent : ℤ → ℤ → Type 0
Congruent a b = (m : ℤ) × (a ≡ b +ℤ m *ℤ pos 65536)

abbrev pub sixteen_bits : ℤ → Bool
sixteen_bits z = int_le (neg_ℤ (pos 32768)) z && int_le z (pos 32767)

abbrev pub DifferenceInRange : Type 0
DifferenceInRange = (number anchor : ℕ) → sixteen_bits (as_int (difference number anchor)) ≡ true

abbrev pub DifferenceCongruent : Type 0
DifferenceCongruent =
    (number anchor : ℕ) → number < 65536 → anchor < 65536
    → Congruent (as_int (difference number anchor)) (pos number -ℤ pos anchor)

abbrev pub DifferenceOnly : Type 0
DifferenceOnly =
    (number anchor : ℕ) (z : ℤ) → number < 65536 → anchor < 65536
    → sixteen_bits z ≡ true → Congruent z (pos number -ℤ pos anchor) → z ≡ as_int (difference number anchor)

-- "Counters may hold anything."
abbrev pub LawfulWithoutCounters : Type 0
LawfulWithoutCounters = (s : Stream) (c : Counts) → lawful (with s s.state c) ≡ lawful s

-- The two halves that the code asks for, one after the other, are `lawful`.
abbrev pub Halves : Type 0
Halves = (s : Stream) → lawful s ≡ (plain s && right s.rule s.window s.state.any s.state.early s.state.history)

-- A number that a record's rule can have: a byte for a virtual link.
abbrev pub Fitting : Stream → (number : ℕ) → Type 0
Fitting s number = (s.rule == link_rule) ≡ true → number ≤ 255

-- The decision, a tick and a reset leave a lawful record lawful. A reset mends a damaged record whose settings are within
-- the sizes, and what an open fills a slot with is lawful under the same condition.

abbrev pub DecidedLawful : Type 0
DecidedLawful = (s : Stream) (number network : ℕ) → Fitting s number → lawful s ≡ true → lawful (decided s number network) ≡ true

abbrev pub TickedLawful : Type 0
TickedLawful = (s : Stream) → lawful s ≡ true → lawful (ticked s) ≡ true

abbrev pub ResetLawful : Type 0
ResetLawful = (s : Stream) → yes s.used ≡ true → settled s ≡ true → lawful (reset s) ≡ true

abbrev pub OpenedLawful : Type 0
OpenedLawful =
    (dest vlan rule window time : ℕ) → settled (opened dest vlan rule window time) ≡ true
    → lawful (opened dest vlan rule window time) ≡ true

-- "A discard of either kind changes nothing but its counter and the arrival counter."
abbrev pub DuplicateChanges : Type 0
DuplicateChanges =
    (s : Stream) (number network : ℕ) → verdict s number ≡ duplicate
    → decided s number network ≡ with s s.state (record {
      arrivals0 = if network == 0 then rise s.counts.arrivals0 1 else s.counts.arrivals0;
      arrivals1 = if network == 0 then s.counts.arrivals1 else rise s.counts.arrivals1 1;
      passed = s.counts.passed;
      discarded = rise s.counts.discarded 1;
      rogue = s.counts.rogue;
      disorder = s.counts.disorder;
      lost = s.counts.lost;
      resets = s.counts.resets;
    })

abbrev pub RogueChanges : Type 0
RogueChanges =
    (s : Stream) (number network : ℕ) → verdict s number ≡ rogue
    → decided s number network ≡ with s s.state (record {
      arrivals0 = if network == 0 then rise s.counts.arrivals0 1 else s.counts.arrivals0;
      arrivals1 = if network == 0 then s.counts.arrivals1 else rise s.counts.arrivals1 1;
      passed = s.counts.passed;
      discarded = s.counts.discarded;
      rogue = rise s.counts.rogue 1;
      disorder = s.counts.disorder;
      lost = s.counts.lost;
      resets = s.counts.resets;
    })

-- "Handed up always adds 1 to passed and sets remaining to R", and nothing else does either.
abbrev pub OnlyUpRenews : Type 0
OnlyUpRenews =
    (s : Stream) (number network : ℕ)
    → (decided s number network).state.remaining ≡ (if is_up (verdict s number) then s.time else s.state.remaining)

abbrev pub OnlyUpPasses : Type 0
OnlyUpPasses =
    (s : Stream) (number network : ℕ)
    → (decided s number network).counts.passed ≡ (if is_up (verdict s number) then rise s.counts.passed 1 else s.counts.passed)

-- Vector, d from -(L-1) to 0: "The anchor stays", handed up or not. (So it does for a rogue further behind.)
abbrev pub AnchorStays : Type 0
AnchorStays =
    (s : Stream) (number network k : ℕ) → yes s.state.any ≡ false → (s.rule == vector_rule) ≡ true
    → difference number s.state.anchor ≡ behind k
    → (decided s number network).state.anchor ≡ s.state.anchor

-- A tick leaves damaged records "and the free ones untouched", and so it leaves a lawful one that has no tick left.
abbrev pub TickLeaves : Type 0
TickLeaves = (s : Stream) → lawful s ≡ false → ticked s ≡ s

abbrev pub TickNoneLeft : Type 0
TickNoneLeft = (s : Stream) → lawful s ≡ true → s.state.remaining ≡ 0 → ticked s ≡ s

-- The two steps that the code takes are the decision: for a lawful record the first tells its verdict, and the second gives
-- its record; for every other record there is no verdict, and the record stays.
abbrev pub StepsTellVerdict : Type 0
StepsTellVerdict = (s : Stream) (number : ℕ) → lawful s ≡ true → said (weighed s number) ≡ some (verdict s number)

abbrev pub StepsDecide : Type 0
StepsDecide =
    (s : Stream) (number network : ℕ) → lawful s ≡ true
    → record_after s network (weighed s number) ≡ decided s number network

abbrev pub StepsDamaged : Type 0
StepsDamaged = (s : Stream) (number : ℕ) → lawful s ≡ false → weighed s number ≡ None

abbrev pub StepsLeave : Type 0
StepsLeave =
    (s : Stream) (number network : ℕ) → lawful s ≡ false → record_after s network (weighed s number) ≡ s

-- Where the window is at most a word, the second step may write the first word of the history alone.
abbrev pub ShortStep : Type 0
ShortStep =
    (s : Stream) (number network : ℕ) (m : Marks) → s.window ≤ 64 → weighed s number ≡ Some (HandedUp m)
    → record_short s network m ≡ record_after s network (Some (HandedUp m))

-- The premises above are met: by fresh records and others of each rule, by a duplicate, a rogue and a late number, and by a
-- record that is not lawful.
abbrev pub PremisesMet : Type 0
PremisesMet =
    (lawful (four vector_rule) ≡ true) × (lawful (four match_rule) ≡ true)
    × (lawful (held vector_rule 9 single 3) ≡ true) × (lawful (held match_rule 9 empty 3) ≡ true)
    × (verdict (held vector_rule 9 single 3) 9 ≡ duplicate) × (verdict (held vector_rule 9 single 3) 13 ≡ rogue)
    × (verdict (held vector_rule 9 single 3) 8 ≡ up) × (difference 8 9 ≡ behind 1)
    × (lawful (held match_rule 9 single 3) ≡ false)

-- Two outcomes that meet a contract coincide: a contract of this crate is an equation of the outcome.
abbrev pub Coincide : Type 1
Coincide = (A : Type 0) (meant one other : A) → one ≡ meant → other ≡ meant → one ≡ other
