-- Document 01, "Calls and the order of checks" and "What the contracts have to say", and document 02, order 1: what holds of
-- the calls. Assumes nothing.
use Rattle.std.specs.Prelude.{ℕ, ◌≤◌, ◌<◌, ◌≡◌, ◌↔◌, Bool, true, false, ◌||◌, List, eqb, length}
use Rattle.refusal.specs.Checks.Said.{refused, answers}
use Rattle.refusal.specs.Numbers.{LONG, SHORT, UNTAGGED, GROUP}
use Rattle.record.specs.declared.Stream.{Stream}
use Rattle.record.specs.Sizes.{slots_most}
use Rattle.record.specs.Words.{yes}
use Rattle.frame.specs.Bytes.{overlay}
use Rattle.frame.specs.Frame.{Tag, dest_of, group_source, vlan_of, read_of, write_of, rank_of}
use Rattle.frame.specs.TagCalls.{take_tag}
use Rattle.frame.specs.declared.Rank.{Rank}
use Rattle.stream.specs.Record.{lawful, damaged}
use Rattle.stream.specs.Decisions.{up}
use Rattle.calls.specs.Table.{Table, at, search, some_slot, hears, is_free}
use Rattle.calls.specs.Calls.{Call, arriving, Act, refuse, arrive, opens, closes, resets, ticks, act, after, answer, output, out_of, written_for, handed_up, arrived, Result, Meets}
use Rattle.calls.specs.Said.{said_arrival, said_opened, said_done, said_swept}
use Rattle.calls.specs.Steps.{said_asked}
use Rattle.std.specs.Prelude.{Result as Answered}
use Rattle.refusal.specs.declared.Refusal.{Refusal}
use Rattle.calls.specs.declared.Arrived.{Arrived}
use Rattle.calls.specs.declared.Sums.{Sums}

-- Two results that meet the contract of a call coincide,
abbrev pub Coincide : Type 0
Coincide = (t : Table) (c : Call) (r s : Result) → Meets t c r → Meets t c s → r ≡ s

-- and equal `said` means equal answers.
abbrev pub AnswersTell : Type 0
AnswersTell =
    ((r s : Answered Arrived Refusal) → said_arrival r ≡ said_arrival s → r ≡ s)
    × ((r s : Answered ℕ Refusal) → said_opened r ≡ said_opened s → r ≡ s)
    × ((r s : Answered Unit Refusal) → said_done r ≡ said_done s → r ≡ s)
    × ((r s : Answered Sums Refusal) → said_swept r ≡ said_swept s → r ≡ s)

-- So it is of what an arrival asks of the table.
abbrev pub AskedTells : Type 0
AskedTells = (r s : Answered Tag Refusal) → said_asked r ≡ said_asked s → r ≡ s

-- "A refusal returns its number and changes nothing: no record, counter or output byte."
abbrev pub RefusedChangesNothing : Type 0
RefusedChangesNothing =
    (t : Table) (c : Call) (n : ℕ) → answer t (act t c) ≡ refused n
    → (after t (act t c) ≡ t) × (output t (out_of c) (act t c) ≡ out_of c)

-- "Calls for one slot leave every other record as it is." A tick is for every slot, and a refused call for none.
unfoldable pub for_slot : Act → (slot : ℕ) → Bool
for_slot (refuse n) j = false
for_slot (arrive i number network rank bare) j = eqb i j
for_slot (opens i s) j = eqb i j
for_slot (closes i) j = eqb i j
for_slot (resets i) j = eqb i j
for_slot ticks j = true

abbrev pub OthersStay : Type 0
OthersStay = (t : Table) (c : Call) (j : ℕ) → for_slot (act t c) j ≡ false → at (after t (act t c)) j ≡ at t j

-- No call changes the number of slots.
abbrev pub LengthKept : Type 0
LengthKept = (t : Table) (c : Call) → length (after t (act t c)) ≡ length t

-- "The lowest slot with the key is taken", and "the lowest free slot": where some slot passes, the search gives one that
-- passes with none below it; where no slot passes, none of the table does.
abbrev pub LowestFound : Type 0
LowestFound =
    (p : Stream → Bool) (t : Table) → some_slot p t ≡ true
    → (search p t < length t) × (p (at t (search p t)) ≡ true) × ((k : ℕ) → k < search p t → p (at t k) ≡ false)

abbrev pub NoneFound : Type 0
NoneFound = (p : Stream → Bool) (t : Table) → some_slot p t ≡ false → (k : ℕ) → k < length t → p (at t k) ≡ false

-- No call damages a table: where every record is lawful or free, every record is so after it.
abbrev pub NoneDamaged : Type 0
NoneDamaged =
    (t : Table) (c : Call) → ((j : ℕ) → damaged (at t j) ≡ false) → (j : ℕ) → damaged (at (after t (act t c)) j) ≡ false

-- An open fills its slot with a lawful record.
abbrev pub OpenLawful : Type 0
OpenLawful = (t : Table) (c : Call) (i : ℕ) (s : Stream) → act t c ≡ opens i s → lawful (at (after t (act t c)) i) ≡ true

-- An open never takes a slot in use.
abbrev pub OpenTakesFree : Type 0
OpenTakesFree = (t : Table) (c : Call) (i : ℕ) (s : Stream) → act t c ≡ opens i s → (i < length t) × (is_free (at t i) ≡ true)

-- "This mends a damaged record": a reset leaves a lawful one, whatever state it found.
abbrev pub ResetLawful : Type 0
ResetLawful = (t : Table) (c : Call) (i : ℕ) → act t c ≡ resets i → lawful (at (after t (act t c)) i) ≡ true

-- "Take a tag out: 3, 4, 5, 8 as an arrival gives them." Once 1 and 2 are passed, both refuse a frame with 3, 4 or 5, or
-- neither does;
abbrev pub by_frame : (number : ℕ) → Bool
by_frame n = eqb n LONG || eqb n SHORT || eqb n UNTAGGED

abbrev pub TakeRefusesFrame : Type 0
TakeRefusesFrame =
    (t : Table) (network : ℕ) (f out : List ℕ) (n : ℕ) → length t ≤ slots_most → network ≤ 1 → by_frame n ≡ true
    → (answer t (act t (arriving network f out)) ≡ refused n) ↔ ((take_tag f out).said ≡ refused n)

-- where 14, 6 and 7 are passed too, both refuse with the same number, 8 among them, or neither does;
abbrev pub TakeRefusesAlike : Type 0
TakeRefusesAlike =
    (t : Table) (network : ℕ) (f out : List ℕ) (n : ℕ) → length t ≤ slots_most → network ≤ 1 → group_source f ≡ false
    → some_slot (hears false (dest_of f) (vlan_of f)) t ≡ true → lawful (at t (search (hears false (dest_of f) (vlan_of f)) t)) ≡ true
    → (answer t (act t (arriving network f out)) ≡ refused n) ↔ ((take_tag f out).said ≡ refused n)

-- and for an arrival that is not refused, taking the tag out "answers number and length and writes as handed up does".
abbrev pub TakeWritesAlike : Type 0
TakeWritesAlike =
    (t : Table) (network : ℕ) (f out : List ℕ) (i number : ℕ) (rank : Rank) (bare : List ℕ)
    → act t (arriving network f out) ≡ arrive i number network rank bare
    → take_tag f out ≡ record { said = answers (record { number = number; length = length bare }); bytes = written_for up bare out }

-- Order 1: "Such a frame now reaches no stream." Every arrival of a frame with a group source is refused,
abbrev pub GroupReachesNone : Type 0
GroupReachesNone =
    (t : Table) (network : ℕ) (f out : List ℕ) → group_source f ≡ true
    → (n : ℕ) × (answer t (act t (arriving network f out)) ≡ refused n)

-- and once 1 to 5 are passed, with 14. Taking the tag out never gives that (`TakeNeverGroup`): so `TakeRefusesAlike` needs
-- its premise.
abbrev pub GroupRefused : Type 0
GroupRefused =
    (t : Table) (network : ℕ) (f out : List ℕ) (g : Tag) → length t ≤ slots_most → network ≤ 1 → read_of f ≡ answers g → group_source f ≡ true
    → answer t (act t (arriving network f out)) ≡ refused GROUP

-- The two halves fit: a frame that went through the writer, and then through an arrival of a stream that takes any number,
-- is handed up as it was before.
abbrev pub HalvesFit : Type 0
HalvesFit =
    (t : Table) (network : ℕ) (f : List ℕ) (number : ℕ) (g out : List ℕ) (i : ℕ)
    → length t ≤ slots_most → network ≤ 1 → number < 65536 → write_of f number ≡ answers g
    → some_slot (hears false (dest_of f) (vlan_of f)) t ≡ true → i ≡ search (hears false (dest_of f) (vlan_of f)) t
    → lawful (at t i) ≡ true → yes (at t i).state.any ≡ true → length f ≤ length out
    → (answer t (act t (arriving network g out)) ≡ answers (arrived i number (rank_of f) (handed_up (length f))))
    × (output t out (act t (arriving network g out)) ≡ overlay f out)
