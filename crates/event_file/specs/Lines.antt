-- Document 01, "Event file and the program `events`", and document 02, order 11: one line a record, and the last line. Assumes nothing.
use Rattle.std.specs.Prelude.{ℕ, List, [], ◌∷◌, ◌++◌, eqb, Option, Some, None, Result, Ok, Err}
use Prim.Native.Char.{code}
use Rattle.refusal.specs.Checks.{Said}
use Rattle.refusal.specs.Numbers.{number_of}
use Rattle.refusal.specs.declared.Refusal.{Refusal}
use Rattle.refusal.specs.Checks.Said.{refused, answers}
use Rattle.std.specs.Prelude.{if◌then◌else◌}
use Rattle.calls.specs.Calls.{Verdict, handed_up, duplicate, rogue, Answer, arrived, placed, done, swept}
use Rattle.calls.specs.Said.{said_arrival, said_opened, said_done, said_swept}
use Rattle.event_file.specs.Text.{text, decimal_of}
use Rattle.event_file.specs.declared.line.Reply.{Reply}
use Rattle.event_file.specs.declared.line.Reply.TheVariants.{Open, Close, Reset, Arrival, Tick}

-- ---- the answer, parted by single spaces, numbers in decimal

-- two numbers
abbrev pub pair_of : ℕ → ℕ → List ℕ
pair_of a b = decimal_of a ++ text " " ++ decimal_of b

-- Arrival prints `up`, `dup` or `rogue`, then slot and number.
abbrev pub verdict_word : Verdict → List ℕ
verdict_word (handed_up length) = text "up"
verdict_word duplicate = text "dup"
verdict_word rogue = text "rogue"

-- Order 11: "`events` prints the priority last on `up` lines."
abbrev pub priority_of : Verdict → (priority : ℕ) → List ℕ
priority_of (handed_up length) n = text " " ++ decimal_of n
priority_of duplicate n = []
priority_of rogue n = []

-- A refusal prints `no` and its number. Open prints the slot. Close and reset print `ok`. Tick prints streams reset and
-- records damaged.
unfoldable pub answer_of : Said Answer → List ℕ
answer_of (refused number) = text "no " ++ decimal_of number
answer_of (answers (arrived slot number x v)) = verdict_word v ++ text " " ++ pair_of slot number ++ priority_of v x.priority
answer_of (answers (placed slot)) = decimal_of slot
answer_of (answers done) = text "ok"
answer_of (answers (swept streams records)) = pair_of streams records

-- ---- the lines, each with its end

-- What a line tells of a record: that it is bad, or a letter and the answer.
pub data Entry : Type 0 where
  bad : Entry
  told : (letter : ℕ) → Said Answer → Entry

-- One line a record: its number, a letter (O C R A T), the answer. A bad record prints the record number and `bad`.
unfoldable pub line_of : (number : ℕ) → Entry → List ℕ
line_of number bad = decimal_of number ++ text " bad\n"
line_of number (told letter said) = decimal_of number ++ text " " ++ (letter ∷ text " ") ++ answer_of said ++ text "\n"

-- the last line, with so many bytes left behind the last whole record
unfoldable pub last_line : (left : ℕ) → List ℕ
last_line left = if eqb left 0 then text "end\n" else text "cut\n"

-- ---- what each case of a reply stands for

abbrev pub letter_of : Reply → ℕ
letter_of (Open o) = code "O"
letter_of (Close d) = code "C"
letter_of (Reset d) = code "R"
letter_of (Arrival a) = code "A"
letter_of (Tick s) = code "T"

-- of a call whose answers say this
abbrev pub said_by : {A : Type 0} → (A → Answer) → Result A Refusal → Said Answer
said_by says (Err refusal) = refused (number_of refusal)
said_by says (Ok a) = answers (says a)

abbrev pub said_reply : Reply → Said Answer
said_reply (Open o) = said_opened o
said_reply (Close d) = said_done d
said_reply (Reset d) = said_done d
said_reply (Arrival a) = said_arrival a
said_reply (Tick s) = said_swept s

-- of a bad record there is no reply
abbrev pub said_told : Option Reply → Entry
said_told None = bad
said_told (Some r) = told (letter_of r) (said_reply r)
