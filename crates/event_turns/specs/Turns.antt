-- Document 01, "Event file and the program `events`": a run in turns. A turn answers what can be answered, hands its lines
-- over to be written, and reads a piece more. No contract can speak of the bytes that go through a descriptor; these speak
-- of the bytes that stand in the buffers when the calls are made, of the descriptors that the calls name and of their
-- answers. Assumes nothing.
use Rattle.std.specs.Prelude.{ℕ, zero, suc, ◌+◌, ◌-◌, ◌≤◌, ◌≡◌, Bool, true, false, not, ◌&&◌, List, [], ◌∷◌, ◌++◌, ℤ, Result, Ok, Err, is_ok, Option, Some, None, ⊤, length, take, drop, eqb, ltb}
use Rattle.std.specs.Prelude.{if◌then◌else◌}
use Rattle.event_file.specs.Text.{text}
use Rattle.event_file.specs.Records.{records_of, read_at}
use Rattle.event_file.specs.Lines.{last_line}
use Rattle.event_file.specs.Buffers.{line_most}
use Rattle.event_file.specs.Files.{free_table, lines_from, lines_of}
use Rattle.event_file.specs.declared.reader.Body.{Body}
use Rattle.event_run.specs.Run.{last_number, next_of}
use Rattle.event_run.specs.declared.Place.{Place}
use Rattle.std.specs.declared.io.Error.{Error}
use Rattle.event_turns.specs.declared.Held.{Held}
use Rattle.event_turns.specs.declared.Sent.{Sent}
use Rattle.event_turns.specs.declared.Piece.{Piece}
use Rattle.event_turns.specs.declared.Stand.{Stand}
use Rattle.event_turns.specs.declared.Stand.TheVariants.{Going, Ended, Failed, Used}
use Rattle.event_turns.specs.declared.Turn.{Turn}
use Rattle.event_turns.specs.declared.Over.{Over}
use Rattle.event_turns.specs.declared.Over.TheVariants.{Printed, Version, Stopped, LastNumber, LastTurn}

-- These bytes, at the front of the lines, were handed over to be written onto this descriptor.
pub record Handed (onto : ℤ) (bytes lines : List ℕ) (s : Sent) : Type 0 where
  pub there : s.onto ≡ onto
  pub front : take s.wrote lines ≡ bytes

-- what a read answers that has room for so many bytes: how many it brought, or that it failed
abbrev pub Moved : (room : ℕ) → Result ℕ Error → Type 0
Moved room (Ok n) = n ≤ room
Moved room (Err e) = ⊤

-- how many bytes a read brought that answered so
abbrev pub bytes_in : Result ℕ Error → ℕ
bytes_in (Ok n) = n
bytes_in (Err e) = 0

-- A piece was read behind the bytes that are left, which stay.
pub record Filled (from : ℤ) (left : ℕ) (old now : List ℕ) (p : Piece) : Type 0 where
  pub whence : p.from ≡ from
  pub to : p.to ≡ left + bytes_in p.got
  pub room : p.to ≤ length now
  pub kept : take left now ≡ take left old

-- where a run is at the start of a turn: no line waits
abbrev pub place_of : Held → Place
place_of h = record { number = h.number; at = h.at; used = 0 }

-- the bytes that are held, in the input buffer
abbrev pub held_in : Held → List ℕ → List ℕ
held_in h input = drop h.at (take h.to input)

abbrev pub left_of : Held → ℕ
left_of h = h.to - h.at

-- All that is printed from here on, where the input still brings these bytes.
unfoldable pub due_from : Held → (input later : List ℕ) → List ℕ
due_from h input later = lines_from h.table h.number (records_of (held_in h input ++ later))

-- what a turn read: the last bytes of those that are held after it
abbrev pub piece_of : Turn → List ℕ → List ℕ
piece_of r input = drop (r.held.to - bytes_in r.got) (take r.held.to input)

-- a turn that reads nothing
abbrev pub stays : Held → Sent → (from : ℤ) → Stand → Turn
stays h sent from stand = record { held = h; sent = sent; from = from; got = Ok 0; stand = stand }

-- where a turn left off answering, before it read: what is held after it, but for what it read, is left
abbrev pub left_at : Held → Turn → ℕ
left_at h r = h.to - (left_of r.held - bytes_in r.got)

abbrev pub is_whole : Option Body → Bool
is_whole (Some b) = true
is_whole None = false

-- a whole record is left before it reads
abbrev pub leaves_whole : Held → (old : List ℕ) → Turn → Bool
leaves_whole h old r = is_whole (read_at (take h.to old) (left_at h r))

-- a record that is left whole is answered by the next turn, if there is a number for the one after it
abbrev pub after_whole : (number : ℕ) → Stand
after_whole number = if ltb number last_number then Going else Used

-- a read that answers 0 has come to the end of the input; one that answers an error has failed
abbrev pub after_read : (got : Result ℕ Error) → Stand
after_read (Ok zero) = Ended
after_read (Ok (suc n)) = Going
after_read (Err e) = Failed

-- How a run stands after a turn, which reads exactly if its lines went out and no whole record is left.
abbrev pub stand_of : (out whole : Bool) (number : ℕ) (got : Result ℕ Error) → Stand
stand_of out whole number got = if out then (if whole then after_whole number else after_read got) else Failed

-- What a turn handed over to be written, and all that is printed from then on, is what was due before it with the piece
-- that it read; whatever comes later. Where the input has ended, only the last line is due. There was room for a line, and
-- no record is left that the turn could have answered: so a run that goes on has handed over a line or read a byte.
pub record Turned (from onto : ℤ) (h : Held) (old now lines : List ℕ) (r : Turn) : Type 0 where
  pub same : (later : List ℕ) → take r.sent.wrote lines ++ due_from r.held now later ≡ due_from h old (piece_of r now ++ later)
  pub last : r.stand ≡ Ended → due_from r.held now [] ≡ last_line (left_of r.held)
  pub room : line_most ≤ length lines
  pub none : next_of (record { number = r.held.number; at = left_at h r; used = r.sent.wrote }) (take h.to old) (length lines) ≡ None
  pub stand : r.stand ≡ stand_of r.sent.out (leaves_whole h old r) r.held.number r.got
  pub unread : (r.sent.out && not (leaves_whole h old r)) ≡ false → r.got ≡ Ok 0
  pub there : r.sent.onto ≡ onto
  pub whence : r.from ≡ from

-- A run, turn by turn, each of them but the last with the answer to go on: how many, how it stands and where it is, all
-- bytes that its turns have read, and all that they have handed over to be written.
pub data Goes (from onto : ℤ) (h : Held) (old : List ℕ) : (turns : ℕ) (s : Stand) (k : Held) (now read written : List ℕ) → Type 0 where
  here : Goes from onto h old 0 Going h old [] []
  turn : {n : ℕ} {k : Held} {now after lines read written : List ℕ} {r : Turn} → Goes from onto h old n Going k now read written
      → Turned from onto k now after lines r
      → Goes from onto h old (n + 1) r.stand r.held after (read ++ piece_of r after) (written ++ take r.sent.wrote lines)

-- the same, whatever was read and written
pub record Gone (from onto : ℤ) (h : Held) (old : List ℕ) (turns : ℕ) (s : Stand) (k : Held) (now : List ℕ) : Type 0 where
  pub read : List ℕ
  pub written : List ℕ
  pub goes : Goes from onto h old turns s k now read written

-- What a run comes to that stops as it stands: at the end of the input, and only there, the last line is handed over.
unfoldable pub Stops : (onto : ℤ) (left : ℕ) (lines : List ℕ) → Stand → Over → Type 0
Stops onto left lines Ended o = (last : Sent) × ((o ≡ Printed last) × Handed onto (last_line left) lines last)
Stops onto left lines Failed o = o ≡ Stopped
Stops onto left lines Used o = o ≡ LastNumber
Stops onto left lines Going o = o ≡ LastTurn

-- It goes by turns, and stops while it could go on only after 2^64 - 1 of them.
pub record Ran (from onto : ℤ) (h : Held) (old now lines : List ℕ) (o : Over) : Type 0 where
  pub turns : ℕ
  pub stand : Stand
  pub held : Held
  pub gone : Gone from onto h old turns stand held now
  pub stops : Stops onto (left_of held) lines stand o
  pub all : stand ≡ Going → turns ≡ last_number

-- the version byte, 1, stands at the start
unfoldable pub starts_one : List ℕ → Bool
starts_one [] = false
starts_one (version ∷ s) = eqb version 1

-- The table has 8 slots, free at first; records are numbered from 1; the first stands behind the version byte.
abbrev pub start_of : (to : ℕ) → Held
start_of to = record { table = free_table; number = 1; at = 1; to = to }

-- All that is printed of an absent or different version byte.
abbrev pub version_line : List ℕ
version_line = text "version\n"

-- A whole run: a first piece is read. If that starts with the version byte, the run goes by turns.
pub data Served (from onto : ℤ) : (now lines : List ℕ) → Over → Type 0 where
  failed : {old now lines : List ℕ} {p : Piece} → Filled from 0 old now p → is_ok p.got ≡ false → Served from onto now lines Stopped
  version : {old now lines : List ℕ} {p : Piece} {last : Sent} → Filled from 0 old now p → is_ok p.got ≡ true
      → starts_one (take p.to now) ≡ false → Handed onto version_line lines last → Served from onto now lines (Version last)
  goes : {old first now lines : List ℕ} {p : Piece} {o : Over} → Filled from 0 old first p → starts_one (take p.to first) ≡ true
      → Ran from onto (start_of p.to) first now lines o → Served from onto now lines o

-- the same of a run that has buffers of its own
pub record Runs (from onto : ℤ) (o : Over) : Type 0 where
  pub now : List ℕ
  pub lines : List ℕ
  pub served : Served from onto now lines o

-- However the reads cut the input, and however the lines are cut into writes: at the end of the input, what the turns
-- have handed over to be written and the last line are what document 01 says is printed of the bytes that were read.
abbrev pub RunsPrint : Type 0
RunsPrint =
    (from onto : ℤ) (to : ℕ) (input now lines : List ℕ) (last : Sent) → starts_one (take to input) ≡ true
    → (r : Ran from onto (start_of to) input now lines (Printed last))
    → r.gone.written ++ take last.wrote lines ≡ lines_of (take to input ++ r.gone.read)

-- An absent or different version byte: `version` and nothing more, whatever comes later. It is absent where the input has
-- ended before it.
abbrev pub VersionPrints : Type 0
VersionPrints =
    (first later : List ℕ) → starts_one first ≡ false → (first ≡ [] → later ≡ []) → lines_of (first ++ later) ≡ version_line
