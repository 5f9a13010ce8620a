-- Document 01, "Event file and the program `events`": an event file that is read piece by piece. Assumes nothing.
use Rattle.std.specs.Prelude.{ℕ, zero, suc, ◌+◌, ◌*◌, List, [], ◌∷◌, ◌++◌, length, drop, leb}
use Rattle.std.specs.Prelude.{if◌then◌else◌}
use Rattle.event_file.specs.Records.{File, records_of}
use Rattle.event_file.specs.Records.File.{ended, cut, body}

-- what is left behind the last whole record, with no more than `most` records before it
unfoldable pub rest_in : (most : ℕ) → List ℕ → List ℕ
rest_in zero s = s
rest_in (suc most) [] = []
rest_in (suc most) (a ∷ []) = a ∷ []
rest_in (suc most) (a ∷ b ∷ s) =
    if leb (a * 256 + b) (length s) then rest_in most (drop (a * 256 + b) s)
    else a ∷ b ∷ s

unfoldable pub rest_of : List ℕ → List ℕ
rest_of s = rest_in (length s) s

-- the records of one file, and then those of another
unfoldable pub and_then : File → File → File
and_then ended g = g
and_then cut g = g
and_then (body b f) g = body b (and_then f g)

-- what a reader finds that holds the rest of a record, gets a piece more, takes the whole records and holds the rest again
unfoldable pub pieces_of : (held : List ℕ) (pieces : List (List ℕ)) → File
pieces_of held [] = records_of held
pieces_of held (p ∷ ps) = and_then (records_of (held ++ p)) (pieces_of (rest_of (held ++ p)) ps)

-- the pieces joined
unfoldable pub all_of : List (List ℕ) → List ℕ
all_of [] = []
all_of (p ∷ ps) = p ++ all_of ps
