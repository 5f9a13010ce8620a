-- Document 01, "Event file and the program `events`": its example, input in hex and output, whole. Assumes nothing.
use Rattle.std.specs.Prelude.{ℕ, ◌+◌, ◌-◌, ◌*◌, ◌≡◌, List, [], ◌∷◌, ◌++◌, ltb, eqb}
use Prim.Native.Char.{Char, code}
use Prim.Native.String.{String, [] as blank, ◌∷◌ as ◌then◌}
use Rattle.std.specs.Prelude.{if◌then◌else◌}
use Rattle.event_file.specs.Text.{text}
use Rattle.event_file.specs.Files.{lines_of}

-- bytes in hex, two digits each, with spaces anywhere between them
abbrev pub hex_digit : Char → ℕ
hex_digit c = if ltb (code c) (code "A") then code c - code "0" else code c - code "A" + 10

unfoldable pub hex : String → List ℕ
hex blank = []
hex (a then blank) = []
hex (a then (b then s)) = if eqb (code a) (code " ") then hex (b then s) else (hex_digit a * 16 + hex_digit b) ∷ hex s

abbrev pub example_input : List ℕ
example_input =
    hex "01 000D 01 020000000001 0000 01 04 0003"
    ++ hex "0016 04 00 020000000001 020000000002 F1C1 0000 0007 0800"
    ++ hex "0016 04 01 020000000001 020000000002 F1C1 0000 0007 0800"
    ++ hex "0001 05  0001 05  0001 05"
    ++ hex "0016 04 01 020000000001 020000000002 F1C1 0000 0007 0800"

abbrev pub example_output : List ℕ
example_output =
    text "1 O 0\n"
    ++ text "2 A up 0 7 0\n"
    ++ text "3 A dup 0 7\n"
    ++ text "4 T 0 0\n"
    ++ text "5 T 0 0\n"
    ++ text "6 T 1 0\n"
    ++ text "7 A up 0 7 0\n"
    ++ text "end\n"

-- The example's input gives its output.
abbrev pub ExampleRuns : Type 0
ExampleRuns = lines_of example_input ≡ example_output
