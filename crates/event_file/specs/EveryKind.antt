-- Document 01, "Event file and the program `events`", and document 02, orders 5 and 11: a file with every kind, every letter, a bad record of
-- each sort and a cut, worked out by hand. Two kinds, two fields or two letters that are exchanged give other lines. Assumes nothing.
use Rattle.std.specs.Prelude.{ℕ, ◌≡◌, List, ◌++◌}
use Rattle.event_file.specs.Text.{text}
use Rattle.event_file.specs.Files.{lines_of}
use Rattle.event_file.specs.Example.{hex}

abbrev pub every_input : List ℕ
every_input =
    -- kind 1: vector, L = 4 and R = 3; kind 6: the same destination in VLAN 5, L = 65 and R = 2; kind 1: match, L = 4
    hex "01 000D 01 020000000001 0000 01 04 0003"
    ++ hex "000E 06 020000000001 0005 01 0041 0002"
    ++ hex "000D 01 020000000002 0000 02 04 0009"
    -- 7 on both networks, then L ahead, and L - 1 ahead
    ++ hex "0016 04 00 020000000001 020000000009 F1C1 0000 0007 0800"
    ++ hex "0016 04 01 020000000001 020000000009 F1C1 0000 0007 0800"
    ++ hex "0016 04 00 020000000001 020000000009 F1C1 0000 000B 0800"
    ++ hex "0016 04 00 020000000001 020000000009 F1C1 0000 000A 0800"
    -- in VLAN 5, with priority 6, 0 and 5: 256, then 64 ahead, and 65
    ++ hex "001A 04 01 020000000001 020000000009 8100 C005 F1C1 0000 0100 0800"
    ++ hex "001A 04 01 020000000001 020000000009 8100 0005 F1C1 0000 0140 0800"
    ++ hex "001A 04 01 020000000001 020000000009 8100 A005 F1C1 0000 0181 0800"
    -- match takes every number but the last one; a VLAN id of 0 is as no tag, but for the priority
    ++ hex "0016 04 00 020000000002 020000000009 F1C1 0000 0009 0800"
    ++ hex "0016 04 00 020000000002 020000000009 F1C1 0000 1388 0800"
    ++ hex "001A 04 00 020000000002 020000000009 8100 3000 F1C1 0000 0009 0800"
    ++ hex "0016 04 00 020000000002 020000000009 F1C1 0000 0009 0800"
    -- two ticks reset slot 1 alone, which then takes any number
    ++ hex "0001 05  0001 05"
    ++ hex "001A 04 01 020000000001 020000000009 8100 0005 F1C1 0000 03E8 0800"
    -- kind 3: slot 0 takes its last number again; kind 2: nothing has its key, until an open fills it
    ++ hex "0002 03 00"
    ++ hex "0016 04 00 020000000001 020000000009 F1C1 0000 000A 0800"
    ++ hex "0002 02 00"
    ++ hex "0016 04 00 020000000001 020000000009 F1C1 0000 000A 0800"
    ++ hex "000D 01 020000000001 0000 01 04 0003"
    -- refused: a free slot, one beyond the table, the key in use, L = 513
    ++ hex "0002 02 07  0002 03 08"
    ++ hex "000D 01 020000000001 0000 01 04 0003"
    ++ hex "000E 06 020000000001 0006 01 0201 0003"
    -- network 2, no tag, a group source, an empty frame
    ++ hex "0016 04 02 020000000001 020000000009 F1C1 0000 000A 0800"
    ++ hex "0010 04 00 020000000001 020000000009 0800"
    ++ hex "0016 04 00 020000000001 030000000009 F1C1 0000 000A 0800"
    ++ hex "0002 04 00"
    -- bad: no body, kinds 0 and 7, and of each kind a wrong length
    ++ hex "0000  0001 00  0001 07"
    ++ hex "000C 01 020000000001 0006 01 04 00  000E 01 020000000001 0006 01 0004 0003"
    ++ hex "0001 02  0003 03 0000  0001 04  0002 05 00"
    ++ hex "000D 06 020000000001 0006 01 04 0003  000F 06 020000000001 0006 01 0004 0003 00"
    -- five bytes are told, and two are there
    ++ hex "0005 04 00"

abbrev pub every_output : List ℕ
every_output =
    text "1 O 0\n2 O 1\n3 O 2\n"
    ++ text "4 A up 0 7 0\n5 A dup 0 7\n6 A rogue 0 11\n7 A up 0 10 0\n"
    ++ text "8 A up 1 256 6\n9 A up 1 320 0\n10 A rogue 1 385\n"
    ++ text "11 A up 2 9 0\n12 A up 2 5000 0\n13 A up 2 9 1\n14 A dup 2 9\n"
    ++ text "15 T 0 0\n16 T 1 0\n17 A up 1 1000 0\n"
    ++ text "18 R ok\n19 A up 0 10 0\n20 C ok\n21 A no 6\n22 O 0\n"
    ++ text "23 C no 12\n24 R no 12\n25 O no 10\n26 O no 9\n"
    ++ text "27 A no 2\n28 A no 5\n29 A no 14\n30 A no 4\n"
    ++ text "31 bad\n32 bad\n33 bad\n34 bad\n35 bad\n36 bad\n37 bad\n38 bad\n39 bad\n40 bad\n41 bad\n"
    ++ text "cut\n"

abbrev pub EveryKind : Type 0
EveryKind = lines_of every_input ≡ every_output

-- Order 10: a virtual link is opened, reset, ticked and closed, and no kind is for its arrivals.
abbrev pub link_input : List ℕ
link_input =
    -- rule 3; with VLAN id 5, and with L = 1, it is a setting outside the sizes
    hex "01 000D 01 020000000001 0000 03 04 0003"
    ++ hex "000D 01 020000000001 0005 03 04 0003"
    ++ hex "000E 06 020000000002 0000 03 0001 0003"
    -- open's 10 looks at it, an arrival does not; the key with VLAN id 5 is another
    ++ hex "000D 01 020000000001 0000 01 04 0003"
    ++ hex "0016 04 00 020000000001 020000000009 F1C1 0000 0007 0800"
    ++ hex "000D 01 020000000001 0005 01 04 0003"
    ++ hex "000D 01 020000000001 0000 03 04 0003"
    -- reset, tick, close; then a vector stream has its key
    ++ hex "0002 03 00  0001 05  0002 02 00"
    ++ hex "000D 01 020000000001 0000 01 04 0003"
    ++ hex "0016 04 00 020000000001 020000000009 F1C1 0000 0007 0800"

abbrev pub link_output : List ℕ
link_output =
    text "1 O 0\n2 O no 9\n3 O no 9\n"
    ++ text "4 O no 10\n5 A no 6\n6 O 1\n7 O no 10\n"
    ++ text "8 R ok\n9 T 0 0\n10 C ok\n11 O 0\n12 A up 0 7 0\nend\n"

abbrev pub LinkKinds : Type 0
LinkKinds = lines_of link_input ≡ link_output
