-- The line of one record of a log: its ordinal, and what its frame gives. "Fields stand one space apart; hexadecimal letters are capitals."
-- Assumes nothing.
use Rattle.std.specs.Prelude.{ℕ, ◌%◌, Bool, true, false, cond, List, [], ◌∷◌, ◌++◌, ltb, eqb, length, Option, Some, None}
use Rattle.std.specs.List.{flat_map}
use Rattle.felica_format.specs.Command.{Command}
use Rattle.felica_format.specs.Read.{Answer as Reading, gives, refused}
use Rattle.felica_text.specs.Text.{text, byte_text, decimal_text}
use Rattle.felica_fields.specs.Refused.{refused_text}

-- 01: "Mark `o` (no key) when the code's lowest bit is 1, else `k`."
abbrev pub key_text : ℕ → List ℕ
key_text code = cond (eqb (code % 2) 1) (text "o") (text "k")

-- W-201: "FFFF names the system and gets `s`."
abbrev pub is_system : ℕ → Bool
is_system code = eqb code 0xFFFF

-- "A listed code whose low six bits are 0 or 1 shall get the mark `a`."
abbrev pub is_area : ℕ → Bool
is_area code = ltb (code % 64) 2

-- "This amends 01's rule on marks; other codes keep theirs"
abbrev pub mark_text : ℕ → List ℕ
mark_text code = cond (is_system code) (text "s") (cond (is_area code) (text "a") (key_text code))

abbrev pub marks_text : List ℕ → List ℕ
marks_text = flat_map mark_text

-- "one mark per listed code, run together in field order, or `-` for none"
unfoldable pub mark_field : List ℕ → List ℕ
mark_field [] = text "-"
mark_field (code ∷ codes) = marks_text (code ∷ codes)

-- "areas and services together", in field order; only Authentication1 has a second list
abbrev pub listed_codes : Command → List ℕ
listed_codes c = c.first ++ c.second

-- "OK, code in two digits, number of listed codes, number of blocks", "the count of long elements behind the block count", and the marks
unfoldable pub accepted_text : ℕ → List ℕ → ℕ → ℕ → List ℕ
accepted_text code codes blocks long =
    text "OK " ++ (byte_text code ++ (text " " ++ (decimal_text (length codes) ++ (text " " ++ (decimal_text blocks ++ (text " " ++ (decimal_text long ++ (text " " ++ mark_field codes))))))))

-- "A refused line has ordinal, NO, number, code or `--`."
abbrev pub frame_text : Reading → List ℕ
frame_text (gives c long) = accepted_text c.code (listed_codes c) (length c.numbers) long
frame_text (refused n code) = refused_text n code

-- "the record's ordinal from 1", then what its frame gives, and the line's end, whose code is 10
unfoldable pub record_line : ℕ → Reading → List ℕ
record_line ordinal reading = decimal_text ordinal ++ (text " " ++ (frame_text reading ++ (10 ∷ [])))

-- what a frame counts for in the totals: whether it is accepted, and how many blocks it has then
abbrev pub is_accepted : Reading → Bool
is_accepted (gives c long) = true
is_accepted (refused n code) = false

abbrev pub blocks_in : Reading → ℕ
blocks_in (gives c long) = length c.numbers
blocks_in (refused n code) = 0

-- the same together: the blocks of an accepted frame
abbrev pub accepted_blocks : Reading → Option ℕ
accepted_blocks (gives c long) = Some (length c.numbers)
accepted_blocks (refused n code) = None
