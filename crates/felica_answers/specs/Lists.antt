-- The line that answers a call of the list reader: `OK cc first=... second=... numbers=... places=... modes=...`, or the refusal.
-- Assumes nothing.
use Rattle.std.specs.Prelude.{ℕ, List, ◌++◌, take, Ok, Err}
use Rattle.felica_format.specs.Read.{Answer as Reading, gives, refused}
use Rattle.felica_command.specs.Meaning.{Fields, fields_of, ParserResult}
use Rattle.felica_lists.specs.Lists.{Buffers}
use Rattle.felica_text.specs.Text.{text, byte_text}
use Rattle.felica_fields.specs.Field.{words_field, nibbles_field}
use Rattle.felica_fields.specs.Refused.{refused_text, refusal_text}

-- codes and block numbers in four digits, places and modes in one
unfoldable pub lists_text : ℕ → List ℕ → List ℕ → List ℕ → List ℕ → List ℕ → List ℕ
lists_text code first second numbers places modes =
    text "OK " ++ (byte_text code ++ (words_field " first=" first ++ (words_field " second=" second
    ++ (words_field " numbers=" numbers ++ (nibbles_field " places=" places ++ nibbles_field " modes=" modes)))))

-- the line of what the list reader answers
abbrev pub list_line : Reading → List ℕ
list_line (gives c long) = lists_text c.code c.first c.second c.numbers c.places c.modes
list_line (refused n code) = refused_text n code

-- the same for a result, whose lists stand at the front of the lent buffers
abbrev pub fronts_text : Fields → Buffers → List ℕ
fronts_text f b =
    lists_text f.code (take f.first.count b.first) (take f.second.count b.second) (take f.elements.count b.numbers)
    (take f.elements.count b.places) (take f.elements.count b.modes)

unfoldable pub listed_text : ParserResult → Buffers → List ℕ
listed_text (Ok p) b = fronts_text (fields_of p.command) b
listed_text (Err why) b = refusal_text why
