-- A field of an answer: its name, with the space before it and the `=` behind it, and its value.
-- Assumes nothing.
use Rattle.std.specs.Prelude.{ℕ, List, ◌++◌, take, drop}
-- std has no name for the type of a text between quotes
use Prim.Native.String.{String}
use Rattle.felica_command.specs.Meaning.{bytes_at}
use Rattle.felica_command.specs.declared.command.Part.{Part}
use Rattle.felica_text.specs.Text.{text, byte_text, word_text, nibble_text, bytes_text, parted}
use Rattle.felica_fields.specs.Entries.{codes_text, blocks_text}

abbrev pub byte_field : String → ℕ → List ℕ
byte_field name b = text name ++ byte_text b

abbrev pub word_field : String → ℕ → List ℕ
word_field name w = text name ++ word_text w

abbrev pub bytes_field : String → List ℕ → List ℕ
bytes_field name bs = text name ++ bytes_text bs

-- lists: codes and block numbers, or places and modes
abbrev pub words_field : String → List ℕ → List ℕ
words_field name ws = text name ++ parted word_text ws

abbrev pub nibbles_field : String → List ℕ → List ℕ
nibbles_field name ns = text name ++ parted nibble_text ns

abbrev pub idm_field : List ℕ → List ℕ
idm_field idm = bytes_field " idm=" idm

-- lists and bytes of the payload s
abbrev pub first_field : List ℕ → Part → List ℕ
first_field s p = text " first=" ++ codes_text s p

abbrev pub second_field : List ℕ → Part → List ℕ
second_field s p = text " second=" ++ codes_text s p

abbrev pub blocks_field : List ℕ → Part → List ℕ
blocks_field s p = text " blocks=" ++ blocks_text s p

abbrev pub data_field : List ℕ → Part → List ℕ
data_field s p = bytes_field " data=" (bytes_at s p)

abbrev pub package_field : List ℕ → Part → List ℕ
package_field s p = bytes_field " package=" (bytes_at s p)

-- the 16 bytes beside a command: the challenge of 10 and 12; of 40 and 42; the issue id and the issue parameter of 80
abbrev pub challenge8 : List ℕ → List ℕ
challenge8 ch = bytes_field " challenge=" (take 8 ch)

abbrev pub challenge16 : List ℕ → List ℕ
challenge16 ch = bytes_field " challenge=" ch

abbrev pub issue_fields : List ℕ → List ℕ
issue_fields ch = bytes_field " issue_id=" (take 8 ch) ++ bytes_field " issue_parameter=" (drop 8 ch)
