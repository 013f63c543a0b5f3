-- The fields of a line, each behind one space.
-- Assumes nothing.
use Rattle.std.specs.Prelude.{ℕ, Bool, List, [], ◌∷◌, length, drop}
use Rattle.std.specs.Str.{bytes_eq}
-- std has no name for the code of a character.
use Prim.Native.Char.{code}
use Rattle.felica_text.specs.Text.{before}

-- the first field, and what follows it: nothing, or the space before the next field
abbrev pub field_of : List ℕ → List ℕ
field_of s = before (code " ") s

abbrev pub behind_field : List ℕ → List ℕ
behind_field s = drop (length (field_of s)) s

-- the same of the field behind a space
abbrev pub next_field : List ℕ → List ℕ
next_field s = field_of (drop 1 s)

abbrev pub behind_next : List ℕ → List ℕ
behind_next s = behind_field (drop 1 s)

-- whether a field is this name
abbrev pub is_name : List ℕ → List ℕ → Bool
is_name name s = bytes_eq s name

-- whether it is this one byte
abbrev pub is_byte : ℕ → List ℕ → Bool
is_byte b s = is_name (b ∷ []) s
