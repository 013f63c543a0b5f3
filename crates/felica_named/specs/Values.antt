-- What the values of noted fields hold.
-- Assumes nothing.
use Rattle.std.specs.Prelude.{ℕ, ◌+◌, ◌*◌, ◌%◌, Bool, cond, List, [], ◌∷◌, length, get_or, drop, eqb, Option, None, Some}
use Rattle.std.specs.List.{list_all}
-- std has no name for the code of a character
use Prim.Native.Char.{code}
use Rattle.felica_format.specs.Basic.{zeros, word_of}
use Rattle.felica_put.specs.Put.{buffer, put}
use Rattle.felica_text.specs.Text.{digit_of}
use Rattle.felica_calls.specs.Field.{field_of, is_byte}
use Rattle.felica_calls.specs.Bytes.{value_of, bytes_of}
use Rattle.felica_named.specs.Fields.{place}
use Rattle.felica_named.specs.Notes.{Noted}
use Rattle.felica_named.specs.declared.names.Field.{Field}

-- the value that begins at a place of the text
abbrev pub value_at : List ℕ → Option ℕ → List ℕ
value_at s None = []
value_at s (Some start) = field_of (drop start s)

-- the value of a field
abbrev pub value_named : Noted → Field → List ℕ
value_named noted field = value_at noted.text (get_or noted.starts (place field) None)

-- Hexadecimal numbers parted by commas: n is that of the digits before, and of it what counts below `kept` is kept, so that a number stays within its type.
unfoldable pub numbers_from : ℕ → ℕ → List ℕ → List ℕ
numbers_from kept n [] = n ∷ []
numbers_from kept n (d ∷ ds) =
    cond (eqb d (code ",")) (n ∷ numbers_from kept 0 ds)
    (numbers_from kept (n % kept * 16 + value_of (digit_of d)) ds)

-- a list: `-`, or no value, is empty
abbrev pub numbers_in : ℕ → List ℕ → List ℕ
numbers_in kept s = cond (eqb (length s) 0) [] (cond (is_byte (code "-") s) [] (numbers_from kept 0 s))

abbrev pub words_in : List ℕ → List ℕ
words_in s = numbers_in 4096 s

abbrev pub small_in : List ℕ → List ℕ
small_in s = numbers_in 16 s

-- what a buffer holds when the bytes of a value were put to its front
abbrev pub bytes_over : List ℕ → List ℕ → List ℕ
bytes_over held s = (put (buffer held 0) (bytes_of s)).bytes

abbrev pub byte_in : List ℕ → ℕ
byte_in s = get_or (bytes_over (zeros 1) s) 0 0

abbrev pub word_in : List ℕ → ℕ
word_in s = word_of (get_or (bytes_over (zeros 2) s) 1 0) (get_or (bytes_over (zeros 2) s) 0 0)

-- no digit but 0
unfoldable pub all_zero : List ℕ → Bool
all_zero s = list_all (λ d. eqb d (code "0")) s
