-- The bytes of a call: hexadecimal digits, which go to a lent buffer.
-- Assumes nothing.
use Rattle.std.specs.Prelude.{ℕ, ◌+◌, ◌*◌, ◌/◌, ◌%◌, Bool, true, false, not, ◌||◌, cond, List, [], ◌∷◌, ◌++◌, length, drop, ltb, eqb, nat_eq, Result, Ok, Err, Option, Some, None}
use Rattle.std.specs.List.{list_all, starts_with}
-- std has no name for the code of a character
use Prim.Native.Char.{code}
use Rattle.felica_text.specs.Text.{text, digit_of}
use Rattle.felica_calls.specs.Field.{behind_next, is_name}
use Rattle.felica_calls.specs.Read.{Read, read}
use Rattle.felica_calls.specs.declared.fault.Fault.{Fault}
use Rattle.felica_calls.specs.declared.fault.Fault.TheVariants.{MissingField, ExtraField, BlankInside, ZeroX, NoDigit as NotADigit, OddDigits, TooManyBytes}

-- hexadecimal digits as bytes; what is no digit counts as 0
abbrev pub is_digit : Option ℕ → Bool
is_digit (Some v) = true
is_digit None = false

abbrev pub value_of : Option ℕ → ℕ
value_of (Some v) = v
value_of None = 0

unfoldable pub all_digits : List ℕ → Bool
all_digits s = list_all (λ d. is_digit (digit_of d)) s

-- digits and blanks alone
unfoldable pub digits_or_blanks : List ℕ → Bool
digits_or_blanks s = list_all (λ d. eqb d (code " ") || is_digit (digit_of d)) s

-- a 0x in front, as source code has it
abbrev pub has_zero_x : List ℕ → Bool
has_zero_x s = starts_with nat_eq s (text "0x") || starts_with nat_eq s (text "0X")

abbrev pub byte_of : ℕ → ℕ → ℕ
byte_of high low = 16 * value_of (digit_of high) + value_of (digit_of low)

unfoldable pub bytes_of : List ℕ → List ℕ
bytes_of [] = []
bytes_of (d ∷ []) = []
bytes_of (high ∷ low ∷ ds) = byte_of high low ∷ bytes_of ds

-- how many bytes there are, and what the lent buffer holds
abbrev pub Decoded : Type 0
Decoded = Read ℕ

abbrev pub decoded : Result ℕ Fault → List ℕ → Decoded
decoded answer buffer = read answer buffer

-- `-` is no bytes
unfoldable pub read_bytes : List ℕ → List ℕ → Decoded
read_bytes s buffer =
    cond (eqb (length s) 0) (decoded (Err MissingField) buffer)
    (cond (is_name (text "-") s) (decoded (Ok 0) buffer)
    (cond (has_zero_x s) (decoded (Err ZeroX) buffer)
    (cond (not (all_digits s)) (decoded (Err NotADigit) buffer)
    (cond (eqb (length s % 2) 1) (decoded (Err OddDigits) buffer)
    (cond (ltb (length buffer) (length s / 2)) (decoded (Err TooManyBytes) buffer)
    (decoded (Ok (length s / 2)) (bytes_of s ++ drop (length s / 2) buffer)))))))

-- the last field, with the space before it: nothing stands behind it
unfoldable pub read_last : List ℕ → List ℕ → Decoded
read_last s buffer =
    cond (eqb (length (behind_next s)) 0) (read_bytes (drop 1 s) buffer)
    (cond (has_zero_x (drop 1 s)) (decoded (Err ZeroX) buffer)
    (cond (digits_or_blanks (behind_next s)) (decoded (Err BlankInside) buffer)
    (decoded (Err ExtraField) buffer)))
