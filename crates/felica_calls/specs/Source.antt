-- What the bytes of a call are: F is a frame, P a payload, S with a command code the payload of that secure code.
-- Assumes nothing.
use Rattle.std.specs.Prelude.{ℕ, cond, List, [], ◌∷◌, length, eqb, Result, Ok, Err}
use Rattle.felica_text.specs.Text.{text}
use Rattle.felica_calls.specs.Field.{field_of, behind_field, next_field, behind_next, is_name}
use Rattle.felica_calls.specs.Read.{◌>>=◌}
use Rattle.felica_calls.specs.Bytes.{all_digits, byte_of}
use Rattle.felica_calls.specs.declared.fault.Fault.{Fault}
use Rattle.felica_calls.specs.declared.fault.Fault.TheVariants.{UnknownCall, MissingField, CodeSize, NoDigit as NotADigit}
use Rattle.felica_calls.specs.declared.source.Source.{Source}
use Rattle.felica_calls.specs.declared.source.Source.TheVariants.{Frame, Payload, Secure}

-- a command code in its two digits
unfoldable pub read_command_code : List ℕ → Result ℕ Fault
read_command_code [] = Err MissingField
read_command_code (d ∷ []) = Err CodeSize
read_command_code (d ∷ e ∷ []) = cond (all_digits (d ∷ e ∷ [])) (Ok (byte_of d e)) (Err NotADigit)
read_command_code (d ∷ e ∷ f ∷ ds) = Err CodeSize

-- by the name
unfoldable pub read_source : List ℕ → Result Source Fault
read_source s =
    cond (eqb (length s) 0) (Err MissingField)
    (cond (is_name (text "F") (field_of s)) (Ok Frame)
    (cond (is_name (text "P") (field_of s)) (Ok Payload)
    (cond (is_name (text "S") (field_of s)) (read_command_code (next_field (behind_field s)) >>= λ c. Ok (Secure c))
    (Err UnknownCall))))

-- what follows the name, and the code of a secure payload
abbrev pub behind_source : Source → List ℕ → List ℕ
behind_source Frame s = behind_field s
behind_source Payload s = behind_field s
behind_source (Secure c) s = behind_next (behind_field s)
