-- What a field says as a decimal number.
-- Assumes nothing.
use Rattle.std.specs.Prelude.{ℕ, ◌+◌, ◌-◌, ◌*◌, Bool, not, cond, List, [], ◌∷◌, length, ltb, eqb, Result, Ok, Err}
use Rattle.std.specs.List.{list_all}
use Rattle.std.specs.Char.{is_ascii_digit}
use Rattle.felica_calls.specs.declared.fault.Fault.{Fault}
use Rattle.felica_calls.specs.declared.fault.Fault.TheVariants.{MissingField, NoNumber, BufferTooLong}

unfoldable pub all_decimal : List ℕ → Bool
all_decimal s = list_all is_ascii_digit s

-- the value of decimal digits that follow those of n; 48 is the code of 0
unfoldable pub decimal_from : ℕ → List ℕ → ℕ
decimal_from n [] = n
decimal_from n (d ∷ ds) = decimal_from (10 * n + (d - 48)) ds

-- a field as a length of at most `most`
unfoldable pub read_number : ℕ → List ℕ → Result ℕ Fault
read_number most s =
    cond (eqb (length s) 0) (Err MissingField)
    (cond (not (all_decimal s)) (Err NoNumber)
    (cond (ltb most (decimal_from 0 s)) (Err BufferTooLong)
    (Ok (decimal_from 0 s))))
