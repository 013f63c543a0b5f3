-- A refusal as text: `NO n cc`, or `NO n --` where it has no code.
-- Assumes nothing.
use Rattle.std.specs.Prelude.{ℕ, List, ◌++◌, Option, None, Some}
use Rattle.felica_format.specs.Reasons.{number_of}
use Rattle.felica_command.specs.declared.command.Refusal.{Refusal}
use Rattle.felica_text.specs.Text.{text, byte_text, decimal_text}

-- "A refusal gives its number and, from 4 up, the command code"
abbrev pub refused_text : ℕ → Option ℕ → List ℕ
refused_text n None = text "NO " ++ (decimal_text n ++ text " --")
refused_text n (Some code) = text "NO " ++ (decimal_text n ++ (text " " ++ byte_text code))

abbrev pub refusal_text : Refusal → List ℕ
refusal_text why = refused_text (number_of why.reason) why.command_code
