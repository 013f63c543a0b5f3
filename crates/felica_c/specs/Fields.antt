-- The fields and parts of a command's kind, as `fields` and `parts` have them. A step between the contracts of this crate: `tell` and `unwritten` are
-- stated by it, the functions for C by Boundary.antt.
-- Assumes nothing.
use Rattle.std.specs.Prelude.{ℕ, List, Ok, Err}
use Rattle.felica_format.specs.Reasons.{number_of}
use Rattle.felica_command.specs.Meaning.{Fields, fields_of, ParserResult}
use Rattle.felica_command.specs.Places.{places_in}
use Rattle.felica_command.specs.declared.command.Refusal.{Refusal}
use Rattle.felica_c.specs.declared.answer.FelicaWritten.{FelicaWritten}
use Rattle.felica_c.specs.Boundary.{Lent, lent, fixed_fields, parts_of, Told, told, answer, code_or_zero}

-- the code, and the two lists that `put_fields` writes
pub record Put : Type 0 where
  pub code : ℕ
  pub fields : List ℕ
  pub parts : List ℕ

abbrev pub put : ℕ → List ℕ → List ℕ → Put
put code fields parts = record { code = code; fields = fields; parts = parts }

abbrev pub put_fields : Fields → Put
put_fields f = put f.code (fixed_fields f.selector f.number f.index f.option f.choice) (parts_of (places_in f))

abbrev pub tell : ParserResult → Lent → Told
tell (Ok p) m =
    told (answer 0 (put_fields (fields_of p.command)).code p.long)
    (lent p.idm p.challenge (put_fields (fields_of p.command)).fields (put_fields (fields_of p.command)).parts)
tell (Err why) m = told (answer (number_of why.reason) (code_or_zero why.command_code) 0) m

abbrev pub unwritten_by : Refusal → FelicaWritten
unwritten_by why = record { refusal = number_of why.reason; length = 0 }
