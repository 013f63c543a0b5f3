-- What the program holds of the fields noted.
-- Assumes nothing.
use Rattle.std.specs.Prelude.{Result, Ok, Err}
use Rattle.felica_named.specs.declared.fault.FieldFault.{FieldFault}
use Rattle.felica_named.specs.Notes.{Noted}
use Rattle.felica_named.specs.declared.notes.Named.{Named}

-- the fields that a `Named` holds: contracts speak of it by this record
abbrev pub noted_in : Named → Noted
noted_in named = record { text = named.text.now; starts = named.starts }

-- and that an answer holds
abbrev pub answer_in : Result Named FieldFault → Result Noted FieldFault
answer_in (Ok named) = Ok (noted_in named)
answer_in (Err wrong) = Err wrong
