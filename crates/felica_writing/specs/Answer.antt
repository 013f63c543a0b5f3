-- The answer to a call of the writer.
-- Assumes nothing.
use Rattle.std.specs.Prelude.{ℕ, cond, List, ◌++◌, ltb, Result, Ok, Err, codes as text}
use Rattle.felica_format.specs.Basic.{zeros}
use Rattle.felica_calls.specs.Fault.{fault_text}
use Rattle.felica_calls.specs.Write.{max_room}
use Rattle.felica_calls.specs.declared.fault.Fault.TheVariants.{BufferTooLong}
use Rattle.felica_named.specs.declared.fault.FieldFault.{FieldFault}
use Rattle.felica_named.specs.Notes.{Noted, fields_noted, name_at}
use Rattle.felica_named.specs.Handed.{command_named}
use Rattle.felica_write.specs.Writing.{writing}
use Rattle.felica_answers.specs.Written.{written_line}

-- what is wrong with a field of s, and its name, or the line of what the writer answers with a buffer of `size` zeros
abbrev pub answer_noted : ℕ → ℕ → List ℕ → Result Noted FieldFault → List ℕ
answer_noted size code s (Ok noted) = written_line (writing (command_named code noted) (zeros size))
answer_noted size code s (Err wrong) = fault_text wrong.fault ++ text ": " ++ name_at s wrong.at

-- s is what follows the command code
unfoldable pub write_answer : ℕ → ℕ → List ℕ → List ℕ
write_answer size code s = cond (ltb max_room size) (fault_text BufferTooLong) (answer_noted size code s (fields_noted s))
