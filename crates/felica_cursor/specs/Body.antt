-- What a function that reads a body step by step promises.
-- Assumes nothing.
use Rattle.std.specs.Prelude.{ℕ, Some, Result, Ok, Err}
use Rattle.felica_format.specs.Layout.{layout_of}
use Rattle.felica_format.specs.Read.{read_body, answer_of}
use Rattle.felica_format.specs.declared.error.Reason.{Reason}
use Rattle.felica_command.specs.Meaning.{refusal}
use Rattle.felica_command.specs.Places.{Account}
use Rattle.felica_command.specs.declared.command.Parsed.{Parsed}
use Rattle.felica_command.specs.declared.command.Refusal.{Refusal}
use Rattle.felica_cursor.specs.Taken.{rest}
use Rattle.felica_cursor.specs.declared.cursor.Cursor.{Cursor}

-- the result of a command of this code: a refusal gives the code too
abbrev pub result_of : ℕ → Result Parsed Reason → Result Parsed Refusal
result_of code (Ok p) = Ok p
result_of code (Err why) = Err (refusal why (Some code))

-- the complete account of a result for the body from the cursor on, read by the layout of the code
abbrev pub BodyRead : Cursor → ℕ → Result Parsed Reason → Type 0
BodyRead c code r = Account c.payload.now c.at (answer_of code (read_body code (layout_of code) (rest c))) (result_of code r)
