-- The text that answers a call, and that of a line which says one.
-- Assumes nothing.
use Rattle.std.specs.Prelude.{ℕ, ◌≡◌, List, [], ◌∷◌, ◌++◌, take, Result, Ok, Err}
use Rattle.felica_format.specs.Basic.{zeros}
use Rattle.felica_command.specs.Places.{Account}
use Rattle.felica_command.specs.Meaning.{ParserResult}
use Rattle.felica_put.specs.declared.Output.{Output}
use Rattle.felica_put.specs.Output.{Puts}
use Rattle.felica_calls.specs.Fault.{fault_text}
use Rattle.felica_calls.specs.Write.{behind_code}
use Rattle.felica_calls.specs.Call.{Called, without_cr, read_call}
use Rattle.felica_calls.specs.declared.fault.Fault.{Fault}
use Rattle.felica_calls.specs.declared.call.Call.{Call}
use Rattle.felica_calls.specs.declared.call.Call.TheVariants.{Parse, Long, List as ListCall, Write}
use Rattle.felica_answers.specs.Answer.{line_of}
use Rattle.felica_answers.specs.Long.{long_line}
use Rattle.felica_writing.specs.Answer.{write_answer}
use Rattle.felica_answering.specs.Source.{reading_of, payload_in, body_at}
use Rattle.felica_answering.specs.Lists.{list_answer}

-- Of a call to parse, the line of the one result that the definitions allow; of one that asks how many elements were long, the line of what they count. The bytes of a call stand at the
-- front of a buffer, the fields of a call to write in the line.
abbrev pub AnswerText : List ℕ → Result Call Fault → List ℕ → List ℕ → Type 0
AnswerText line (Ok (Parse source n)) bytes text =
    (p : ParserResult) × Account (payload_in source (take n bytes)) (body_at source) (reading_of source (take n bytes)) p
    × (text ≡ line_of (payload_in source (take n bytes)) p)
AnswerText line (Ok (Long source n)) bytes text = text ≡ long_line (reading_of source (take n bytes))
AnswerText line (Ok (ListCall source n z)) bytes text = text ≡ list_answer (reading_of source (take n bytes)) z
AnswerText line (Ok (Write size c)) bytes text = text ≡ write_answer size c (behind_code line)
AnswerText line (Err fault) bytes text = text ≡ fault_text fault

-- bytes of the longest call
abbrev pub max_call_bytes : ℕ
max_call_bytes = 16384

-- what a line says as a call, by what stands before a CR at its end
abbrev pub call_of : List ℕ → Called
call_of line = read_call (without_cr line) (zeros max_call_bytes)

-- the text that answers it
abbrev pub CallText : List ℕ → List ℕ → Type 0
CallText line text = AnswerText (without_cr line) (call_of line).answer (call_of line).buffer text

-- The answer to a call is put. What it says may hang on the length of the buffer for its bytes.
abbrev pub CallPut : List ℕ → List ℕ → Output ℕ → Output ℕ → Type 0
CallPut line bytes a b = (text : List ℕ) × AnswerText line (read_call line bytes).answer (read_call line bytes).buffer text × Puts a b text

-- That to a line is put, and a line feed behind it, whose code is 10.
abbrev pub LinePut : List ℕ → List ℕ → Output ℕ → Output ℕ → Type 0
LinePut line bytes a b =
    (text : List ℕ) × AnswerText (without_cr line) (read_call (without_cr line) bytes).answer (read_call (without_cr line) bytes).buffer text
    × Puts a b (text ++ (10 ∷ []))

-- A call has one answer (proofs/OneAnswer.antt).
abbrev pub OneAnswer : Type 0
OneAnswer = (line : List ℕ) (call : Result Call Fault) (bytes a b : List ℕ) → AnswerText line call bytes a → AnswerText line call bytes b → a ≡ b
