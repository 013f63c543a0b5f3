-- The line that says what is wrong with a call.
-- Assumes nothing.
use Rattle.std.specs.Prelude.{ℕ, List, ◌++◌}
use Rattle.felica_text.specs.Text.{text}
use Rattle.felica_calls.specs.declared.fault.Fault.{Fault}
use Rattle.felica_calls.specs.declared.fault.Fault.TheVariants.{EmptyLine, LineTooLong, UnknownCall, MissingField, ExtraField, BlankInside}
use Rattle.felica_calls.specs.declared.fault.Fault.TheVariants.{CodeSize, ZeroX, NoDigit as NotADigit, OddDigits, TooManyBytes, NoNumber, BufferTooLong}
use Rattle.felica_calls.specs.declared.fault.Fault.TheVariants.{UnknownField, FieldTwice, MalformedValue, ValueTooLong}

abbrev pub reason : Fault → List ℕ
reason EmptyLine = text "empty line"
reason LineTooLong = text "line too long"
reason UnknownCall = text "unknown call"
reason MissingField = text "missing field"
reason ExtraField = text "extra field"
reason BlankInside = text "blank inside the bytes"
reason CodeSize = text "command code not of two digits"
reason ZeroX = text "0x in front of the bytes"
reason NotADigit = text "not a hexadecimal digit"
reason OddDigits = text "odd number of hexadecimal digits"
reason TooManyBytes = text "too many bytes"
reason NoNumber = text "not a decimal number"
reason BufferTooLong = text "buffer too long"
reason UnknownField = text "unknown field"
reason FieldTwice = text "field given twice"
reason MalformedValue = text "malformed value"
reason ValueTooLong = text "value too long"

abbrev pub fault_text : Fault → List ℕ
fault_text fault = text "BAD CALL: " ++ reason fault
