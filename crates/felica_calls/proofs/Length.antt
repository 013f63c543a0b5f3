-- How long the line is that says what is wrong with a call.
-- Assumes nothing.
use Rattle.std.proofs.Common.{◌≤◌, length, arith}
use Rattle.felica_calls.specs.Fault.{fault_text}
use Rattle.felica_calls.specs.declared.fault.Fault.{Fault}
use Rattle.felica_calls.specs.declared.fault.Fault.TheVariants.{EmptyLine, LineTooLong, UnknownCall, MissingField, ExtraField, BlankInside, ZeroX}
use Rattle.felica_calls.specs.declared.fault.Fault.TheVariants.{CodeSize, NoDigit as NotADigit, OddDigits, TooManyBytes, NoNumber, BufferTooLong}
use Rattle.felica_calls.specs.declared.fault.Fault.TheVariants.{UnknownField, FieldTwice, MalformedValue, ValueTooLong}

pub fault_length : (fault : Fault) → length (fault_text fault) ≤ 42
fault_length EmptyLine = omega arith
fault_length LineTooLong = omega arith
fault_length UnknownCall = omega arith
fault_length MissingField = omega arith
fault_length ExtraField = omega arith
fault_length BlankInside = omega arith
fault_length ZeroX = omega arith
fault_length CodeSize = omega arith
fault_length NotADigit = omega arith
fault_length OddDigits = omega arith
fault_length TooManyBytes = omega arith
fault_length NoNumber = omega arith
fault_length BufferTooLong = omega arith
fault_length UnknownField = omega arith
fault_length FieldTwice = omega arith
fault_length MalformedValue = omega arith
fault_length ValueTooLong = omega arith
