-- What the values of the fixed bytes that end a layout stand for.
-- Assumes nothing.
use Rattle.std.specs.Prelude.{ℕ, List}
use Rattle.felica_format.specs.Basic.{zeros}
use Rattle.felica_format.specs.Command.{EndFields, end_fields, no_fields}
use Rattle.felica_command.specs.Types.{encryption_byte, packet_byte}
use Rattle.felica_cursor.specs.declared.endings.Polling.{Polling}
use Rattle.felica_cursor.specs.declared.endings.Parameter.{Parameter}

-- bytes that were only measured, and bytes that have no value
abbrev pub as_size : ℕ → Unit {0} → ℕ
as_size size v = size

abbrev pub nothing_is : Unit {0} → EndFields
nothing_is v = no_fields

abbrev pub challenge_is : List ℕ → EndFields
challenge_is challenge = end_fields 0 0 0 0 challenge

abbrev pub word_is : ℕ → EndFields
word_is n = end_fields n 0 0 0 (zeros 16)

abbrev pub words_are : ℕ × ℕ → EndFields
words_are p = end_fields p.0 p.1 0 0 (zeros 16)

abbrev pub polling_is : Polling → EndFields
polling_is p = end_fields p.system_code 0 p.request_code p.time_slots (zeros 16)

abbrev pub types_are : Parameter → EndFields
types_are p = end_fields 0 0 (encryption_byte p.encryption_type) (packet_byte p.packet_type) (zeros 16)
