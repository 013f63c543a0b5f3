-- A call of the writer: the size of its buffer, a command code, and behind them the fields of the command.
-- Assumes nothing.
use Rattle.std.specs.Prelude.{ℕ, List, Result, Ok}
use Rattle.felica_calls.specs.Field.{behind_field, next_field, behind_next}
use Rattle.felica_calls.specs.Read.{◌>>=◌}
use Rattle.felica_calls.specs.Number.{read_number}
use Rattle.felica_calls.specs.Source.{read_command_code}
use Rattle.felica_calls.specs.declared.fault.Fault.{Fault}
use Rattle.felica_calls.specs.declared.call.Call.{Call}
use Rattle.felica_calls.specs.declared.call.Call.TheVariants.{Write}

-- the longest buffer that the writer is lent
abbrev pub max_room : ℕ
max_room = 16384

-- by what follows the name
abbrev pub write_of : List ℕ → Result Call Fault
write_of s = do
  size ← read_number max_room (next_field s)
  c ← read_command_code (next_field (behind_next s))
  Ok (Write size c)

-- what follows the command code on a line
abbrev pub behind_code : List ℕ → List ℕ
behind_code line = behind_next (behind_next (behind_field line))
