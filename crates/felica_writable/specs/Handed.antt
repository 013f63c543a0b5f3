-- What the writer is handed, as a command.
-- Assumes nothing.
use Rattle.felica_format.specs.Command.{Command}
use Rattle.felica_command.specs.Handed.{handed}
use Rattle.felica_writable.specs.declared.handed.Handed.{Handed}

abbrev pub handed_by : Handed → Command
handed_by h = handed h.code h.fixed h.first.now h.second.now h.numbers.now h.places.now h.modes.now h.data.now h.package.now
