-- The lists of a command: the parts of its fields that hold codes or elements.
-- Assumes nothing.
use Rattle.felica_command.specs.Meaning.{Fields}
use Rattle.felica_command.specs.declared.command.Part.{Part}
use Rattle.felica_command.specs.declared.lists.Lists.{Lists}

abbrev pub lists : Part → Part → Part → Lists
lists first second blocks = record { first_codes = first; second_codes = second; block_list = blocks }

abbrev pub lists_in : Fields → Lists
lists_in f = lists f.first f.second f.elements
