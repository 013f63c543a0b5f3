-- What the writer is handed, as a command: "its code with every fixed field and list that the writer takes, data and package included".
-- Assumes nothing.
use Rattle.std.specs.Prelude.{ℕ, List}
use Rattle.felica_format.specs.Command.{Command}
use Rattle.felica_command.specs.declared.fixed.Fixed.{Fixed}

abbrev pub handed : ℕ → Fixed → List ℕ → List ℕ → List ℕ → List ℕ → List ℕ → List ℕ → List ℕ → Command
handed code fixed first second numbers places modes block_data issue_package =
    record {
      code = code;
      idm = fixed.idm;
      selector = fixed.selector;
      first = first;
      second = second;
      numbers = numbers;
      places = places;
      modes = modes;
      block_data = block_data;
      number = fixed.number;
      index = fixed.index;
      option = fixed.option;
      choice = fixed.choice;
      challenge = fixed.challenge;
      issue_package = issue_package;
    }
