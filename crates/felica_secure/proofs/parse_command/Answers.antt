-- `parse_command` meets its contract: what none of the arms takes is no secure code.
-- Assumes nothing.
use Rattle.std.proofs.Common.{arith}
use Rattle.std.proofs.lemmas.Grind.{common_steps}
use Rattle.felica_format.specs.Layout.{class_of, has, plain_rows, secure_rows}
use Rattle.felica_secure.proofs.Entry.{secure_refused}
use Rattle.felica_secure.proofs.parse_command.Goals as goal

pub returns-in_default : goal.returns-in_default
unfolding class_of has plain_rows secure_rows
returns-in_default c = secure_refused c.args.start c.args.command_code (grind (arith, common_steps))
