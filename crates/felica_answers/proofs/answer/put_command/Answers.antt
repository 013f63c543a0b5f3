-- `felica_answers::answer::put_command` meets its contract.
-- Assumes nothing.
use Rattle.felica_put.proofs.Laws.{puts_then}
use Rattle.felica_answers.proofs.answer.put_command.Goals as goal

pub returns : goal.returns
returns c = puts_then c.put_all.ensures (puts_then (rw c.command_code.ensures at c.put_hex_byte.ensures) c.put_fields.ensures)
