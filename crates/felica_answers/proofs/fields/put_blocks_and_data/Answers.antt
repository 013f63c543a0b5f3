-- `felica_answers::fields::put_blocks_and_data` meets its contract: field after field.
-- Assumes nothing.
use Rattle.felica_put.proofs.Laws.{puts_then}
use Rattle.felica_answers.proofs.fields.put_blocks_and_data.Goals as goal

pub returns : goal.returns
returns c = puts_then c.put_field.ensures (rw c.bytes_of.ensures at c.put_field-2.ensures)
