-- `felica_answers::fields::put_types` meets its contract: field after field.
-- Assumes nothing.
use Rattle.felica_put.proofs.Laws.{puts_then}
use Rattle.felica_answers.proofs.fields.put_types.Goals as goal

pub returns : goal.returns
returns c = puts_then (rw c.to_byte.ensures at c.put_field.ensures) (rw c.to_byte-2.ensures at c.put_field-2.ensures)
