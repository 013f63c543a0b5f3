-- `felica_answers::fields::put_polling` meets its contract: field after field.
-- Assumes nothing.
use Rattle.felica_put.proofs.Laws.{puts_then}
use Rattle.felica_answers.proofs.fields.put_polling.Goals as goal

pub returns : goal.returns
returns c = puts_then c.put_field.ensures (puts_then c.put_field-2.ensures c.put_field-3.ensures)
