-- `felica_answers::fields::put_byte_and_nodes` meets its contract: field after field.
-- Assumes nothing.
use Rattle.felica_put.proofs.Laws.{puts_then}
use Rattle.felica_answers.proofs.fields.put_byte_and_nodes.Goals as goal

pub returns : goal.returns
returns c = puts_then c.put_field.ensures c.put_first.ensures
