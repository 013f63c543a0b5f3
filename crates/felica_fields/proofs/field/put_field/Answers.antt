-- `felica_fields::field::put_field` meets its contract: the name, then the value.
-- Assumes nothing.
use Rattle.felica_put.proofs.Laws.{puts_then}
use Rattle.felica_fields.proofs.field.put_field.Goals as goal

pub returns : goal.returns
returns g c = puts_then c.put_all.ensures c.put.ensures
