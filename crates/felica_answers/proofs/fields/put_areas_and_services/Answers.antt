-- `felica_answers::fields::put_areas_and_services` meets its contract: field after field.
-- Assumes nothing.
use Rattle.felica_put.proofs.Laws.{puts_then}
use Rattle.felica_answers.proofs.fields.put_areas_and_services.Goals as goal

pub returns : goal.returns
returns c = puts_then c.put_first.ensures c.put_field.ensures
