-- `felica_answers::fields::put_fields` meets its contract: part after part.
-- Assumes nothing.
use Rattle.felica_put.proofs.Laws.{puts_then}
use Rattle.felica_answers.proofs.fields.put_fields.Goals as goal

pub returns : goal.returns
returns c = puts_then (c.put_idm_of.ensures _ _) (puts_then (c.put_codes_of.ensures _) (puts_then (c.put_blocks_of.ensures _) (puts_then (c.put_fixed_of.ensures _) (c.put_package_of.ensures _))))
