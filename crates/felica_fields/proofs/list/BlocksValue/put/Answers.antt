-- The elements of a block list are put as its text.
-- Assumes nothing.
use Rattle.felica_put.proofs.Lists.{puts_same}
use Rattle.felica_format.specs.Read.{read_element}
use Rattle.felica_fields.specs.Entries.{formed_text}
use Rattle.felica_fields.proofs.Entries.{same_list}
use Rattle.felica_fields.proofs.list.BlocksValue.put.Goals as goal

pub returns : goal.returns
returns c = puts_same c.put_list.ensures (same_list formed_text read_element _ _)
