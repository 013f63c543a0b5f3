-- The codes of a list are put as its text.
-- Assumes nothing.
use Rattle.felica_put.proofs.Lists.{puts_same}
use Rattle.felica_text.specs.Text.{word_text}
use Rattle.felica_fields.specs.Entries.{read_code}
use Rattle.felica_fields.proofs.Entries.{same_list}
use Rattle.felica_fields.proofs.list.CodesValue.put.Goals as goal

pub returns : goal.returns
returns c = puts_same c.put_list.ensures (same_list word_text read_code _ _)
