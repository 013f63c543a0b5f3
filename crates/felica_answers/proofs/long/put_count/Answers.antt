-- `felica_answers::long::put_count` meets its contract: piece after piece.
-- Assumes nothing.
use Rattle.felica_put.proofs.Laws.{puts_then}
use Rattle.felica_answers.proofs.long.put_count.Goals as goal

pub returns : goal.returns
returns c = puts_then c.put_all.ensures (rw c.from.ensures at c.put_decimal.ensures)
