-- `put_number` meets its contract.
-- Assumes nothing.
use Rattle.felica_put.proofs.Laws.{puts_then}
use Rattle.felica_log.proofs.end.put_number.Goals as goal

pub returns : goal.returns
returns c = puts_then c.put.ensures c.put_decimal.ensures
