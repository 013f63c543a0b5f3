-- `put_cut_line` meets its contract.
-- Assumes nothing.
use Rattle.felica_put.proofs.Laws.{puts_then}
use Rattle.felica_log.proofs.end.put_cut_line.Goals as goal

pub returns : goal.returns
returns c = puts_then c.put_all.ensures (puts_then c.put_number.ensures c.put.ensures)
