-- `felica_calls::fault::put_fault` meets its contract: a line for each fault.
-- Assumes nothing.
use Rattle.felica_put.proofs.Laws.{puts_then}
use Rattle.felica_calls.proofs.fault.put_fault.Goals as goal

pub returns : goal.returns
returns c = rw (← c.reason.ensures) (puts_then c.put_all.ensures c.put_all-2.ensures)
