-- `put_end` meets its contract.
-- Assumes nothing.
use Rattle.felica_put.proofs.Laws.{puts_then}
use Rattle.felica_log.specs.Step.{end_text}
use Rattle.felica_log.proofs.end.put_end.Goals as goal

pub returns : goal.returns
unfolding end_text
returns c = puts_then c.put_rest_line.ensures c.put_total_line.ensures
