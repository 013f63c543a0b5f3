-- `felica_answers::written::put_count_and_bytes` meets its contract: piece after piece.
-- Assumes nothing.
use Rattle.felica_put.proofs.Laws.{puts_then}
use Rattle.felica_answers.proofs.written.put_count_and_bytes.Goals as goal

pub returns : goal.returns
returns c = puts_then c.put_all.ensures (puts_then c.put_decimal.ensures (puts_then c.put.ensures c.put_hex.ensures))
