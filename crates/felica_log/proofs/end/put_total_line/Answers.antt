-- `put_total_line` meets its contract.
-- Assumes nothing.
use Rattle.felica_put.proofs.Laws.{puts_then}
use Rattle.felica_log.specs.Listing.{total_line}
use Rattle.felica_log.proofs.end.put_total_line.Goals as goal

pub returns : goal.returns
unfolding total_line
returns c =
    puts_then c.put_all.ensures
    (puts_then c.put_number.ensures (puts_then c.put_number-2.ensures (puts_then c.put_number-3.ensures (puts_then c.put_number-4.ensures c.put.ensures))))
