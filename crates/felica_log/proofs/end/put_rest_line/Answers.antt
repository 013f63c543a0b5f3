-- `put_rest_line` meets its contract.
-- Assumes nothing.
use Rattle.felica_put.proofs.Laws.{puts_nothing}
use Rattle.felica_log.proofs.Front.{nothing_left, full_left, whole_left, cut_left}
use Rattle.felica_log.proofs.end.put_rest_line.Goals as goal

pub returns-in_default : goal.returns-in_default
returns-in_default c = rw (nothing_left c.args.totals c.args.rest.now c.in_default.len_below) puts_nothing

pub returns-then-totals-ge-MAX_RECORDS : goal.returns-then-totals-ge-MAX_RECORDS
returns-then-totals-ge-MAX_RECORDS c = rw (full_left c.args.totals c.args.rest.now c.in-len1-up.len_at_least c.if-totals-ge-MAX_RECORDS.true) c.put_all.ensures

pub returns-then-behind-size : goal.returns-then-behind-size
returns-then-behind-size c =
    let cut = rw c.from-size.ensures at c.if-behind-size.true in
    rw (cut_left c.args.totals c.args.rest.now c.in-len1-up.len_at_least c.if-totals-ge-MAX_RECORDS.false cut) (rw c.from-size.ensures at c.put_cut_line.ensures)

pub returns-else-behind-size : goal.returns-else-behind-size
returns-else-behind-size c =
    let whole = rw c.from-size.ensures at c.if-behind-size.false in
    rw (whole_left c.args.totals c.args.rest.now c.in-len1-up.len_at_least c.if-totals-ge-MAX_RECORDS.false whole) puts_nothing
