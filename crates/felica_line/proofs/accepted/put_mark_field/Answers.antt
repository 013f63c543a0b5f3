-- `put_mark_field` meets its contract.
-- Assumes nothing.
use Rattle.felica_put.proofs.Laws.{puts_then}
use Rattle.felica_put.proofs.Lists.{puts_same}
use Rattle.felica_line.proofs.Marks.{no_marks, some_marks}
use Rattle.felica_line.proofs.accepted.put_mark_field.Goals as goal

pub returns-then-first-second-eq0 : goal.returns-then-first-second-eq0
returns-then-first-second-eq0 c =
    let a = c.args in
    puts_same c.put.ensures (no_marks a.payload.now a.first a.second c.if-first-second-eq0.true)

pub returns : goal.returns
returns c =
    let a = c.args in
    puts_same (puts_then c.put_marks.ensures c.put_marks-2.ensures) (some_marks a.payload.now a.first a.second c.if-first-second-eq0.false)
