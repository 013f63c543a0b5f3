-- `put_accepted` meets its contract.
-- Assumes nothing.
use Rattle.std.proofs.Common.{sym, ap}
use Rattle.felica_put.proofs.Laws.{puts_then}
use Rattle.felica_put.proofs.Lists.{puts_same}
use Rattle.felica_text.specs.Text.{decimal_text}
use Rattle.felica_line.specs.Line.{accepted_text}
use Rattle.felica_line.proofs.Marks.{codes_counted}
use Rattle.felica_line.proofs.accepted.put_accepted.Goals as goal

pub returns : goal.returns
unfolding accepted_text
returns c =
    let a = c.args in
    let count = puts_same c.put_decimal.ensures (ap decimal_text (sym (codes_counted a.payload.now a.lists.first_codes a.lists.second_codes))) in
    puts_then c.put_all.ensures
    (puts_then c.put_hex_byte.ensures
    (puts_then c.put.ensures
    (puts_then count
    (puts_then c.put-2.ensures
    (puts_then c.put_decimal-2.ensures
    (puts_then c.put-3.ensures
    (puts_then (puts_same c.put_decimal-3.ensures (ap decimal_text c.from.ensures))
    (puts_then c.put-4.ensures c.put_mark_field.ensures))))))))
