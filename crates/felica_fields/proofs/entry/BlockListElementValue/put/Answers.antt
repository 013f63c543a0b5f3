-- An element is put as its text: the number, the place and the mode.
-- Assumes nothing.
use Rattle.felica_put.proofs.Laws.{puts_then}
use Rattle.felica_fields.proofs.entry.BlockListElementValue.put.Goals as goal

pub returns : goal.returns
returns c =
    let place = rw c.hex_digit.ensures at c.put-2.ensures in
    let mode = rw c.hex_digit-2.ensures at c.put-4.ensures in
    puts_then c.put_hex_word.ensures (puts_then c.put.ensures (puts_then place (puts_then c.put-3.ensures mode)))
