-- `felica_text::put::put_hex_byte` meets its contract: two digits.
-- Assumes nothing.
use Rattle.felica_put.proofs.Laws.{puts_then}
use Rattle.felica_text.proofs.put.put_hex_byte.Goals as goal

pub returns : goal.returns
returns c = puts_then (rw c.hex_digit.ensures at c.put.ensures) (rw c.hex_digit-2.ensures at c.put-2.ensures)
