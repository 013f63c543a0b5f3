-- `felica_text::put::put_hex_word` meets its contract: the high byte, then the low one.
-- Assumes nothing.
use Rattle.std.proofs.Common.{◌≡◌, ◌/◌, ◌%◌, get_or, arith}
use Rattle.std.proofs.lemmas.Grind.{common_steps}
use Rattle.felica_put.proofs.Laws.{puts_then}
use Rattle.felica_text.proofs.put.put_hex_word.Goals as goal

pub returns : goal.returns
returns c =
    let high : get_or c.to_be_bytes.result 0 0 ≡ c.args.word / 256 = grind (arith, common_steps) in
    let low : get_or c.to_be_bytes.result 1 0 ≡ c.args.word % 256 = grind (arith, common_steps) in
    puts_then (rw high at c.put_hex_byte.ensures) (rw low at c.put_hex_byte-2.ensures)
