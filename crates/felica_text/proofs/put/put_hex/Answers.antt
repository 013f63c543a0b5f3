-- `felica_text::put::put_hex` meets its contract.
-- Assumes nothing.
use Rattle.std.proofs.Common.{rules}
use Rattle.felica_put.proofs.Laws.{puts_nothing}
use Rattle.felica_put.proofs.Lists.{puts_same, puts_turn, puts_all}
use Rattle.felica_text.specs.Text.{byte_text}
use Rattle.felica_text.proofs.Text.{bytes_none, bytes_some}
use Rattle.felica_text.proofs.put.put_hex.Goals as goal

pub returns-then-is_empty : goal.returns-then-is_empty
returns-then-is_empty c = puts_same c.put.ensures (bytes_none _ (search rules))

pub loop-byte-init : goal.loop-byte-init
loop-byte-init c = puts_nothing

pub loop-byte-preserved : goal.loop-byte-preserved
loop-byte-preserved c = puts_turn byte_text _ _ 0 c.loop-byte-test.true c.loop-byte.invariant c.put_hex_byte.ensures

pub returns : goal.returns
returns c = puts_same (puts_all byte_text _ _ c.loop-byte-test.false c.loop-byte.invariant) (bytes_some _ (search rules))
