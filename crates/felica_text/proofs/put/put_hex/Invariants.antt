-- `felica_text::put::put_hex` meets its contract.
-- Assumes nothing.
use Rattle.std.proofs.Common.{take}
use Rattle.felica_text.specs.Text.{digits_text}
use Rattle.felica_put.specs.Output.{Puts}
use Rattle.felica_text.proofs.put.put_hex.Given as goal

abbrev pub invariant-loop-byte : goal.invariant-loop-byte
invariant-loop-byte l = Puts l.initial.out l.out (digits_text (take l.byte-index l.bytes))
