-- `felica_write::body::put_codes` meets its contract.
-- Assumes nothing.
use Rattle.std.proofs.Common.{take}
use Rattle.std.specs.List.{flat_map}
use Rattle.felica_format.specs.Basic.{word_bytes}
use Rattle.felica_put.specs.Output.{Puts}
use Rattle.felica_write.proofs.body.put_codes.Given as goal

abbrev pub invariant-loop-code : goal.invariant-loop-code
invariant-loop-code l = Puts l.initial.out l.out (flat_map word_bytes (take l.code-index l.list))
