-- `felica_calls::bytes::decode` meets its contract: a byte for each turn.
-- Assumes nothing.
use Rattle.std.proofs.Common.{take}
use Rattle.std.specs.List.{flat_map}
use Rattle.felica_put.specs.Output.{Puts}
use Rattle.felica_calls.proofs.Reading.{pair_bytes}
use Rattle.felica_calls.proofs.bytes.decode.Given as goal

abbrev pub invariant-loop-high : goal.invariant-loop-high
invariant-loop-high l = Puts l.initial.bytes l.bytes (flat_map pair_bytes (take l.high-index l.high-items))
