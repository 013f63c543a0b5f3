-- `felica_calls::bytes::decode` meets its contract: a byte for each turn.
-- Assumes nothing.
use Rattle.std.proofs.Common.{◌∙◌, refl, ap, []}
use Rattle.std.specs.List.{flat_map}
use Rattle.felica_put.proofs.Laws.{puts_nothing}
use Rattle.felica_put.proofs.Lists.{puts_same, puts_turn, puts_all}
use Rattle.felica_calls.proofs.Reading.{pair_bytes, bytes_of_pairs}
use Rattle.felica_calls.proofs.bytes.decode.Goals as goal

pub loop-high-init : goal.loop-high-init
loop-high-init c = puts_nothing

pub loop-high-preserved : goal.loop-high-preserved
loop-high-preserved c =
    let pairs = c.as_chunks.result.0.now in
    puts_turn pair_bytes pairs c.loop-high.high-index [] c.loop-high-test.true c.loop-high.invariant (rw c.byte_of.ensures at c.put.ensures)

pub returns : goal.returns
returns c =
    let pairs = c.as_chunks.result.0.now in
    puts_same (puts_all pair_bytes pairs c.loop-high.high-index c.loop-high-test.false c.loop-high.invariant) (ap (flat_map pair_bytes) c.as_chunks.ensures.front ∙ bytes_of_pairs _ c.args.field.now refl)
