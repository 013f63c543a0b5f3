-- `felica_write::body::put_elements` meets its contract.
-- Assumes nothing.
use Rattle.std.proofs.Common.{[]}
use Rattle.std.specs.Iterator.Adapters.{zip_first, zip_second}
use Rattle.std.specs.Slice.Iter.{iter_rest}
use Rattle.felica_format.specs.Command.{elements_of}
use Rattle.felica_format.specs.Write.{each_bytes}
use Rattle.felica_writable.specs.Handed.{handed_by}
use Rattle.felica_write.proofs.Elements.{Left}
use Rattle.felica_write.proofs.body.put_elements.Given as goal

abbrev pub invariant-loop-number : goal.invariant-loop-number
invariant-loop-number l =
    let pairs = zip_first l.number-iterator in
    Left l.initial.out l.out (each_bytes [] (elements_of (handed_by l.command)))
    (iter_rest (zip_first pairs)) (iter_rest (zip_second pairs)) (iter_rest (zip_second l.number-iterator))
