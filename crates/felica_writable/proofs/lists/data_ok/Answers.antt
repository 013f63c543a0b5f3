-- `felica_writable::lists::data_ok` meets its contract.
-- Assumes nothing.
use Rattle.std.proofs.Common.{arith}
use Rattle.felica_format.specs.Writable.{data_ok}
use Rattle.felica_writable.proofs.Laws.{known_tests, all_small, whole_blocks}
use Rattle.felica_writable.proofs.lists.data_ok.Goals as goal

pub returns-then-data-eq0 : goal.returns-then-data-eq0
unfolding data_ok
returns-then-data-eq0 c = grind (arith, known_tests, whole_blocks, all_small 256 c.args.data.now (λ i. (c.type_inv.data i).fits))
