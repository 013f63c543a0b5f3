-- `felica_writable::lists::codes_ok` meets its contract.
-- Assumes nothing.
use Rattle.std.proofs.Common.{arith}
use Rattle.felica_format.specs.Writable.{codes_ok}
use Rattle.felica_writable.proofs.Laws.{known_tests, all_small}
use Rattle.felica_writable.proofs.lists.codes_ok.Goals as goal

pub returns-in-Some : goal.returns-in-Some
unfolding codes_ok
returns-in-Some c = grind (arith, known_tests, all_small 65536 c.args.list.now (λ i. (c.type_inv.list i).fits))
