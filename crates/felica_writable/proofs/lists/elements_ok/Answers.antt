-- `felica_writable::lists::elements_ok` meets its contract.
-- Assumes nothing.
use Rattle.std.proofs.Common.{arith, rules}
use Rattle.felica_writable.proofs.Laws.{known_tests, all_small, lists_test}
use Rattle.felica_writable.proofs.lists.elements_ok.Goals as goal

pub returns-then-not-present : goal.returns-then-not-present
returns-then-not-present c = let a = c.args in grind (arith, known_tests, lists_test a.present, all_small 65536 a.numbers.now (λ i. search rules))

pub returns-then-all_below : goal.returns-then-all_below
returns-then-all_below c = let a = c.args in grind (arith, known_tests, lists_test a.present, all_small 65536 a.numbers.now (λ i. search rules))

pub returns-else-all_below : goal.returns-else-all_below
returns-else-all_below c = let a = c.args in grind (arith, known_tests, lists_test a.present, all_small 65536 a.numbers.now (λ i. search rules))
