-- `is_over` meets its contract.
-- Assumes nothing.
use Rattle.std.proofs.Common.{arith}
use Rattle.std.proofs.lemmas.Bool.Decides.{nat_tests}
use Rattle.list_log.specs.Held.{over}
use Rattle.list_log.proofs.is_over.Goals as goal

pub returns-then-ended : goal.returns-then-ended
unfolding over
returns-then-ended c = grind (arith, nat_tests)

pub returns-then-totals-ge-MAX_RECORDS : goal.returns-then-totals-ge-MAX_RECORDS
unfolding over
returns-then-totals-ge-MAX_RECORDS c = grind (arith, nat_tests)

pub returns-else-totals-ge-MAX_RECORDS : goal.returns-else-totals-ge-MAX_RECORDS
unfolding over
returns-else-totals-ge-MAX_RECORDS c = grind (arith, nat_tests)
