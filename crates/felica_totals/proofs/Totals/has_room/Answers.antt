-- `Totals::has_room` meets its contract.
-- Assumes nothing.
use Rattle.std.proofs.Common.{arith}
use Rattle.std.proofs.lemmas.Bool.Decides.{nat_tests}
use Rattle.felica_format.specs.Basic.{◌and◌}
use Rattle.felica_totals.specs.Count.{has_room}
use Rattle.felica_totals.proofs.Totals.has_room.Goals as goal

pub returns-then-self-lt18446744073709551615-3 : goal.returns-then-self-lt18446744073709551615-3
unfolding has_room ◌and◌
returns-then-self-lt18446744073709551615-3 c = grind (arith, nat_tests)

pub returns-else-self-lt18446744073709551615-3 : goal.returns-else-self-lt18446744073709551615-3
unfolding has_room ◌and◌
returns-else-self-lt18446744073709551615-3 c = grind (arith, nat_tests)
