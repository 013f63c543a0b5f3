-- `felica_format::constants::is_polling_time_slot` meets its contract: the formula, test by test.
-- Assumes nothing.
use Rattle.std.proofs.Common.{arith, lt-ltb, le-ltb}
use Rattle.felica_format.specs.Basic.{◌and◌}
use Rattle.felica_format.specs.Read.{is_time_slots}
use Rattle.felica_format.proofs.constants.is_polling_time_slot.Goals as goal

pub returns-then-value-lt16 : goal.returns-then-value-lt16
unfolding is_time_slots ◌and◌
returns-then-value-lt16 c = rw (lt-ltb c.args.value 16 (omega arith))

pub returns-else-value-lt16 : goal.returns-else-value-lt16
unfolding is_time_slots ◌and◌
returns-else-value-lt16 c = rw (le-ltb c.args.value 16 (omega arith))
