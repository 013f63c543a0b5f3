-- `Cursor::take_block_list` meets its contract.
-- Assumes nothing.
use Rattle.std.proofs.Common.{refl}
use Rattle.felica_format.specs.Basic.{bind}
use Rattle.felica_format.specs.Read.{read_each, read_elements}
use Rattle.felica_cursor.specs.Steps.{elements_in, ElementsFrom}
use Rattle.felica_cursor.proofs.Laws.{refused, behind_count}
use Rattle.felica_cursor.proofs.cursor.Cursor.take_block_list.Goals as goal

pub returns-in_err-count : goal.returns-in_err-count
unfolding read_elements bind
returns-in_err-count c = refused _ _ c.from_residual.ensures (rw c.in_err-count.ensures.read refl)

pub returns-then-count-lt8 : goal.returns-then-count-lt8
unfolding read_elements
returns-then-count-lt8 c = behind_count elements_in read_each ElementsFrom _ _ _ _ _ c.in_ok-count.ensures c.take_few.ensures

pub returns : goal.returns
unfolding read_elements
returns c = behind_count elements_in read_each ElementsFrom _ _ _ _ _ c.in_ok-count.ensures c.take_elements.ensures
