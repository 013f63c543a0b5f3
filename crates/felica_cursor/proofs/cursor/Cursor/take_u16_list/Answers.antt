-- `Cursor::take_u16_list` meets its contract.
-- Assumes nothing.
use Rattle.std.proofs.Common.{refl}
use Rattle.felica_format.specs.Basic.{bind}
use Rattle.felica_format.specs.Read.{read_words, read_codes}
use Rattle.felica_command.specs.Meaning.{codes_at}
use Rattle.felica_cursor.specs.Steps.{CodesFrom}
use Rattle.felica_cursor.proofs.Laws.{refused, behind_count}
use Rattle.felica_cursor.proofs.cursor.Cursor.take_u16_list.Goals as goal

pub returns-in_err-count : goal.returns-in_err-count
unfolding read_codes bind
returns-in_err-count c = refused _ _ c.from_residual.ensures (rw c.in_err-count.ensures.read refl)

pub returns : goal.returns
unfolding read_codes
returns c = behind_count codes_at read_words CodesFrom _ _ _ _ _ c.in_ok-count.ensures c.take_u16s.ensures
