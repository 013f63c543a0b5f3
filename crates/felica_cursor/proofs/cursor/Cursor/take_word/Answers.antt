-- `Cursor::take_word` meets its contract.
-- Assumes nothing.
use Rattle.felica_format.specs.Layout.{word}
use Rattle.felica_cursor.proofs.Laws.{not_measured, read_alone}
use Rattle.felica_cursor.proofs.cursor.Cursor.take_word.Goals as goal

pub returns-in_err-measure : goal.returns-in_err-measure
returns-in_err-measure c = not_measured word _ _ _ c.in_err-measure.ensures c.from_residual.ensures

pub returns : goal.returns
returns c = read_alone word _ _ _ c.in_ok-measure.ensures c.take_packaged_word.ensures
