-- `Cursor::take_challenge_16` meets its contract.
-- Assumes nothing.
use Rattle.felica_format.specs.Layout.{bytes}
use Rattle.felica_cursor.proofs.Laws.{not_measured, read_alone}
use Rattle.felica_cursor.proofs.cursor.Cursor.take_challenge_16.Goals as goal

pub returns-in_err-measure : goal.returns-in_err-measure
returns-in_err-measure c = not_measured (bytes 16) _ _ _ c.in_err-measure.ensures c.from_residual.ensures

pub returns : goal.returns
returns c = read_alone (bytes 16) _ _ _ c.in_ok-measure.ensures c.take_issue.ensures
