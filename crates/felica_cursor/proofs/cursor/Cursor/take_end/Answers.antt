-- `Cursor::take_end` meets its contract.
-- Assumes nothing.
use Rattle.felica_cursor.proofs.Laws.{end_measured}
use Rattle.felica_cursor.proofs.cursor.Cursor.take_end.Goals as goal

pub returns : goal.returns
returns c = end_measured c.args.self c.measure.result c.measure.ensures
