-- `Cursor::take_few` meets its contract: what was passed over is there, and the bytes that it takes tell how many elements were long.
-- Assumes nothing.
use Rattle.felica_cursor.proofs.Blocks.{passes_bounds, passes_takes}
use Rattle.felica_cursor.proofs.Laws.{refused}
use Rattle.felica_cursor.proofs.cursor.Cursor.take_few.Goals as goal

pub returns-in_err-behind : goal.returns-in_err-behind
returns-in_err-behind c = refused _ _ c.from_residual.ensures c.in_err-behind.ensures

pub between-requires : goal.between-requires
between-requires c = passes_bounds c.args.self c.in_ok-behind.behind c.args.count c.in_ok-behind.ensures

pub returns : goal.returns
returns c = passes_takes c.args.self c.in_ok-behind.behind c.args.count c.between.result c.in_ok-behind.ensures c.between.ensures
