-- `Cursor::cut_off` meets its contract: of fewer than two bytes no element is taken.
-- Assumes nothing.
use Rattle.std.proofs.Common.{arith}
use Rattle.std.proofs.lemmas.List.{length-drop}
use Rattle.felica_cursor.proofs.Blocks.{none_of_one}
use Rattle.felica_cursor.proofs.cursor.Cursor.cut_off.Goals as goal

pub unreachable-requires : goal.unreachable-requires
unreachable-requires c = none_of_one _ _ _ (simp length-drop (omega arith)) c.in-Ok.ensures.read
