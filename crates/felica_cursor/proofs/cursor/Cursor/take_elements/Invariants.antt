-- The elements passed over by eights are there.
-- Assumes nothing.
use Rattle.std.proofs.Common.{◌*◌, Ok}
use Rattle.felica_cursor.specs.Steps.{Passes}
use Rattle.felica_cursor.proofs.cursor.Cursor.take_elements.Given as goal

abbrev pub invariant-loop-eight : goal.invariant-loop-eight
invariant-loop-eight l = Passes (8 * l._eight) l.self (Ok l.cursor)
