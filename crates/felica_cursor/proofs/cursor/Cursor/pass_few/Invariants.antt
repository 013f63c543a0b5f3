-- The walk has passed over whole elements, or stands one behind the payload's end, behind a long one that lacks its third byte.
-- Assumes nothing.
use Rattle.felica_cursor.proofs.Blocks.{Walk}
use Rattle.felica_cursor.proofs.cursor.Cursor.pass_few.Given as goal

abbrev pub invariant-loop-element : goal.invariant-loop-element
invariant-loop-element l = Walk l.payload l.self.at l.count l._element l.at
