-- The elements in front are walked over.
-- Assumes nothing.
use Rattle.std.proofs.Common.{◌≡◌, ◌-◌, drop}
use Rattle.felica_cursor.specs.Taken.{rest}
use Rattle.felica_entries.specs.Entries.{element_behind}
use Rattle.felica_entries.proofs.block_at.Given as goal

abbrev pub invariant-loop-element : goal.invariant-loop-element
invariant-loop-element l = element_behind l.i (drop l.fn.list.start l.payload) ≡ element_behind (l.i - l._element) (rest l.cursor)
