-- `keep_rest` meets its contract.
-- Assumes nothing.
use Rattle.felica_stream.proofs.Held.{move_inside, move_none, move_short}
use Rattle.felica_stream.proofs.keep_rest.Goals.{else-from-end-via-then-from-end+else-end-input, else-from-end-via-else-from-end}
use Rattle.felica_stream.proofs.keep_rest.Goals as goal

pub returns-then-end-input : goal.returns-then-end-input
returns-then-end-input c = move_inside _ _ _ c.if-end-input.true c.copy_within.ensures.after

pub returns-else-from-end : goal.returns-else-from-end
returns-else-from-end c = elim c.else-from-end.branch [
  | else-from-end-via-then-from-end+else-end-input w ↦ move_short _ _ _ w.if-end-input.false
  | else-from-end-via-else-from-end w ↦ move_none _ _ _ w.if-from-end.false
]
