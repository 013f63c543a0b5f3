-- `after_record` meets its contract.
-- Assumes nothing.
use Rattle.std.proofs.Common.{sym, ◌∙◌, arith}
use Rattle.felica_totals.proofs.Room.{room, counted_with_room, kept_without_room}
use Rattle.felica_totals.proofs.after_record.Goals as goal

pub returns-then-not-has_room : goal.returns-then-not-has_room
returns-then-not-has_room c = sym (kept_without_room _ _ _ (sym c.has_room.ensures ∙ c.if-not-has_room.true))

pub overflow_add-records : goal.overflow_add-records
overflow_add-records c = let h = room _ _ (sym c.has_room.ensures ∙ c.if-not-has_room.false) in omega arith

pub overflow_add-sum : goal.overflow_add-sum
overflow_add-sum c = let h = room _ _ (sym c.has_room.ensures ∙ c.if-not-has_room.false) in omega arith

pub overflow_add-result : goal.overflow_add-result
overflow_add-result c = let h = room _ _ (sym c.has_room.ensures ∙ c.if-not-has_room.false) in omega arith

pub overflow_add-result-else-accepted : goal.overflow_add-result-else-accepted
overflow_add-result-else-accepted c = let h = room _ _ (sym c.has_room.ensures ∙ c.if-not-has_room.false) in omega arith

pub returns-then-accepted : goal.returns-then-accepted
returns-then-accepted c = rw c.if-accepted.true (sym (counted_with_room _ _ _ (sym c.has_room.ensures ∙ c.if-not-has_room.false)))

pub returns-else-accepted : goal.returns-else-accepted
returns-else-accepted c = rw c.if-accepted.false (sym (counted_with_room _ _ _ (sym c.has_room.ensures ∙ c.if-not-has_room.false)))
