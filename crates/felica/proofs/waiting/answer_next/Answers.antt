-- `answer_next` answers the line in the room that it makes.
-- Assumes nothing.
use Rattle.std.proofs.Common.{rules, ◌++◌}
use Rattle.felica_put.proofs.Laws.{puts_then}
use Rattle.felica_calls.specs.Fault.{fault_text}
use Rattle.felica_calls.specs.declared.fault.Fault.TheVariants.{LineTooLong}
use Rattle.felica_answering.proofs.SameCall.{line_put}
use Rattle.felica_answering.proofs.Length.{too_long_fits, call_fits}
use Rattle.felica.proofs.Held.{long_line_text, line_text, answer_put, room_kept, room_still}
use Rattle.felica.proofs.waiting.answer_next.Goals as goal

pub invariant_of-waiting-then-too_long : goal.invariant_of-waiting-then-too_long
invariant_of-waiting-then-too_long g c =
    record { room = room_still c.put.ensures (room_still c.put_fault.ensures (room_kept c.in_ok-make_room.ensures.out c.args.waiting.now.room)); bytes_size = c.args.waiting.now.bytes_size }

pub invariant_of-waiting-else-too_long-2 : goal.invariant_of-waiting-else-too_long-2
invariant_of-waiting-else-too_long-2 g c =
    record { room = room_still c.answer_line.ensures.2 (room_kept c.in_ok-make_room.ensures.out c.args.waiting.now.room); bytes_size = search rules }

pub returns-then-too_long : goal.returns-then-too_long
returns-then-too_long g c = λ passed is.
    answer_put (passed ++ c.args.line.now) (fault_text LineTooLong) c.in_ok-make_room.ensures.out c.args.waiting.now.room too_long_fits (puts_then c.put_fault.ensures c.put.ensures) _ _
    (long_line_text passed c.args.line.now (rw c.if-too_long.true at is)) c.in_ok-make_room.ensures.bytes

pub returns-else-too_long : goal.returns-else-too_long
returns-else-too_long g c = λ passed is.
    let told = line_put c.args.line.now c.args.waiting.now.bytes.now c.args.waiting.now.bytes_size c.answer_line.ensures in
    answer_put (passed ++ c.args.line.now) told.0 c.in_ok-make_room.ensures.out c.args.waiting.now.room (call_fits c.args.line.now told.0 told.1) told.2 _ _
    (line_text passed c.args.line.now told.0 (rw c.if-too_long.false at is) (c.requires c.if-too_long.false) told.1) c.in_ok-make_room.ensures.bytes
