-- `parse_frame` meets its contract: the length byte is tested, and the rest is a payload.
-- Assumes nothing.
use Rattle.std.proofs.Common.{Err, ap, arith, drop}
use Rattle.felica_command.proofs.Settled.{refusal_settled}
use Rattle.felica_frame.proofs.Frame.{frame_empty, frame_length, frame_payload}
use Rattle.felica_frame.proofs.parse_frame.Goals as goal

pub returns-in_default : goal.returns-in_default
returns-in_default c = refusal_settled (drop 1 c.args.frame.now) 1 _ _ _ _ (ap Err c.without_code.ensures) (frame_empty _ c.in_default.ensures.cases)

pub returns-then-from-frame : goal.returns-then-from-frame
returns-then-from-frame c =
    let (is, size) = c.in-Some.ensures.cases in
    rw is (refusal_settled c.in-Some.payload.now 1 _ _ _ _ (ap Err c.without_code-then-from-frame.ensures) (frame_length _ _ (λ e. c.if-from-frame.true (omega (arith, size, c.from.ensures, e)))))

pub returns : goal.returns
returns c =
    let (is, size) = c.in-Some.ensures.cases in
    rw (is, frame_payload c.in-Some.field-0-0.now c.in-Some.payload.now (omega (arith, size, c.from.ensures, c.if-from-frame.false))) c.parse_payload.ensures
