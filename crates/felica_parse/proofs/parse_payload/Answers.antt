-- `parse_payload` meets its contract: the code and the body behind it are read, and a refusal gets the code.
-- Assumes nothing.
use Rattle.std.proofs.Common.{Err, ap, rules}
use Rattle.felica_command.proofs.Inside.{payload_inside}
use Rattle.felica_command.proofs.Settled.{settled, refusal_settled}
use Rattle.felica_cursor.proofs.Walk.{with_code}
use Rattle.felica_parse.proofs.Entry.{payload_empty, payload_code}
use Rattle.felica_parse.proofs.parse_payload.Goals as goal

pub returns-in_default : goal.returns-in_default
returns-in_default c =
    let s = c.args.payload.now in
    refusal_settled s 1 _ _ _ _ (ap Err c.without_code.ensures) (payload_empty s c.in_default.ensures.value)

pub returns : goal.returns
returns c =
    let s = c.args.payload.now in
    let is = with_code c.in-Some.field-0.now c.parse_command.result c.map_err.result (λ why y h. search rules) c.map_err.ensures.cases in
    settled s 1 _ _ (payload_inside s) (rw (payload_code s _ c.in-Some.ensures.value, is) c.parse_command.ensures)
