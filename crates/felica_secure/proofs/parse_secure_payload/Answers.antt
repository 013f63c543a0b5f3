-- `parse_secure_payload` meets its contract: the body is read, and a refusal gets the code.
-- Assumes nothing.
use Rattle.std.proofs.Common.{rules}
use Rattle.felica_command.proofs.Inside.{secure_inside}
use Rattle.felica_command.proofs.Settled.{settled}
use Rattle.felica_cursor.proofs.Walk.{with_code}
use Rattle.felica_secure.proofs.parse_secure_payload.Goals as goal

pub returns : goal.returns
returns c =
    let a = c.args in
    let is = with_code a.command_code c.parse_command.result c.map_err.result (λ why y h. search rules) c.map_err.ensures.cases in
    settled a.payload.now 0 _ _ (secure_inside a.command_code a.payload.now) (rw is c.parse_command.ensures)
