-- `felica_parse_payload` meets its contract: what is told of the parser's result is told of what the bytes give.
-- Assumes nothing.
use Rattle.std.proofs.Common.{◌∙◌}
use Rattle.felica_format.specs.Read.{read_payload}
use Rattle.felica_c.specs.Boundary.{lent}
use Rattle.felica_c.proofs.Laws.{result_tells}
use Rattle.felica_c_parse_payload.proofs.felica_parse_payload.Goals as goal

pub returns : goal.returns
returns c =
    let p = c.parse_payload-parsed in
    let a = c.args in
    c.tell.ensures ∙ result_tells a.payload.now 1 (read_payload a.payload.now) p.result (lent a.idm.now a.challenge.now a.fields.now a.parts.now) p.ensures.0 p.ensures.1
