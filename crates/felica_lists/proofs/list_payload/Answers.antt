-- `list_payload` meets its contract: the parser's result for the payload, with its lists.
-- Assumes nothing.
use Rattle.felica_format.specs.Read.{read_payload}
use Rattle.felica_lists.specs.Lent.{held}
use Rattle.felica_lists.proofs.Give.{given_told}
use Rattle.felica_lists.proofs.list_payload.Goals as goal

pub returns-clause-listed : goal.returns-clause-listed
returns-clause-listed c =
    let s = c.args.payload.now in
    given_told s 1 (read_payload s) c.parse_payload.result _ (held c.args.out.now) _ c.parse_payload.ensures c.list_parsed.ensures.given
