-- `list_secure_payload` meets its contract: the parser's result for the code and its payload, with its lists.
-- Assumes nothing.
use Rattle.felica_format.specs.Read.{read_secure}
use Rattle.felica_lists.specs.Lent.{held}
use Rattle.felica_lists.proofs.Give.{given_told}
use Rattle.felica_lists.proofs.list_secure_payload.Goals as goal

pub returns-clause-listed : goal.returns-clause-listed
returns-clause-listed c =
    let s = c.args.payload.now in
    let p = c.parse_secure_payload in
    given_told s 0 (read_secure c.args.command_code s) p.result _ (held c.args.out.now) _ p.ensures c.list_parsed.ensures.given
