-- `list_frame` meets its contract: the parser's result for the frame, with the lists of what stands behind its length byte.
-- Assumes nothing.
use Rattle.std.proofs.Common.{ap, ◌∙◌, drop}
use Rattle.felica_format.specs.Read.{read_frame}
use Rattle.felica_lists.specs.Fill.{give}
use Rattle.felica_lists.specs.Lent.{held}
use Rattle.felica_lists.proofs.Give.{given_told}
use Rattle.felica_lists.proofs.list_frame.Goals as goal

pub returns-clause-listed : goal.returns-clause-listed
returns-clause-listed c =
    let s = c.args.frame.now in
    let b = held c.args.out.now in
    let p = c.parse_frame in
    given_told (drop 1 s) 1 (read_frame s) p.result _ b _ p.ensures (c.list_parsed.ensures.given ∙ ap (λ l. give l p.result b) c.payload_of.ensures)
