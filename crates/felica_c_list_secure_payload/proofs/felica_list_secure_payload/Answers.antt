-- `felica_list_secure_payload` meets its contract: what is told of the list reader's result is told of what the bytes give and the buffers held.
-- Assumes nothing.
use Rattle.std.proofs.Common.{rules}
use Rattle.felica_format.specs.Read.{read_secure}
use Rattle.felica_lists.specs.Lists.{buffers, listed}
use Rattle.felica_c.specs.Boundary.{lent}
use Rattle.felica_c.proofs.Laws.{list_tells}
use Rattle.felica_c_list_secure_payload.proofs.felica_list_secure_payload.Goals as goal

pub returns : goal.returns
returns c =
    let p = c.list_secure_payload-parsed in
    let a = c.args in
    let m = lent a.idm.now a.challenge.now a.fields.now a.parts.now in
    let b = buffers a.first.now a.second.now a.numbers.now a.places.now a.modes.now in
    list_tells a.payload.now 0 (listed (read_secure a.command_code a.payload.now) b) p.result p.new.out m _ p.ensures.listed.0 p.ensures.listed.1 c.tell.ensures
    (search rules) (search rules) (search rules) (search rules) (search rules)
