-- `felica_write::body::put_body` meets its contract: its parts stand one behind the other.
-- Assumes nothing.
use Rattle.felica_format.specs.Write.{body_bytes}
use Rattle.felica_put.proofs.Laws.{puts_then}
use Rattle.felica_put.proofs.Lists.{puts_same}
use Rattle.felica_write.proofs.Ready.{idm_as_data}
use Rattle.felica_write.proofs.body.put_body.Goals as goal

pub returns : goal.returns
unfolding body_bytes
returns c =
    puts_then (puts_same c.put_if.ensures (idm_as_data c.args.layout.idm c.args.command.fixed.idm))
    (puts_then c.put_selector.ensures
    (puts_then c.put_codes.ensures
    (puts_then c.put_codes-2.ensures
    (puts_then c.put_elements.ensures
    (puts_then c.put_if-2.ensures
    (puts_then c.put_ending.ensures c.put_package.ensures))))))
