-- `felica_answers::fields::put_issue` meets its contract: the first 8 bytes, then the others.
-- Assumes nothing.
use Rattle.std.proofs.Common.{drop, length-drop, arith}
use Rattle.std.proofs.lemmas.List.{take_all}
use Rattle.felica_put.proofs.Laws.{puts_then}
use Rattle.felica_answers.proofs.fields.put_issue.Goals as goal

pub returns : goal.returns
returns c =
    let tail = take_all 8 (drop 8 c.args.challenge) (omega (arith, length-drop 8 c.args.challenge)) in
    puts_then c.put_field.ensures (rw tail at c.put_field-2.ensures)
