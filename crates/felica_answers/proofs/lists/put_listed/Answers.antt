-- `felica_answers::lists::put_listed` meets its contract: piece after piece.
-- Assumes nothing.
use Rattle.felica_put.proofs.Laws.{puts_then}
use Rattle.felica_put.proofs.Lists.{puts_same}
use Rattle.felica_answers.specs.Lists.{lists_text}
use Rattle.felica_answers.proofs.Listed.{command_line, refused_line}
use Rattle.felica_answers.proofs.lists.put_listed.Goals as goal

pub returns-in-Ok : goal.returns-in-Ok
unfolding lists_text
returns-in-Ok c =
    puts_same
    (puts_then c.put_all.ensures
    (puts_then c.put_hex_byte.ensures
    (puts_then c.put_field.ensures
    (puts_then c.put_field-in-Ok.ensures
    (puts_then c.put_field-in-Ok-2.ensures (puts_then c.put_field-in-Ok-3.ensures c.put_field-in-Ok-4.ensures))))))
    (command_line _ _ c.in-Ok.is c.lists-lists.ensures c.command_code.ensures c.front.ensures c.front-in-Ok.ensures c.front-in-Ok-2.ensures
    c.front-in-Ok-3.ensures c.front-in-Ok-4.ensures)

pub returns-in-Err : goal.returns-in-Err
returns-in-Err c = puts_same c.put_refusal.ensures (refused_line _ _ c.in-Err.is)
