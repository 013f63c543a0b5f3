-- `put_result` meets its contract.
-- Assumes nothing.
use Rattle.felica_put.proofs.Lists.{puts_same}
use Rattle.felica_line.proofs.Result.{codes_inside, command_says, refused_says}
use Rattle.felica_line.proofs.put_result.Goals as goal

pub put_accepted-requires : goal.put_accepted-requires
put_accepted-requires c =
    let a = c.args in
    codes_inside a.payload.now a.parsed c.in-Ok.parsed c.in-Ok.is c.lists-lists.ensures c.requires

pub returns-in-Ok : goal.returns-in-Ok
returns-in-Ok c =
    let a = c.args in
    let says = command_says a.payload.now a.parsed c.in-Ok.parsed c.in-Ok.is c.lists-lists.ensures c.requires c.command_code.ensures in
    record { text = puts_same c.put_accepted.ensures says.text_is; blocks = says.blocks_is }

pub returns-in-Err : goal.returns-in-Err
returns-in-Err c =
    let a = c.args in
    let says = refused_says a.payload.now a.parsed c.in-Err.is in
    record { text = puts_same c.put_refusal.ensures says.text_is; blocks = says.blocks_is }
