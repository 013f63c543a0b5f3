-- `copy_over` meets its contract: item after item.
-- Assumes nothing.
use Rattle.std.proofs.Common.{sym, ◌∙◌, arith, take_all}
use Rattle.felica_put.proofs.copy_over.Goals as goal

pub returns : goal.returns
returns g c =
    let room = c.loop-i.room in
    let items = c.args.items.now in
    let i = c.loop-i.i in
    sym (take_all i room (omega (arith, c.loop-i.auto.room, c.requires))) ∙ c.loop-i.invariant ∙ take_all i items (omega arith)
