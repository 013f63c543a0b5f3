-- `felica_writable::lists::all_below` meets its contract.
-- Assumes nothing.
use Rattle.std.proofs.Common.{◌∙◌, rules, tests, nat_lt}
use Rattle.std.proofs.lemmas.Iterator.{YieldsList-from_slice}
use Rattle.std.proofs.lemmas.Iterator.Search.{all_from_yields_List}
use Rattle.felica_writable.proofs.Laws.{each_below}
use Rattle.felica_writable.proofs.lists.all_below.Goals as goal

pub returns : goal.returns
returns c =
    let list = c.args.list.now in
    all_from_yields_List (λ x. nat_lt x c.args.bound) _ _ _ c.all.ensures.ran (YieldsList-from_slice list cc) (λ x b q k. search (rules, tests))
    ∙ each_below c.args.bound list
